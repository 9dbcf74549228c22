use Rattle.std.proofs.Common.{◌≡◌}
use Rattle.kms_things.specs.Starting.{off_conn, states_below}
use Rattle.kms_things.proofs.starting.start_conns.Given as goal

abbrev pub invariant-loop-index : goal.invariant-loop-index
invariant-loop-index l = l.states ≡ states_below 8 (λ index. off_conn) l.index
