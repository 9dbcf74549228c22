use Rattle.std.proofs.Common.{◌≡◌}
use Rattle.kms_things.specs.Starting.{off_plane, states_below}
use Rattle.kms_things.proofs.starting.start_planes.Given as goal

abbrev pub invariant-loop-index : goal.invariant-loop-index
invariant-loop-index l = l.states ≡ states_below 16 off_plane l.index
