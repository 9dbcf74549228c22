use Rattle.std.proofs.Common.{◌≡◌}
use Rattle.kms_things.specs.Starting.{off_crtc, states_below}
use Rattle.kms_things.proofs.starting.start_crtcs.Given as goal

abbrev pub invariant-loop-index : goal.invariant-loop-index
invariant-loop-index l = l.states ≡ states_below 4 (λ index. off_crtc) l.index
