use Rattle.std.proofs.Common.{◌≡◌, drop}
use Rattle.kms_model.specs.Order.Suspending.{open_mode_label}
use Rattle.kms_things.proofs.labels.first_with_mode.Given as goal

-- the label among the things that are left is that among all
abbrev pub invariant-loop-thing : goal.invariant-loop-thing
invariant-loop-thing l = open_mode_label (drop l.thing-index l.things) l.mode ≡ open_mode_label l.things l.mode
