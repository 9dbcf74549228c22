use Rattle.std.proofs.Common.{◌≡◌, drop}
use Rattle.kms_core.specs.SwappedIn.{label_in}
use Rattle.kms_core.proofs.deciding.committing.label_at.Given as goal

-- the label among the rest is that among all
abbrev pub invariant-loop-object : goal.invariant-loop-object
invariant-loop-object l = label_in (drop l.object-index l.asked) l.crtc ≡ label_in l.asked l.crtc
