use Rattle.std.proofs.Common.{take}
use Rattle.std.specs.List.{list_any}
use Rattle.kms_request.specs.Naming.{AreCrtcs, set_names}
use Rattle.kms_request.proofs.naming.all_named_by.Given as goal

-- the CRTCs that the sets so far name
abbrev pub invariant-loop-set : goal.invariant-loop-set
invariant-loop-set l = AreCrtcs (λ crtc. list_any (λ s. set_names l.states s crtc) (take l.set-index l.sets)) l.named
