use Rattle.std.proofs.Common.{take}
use Rattle.std.specs.Prelude.{◌&&◌}
use Rattle.std.specs.List.{list_any}
use Rattle.kms_request.specs.Naming.{AreCrtcs}
use Rattle.kms_request.specs.Whole.{is_named_between}
use Rattle.kms_request.proofs.whole.named_by_picked.Given as goal

-- the CRTCs that those so far name that count
abbrev pub invariant-loop-a : goal.invariant-loop-a
invariant-loop-a g l = AreCrtcs (λ crtc. list_any (λ a. g.P.Picker.picked l.picks a && is_named_between l.states a crtc)
    (take l.a-index l.assigns)) l.named
