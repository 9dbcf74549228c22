use Rattle.std.proofs.Common.{◌≡◌, take}
use Rattle.kms_request.specs.Groups.{crtcs_fenced}
use Rattle.kms_request.proofs.groups.crtcs_fenced.Given as goal

abbrev pub invariant-loop-crtc : goal.invariant-loop-crtc
invariant-loop-crtc l = l.fenced ≡ crtcs_fenced (take l.crtc-index l.out_fences)
