use Rattle.std.proofs.Common.{take}
use Rattle.kms_request.specs.Fences.{TellOutFences}
use Rattle.kms_request.proofs.fences.out_fence_numbers.Given as goal

abbrev pub invariant-loop-a : goal.invariant-loop-a
invariant-loop-a l = TellOutFences (take l.a-index l.assigns) l.labels
