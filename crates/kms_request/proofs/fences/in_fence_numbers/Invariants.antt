use Rattle.std.proofs.Common.{take}
use Rattle.kms_request.specs.Fences.{TellInFences}
use Rattle.kms_request.proofs.fences.in_fence_numbers.Given as goal

abbrev pub invariant-loop-a : goal.invariant-loop-a
invariant-loop-a g l = TellInFences (g.L.Looker.meaning l.found) (take l.a-index l.assigns) l.fences
