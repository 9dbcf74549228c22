use Rattle.std.proofs.Common.{List, take}
use Rattle.kms_model.specs.declared.scripts.Assign.{Assign}
use Rattle.kms_request.specs.Fences.{TellInFences}
use Rattle.kms_request.proofs.FenceLemmas.{tell_more}
use Rattle.kms_request.proofs.fences.in_fence_numbers.Goals as goal

pub loop-a-preserved : goal.loop-a-preserved
loop-a-preserved g c =
    let Tell : List Assign → Type 0 = λ xs. TellInFences (g.L.Looker.meaning c.args.found.now) xs c.note_in_fence.new.fences in
    tell_more Tell c.args.assigns.now c.loop-a.a-index _ c.loop-a-test.true
    (c.note_in_fence.ensures (take c.loop-a.a-index c.args.assigns.now) c.loop-a.invariant)
