use Rattle.std.proofs.Common.{List, take}
use Rattle.kms_model.specs.declared.scripts.Assign.{Assign}
use Rattle.kms_request.specs.Fences.{TellOutFences}
use Rattle.kms_request.proofs.FenceLemmas.{tell_more}
use Rattle.kms_request.proofs.fences.out_fence_numbers.Goals as goal

pub loop-a-preserved : goal.loop-a-preserved
loop-a-preserved c =
    let Tell : List Assign → Type 0 = λ xs. TellOutFences xs c.note_out_fence.new.labels in
    tell_more Tell c.args.assigns.now c.loop-a.a-index _ c.loop-a-test.true
    (c.note_out_fence.ensures (take c.loop-a.a-index c.args.assigns.now) c.loop-a.invariant)
