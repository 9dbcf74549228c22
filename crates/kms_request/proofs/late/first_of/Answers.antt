use Rattle.std.proofs.Common.{◌<◌, ◌∙◌, ℕ, ap, sym}
use Rattle.kms_model.specs.declared.objects.Topology.{Topology}
use Rattle.kms_model.specs.declared.states.Duplicates.{Duplicates}
use Rattle.kms_model.specs.Request.Late.{ArePlanesInRange, duplicate_in}
use Rattle.kms_request.specs.Answers.{refusal_number}
use Rattle.kms_request.specs.declared.late.OrderStep.{OrderStep}
use Rattle.kms_request.specs.declared.late.OrderStep.TheVariants.{Planes, Crtcs, Conns, Clones, Routes, Shown}
use Rattle.kms_request.specs.Order.{IsLookedAtInRange, count_of_step, refusal_at}
use Rattle.kms_request.proofs.IndexLemmas.{first_from-more}
use Rattle.kms_request.proofs.late.first_of.Goals as goal

-- the planes that a step looks at are in range
looked_at : (t : Topology) (d : Duplicates) (planes : ℕ) (step : OrderStep) (index : ℕ) → ArePlanesInRange t d planes → index
    < count_of_step t step → IsLookedAtInRange step (duplicate_in planes d.planes index)
looked_at t d planes Planes index fit within = fit index within
looked_at t d planes Shown index fit within = fit index within
looked_at t d planes Crtcs index fit within = tt
looked_at t d planes Conns index fit within = tt
looked_at t d planes Clones index fit within = tt
looked_at t d planes Routes index fit within = tt

pub refusal_at-requires : goal.refusal_at-requires
refusal_at-requires c =
    let within : c.loop-index.index < count_of_step c.args.topology.now c.args.step = rw c.count_of_step-index-end.ensures at
    c.loop-index-test.true in
    looked_at c.args.topology.now c.args.states.now c.args.objects.now.planes c.args.step c.loop-index.index c.requires within

pub loop-index-preserved : goal.loop-index-preserved
loop-index-preserved c =
    let within : c.loop-index.index < count_of_step c.args.topology.now c.args.step = rw c.count_of_step-index-end.ensures at
    c.loop-index-test.true in
    first_from-more (refusal_at c.args.topology.now c.args.states.now c.args.objects.now c.args.asked c.args.step) c.loop-index.index
    (count_of_step c.args.topology.now c.args.step) within (sym c.refusal_at.ensures ∙ ap refusal_number c.in_default.is)
    c.loop-index.invariant
