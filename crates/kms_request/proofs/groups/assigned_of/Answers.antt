use Rattle.std.proofs.Common.{◌∙◌, ap}
use Rattle.std.specs.Prelude.{◌&&◌, ◌==◌}
use Rattle.std.specs.List.{list_any}
use Rattle.std.proofs.lemmas.List.{take_all}
use Rattle.kms_model.specs.Device.Objects.{most_of, object_id}
use Rattle.kms_model.specs.Request.Apply.{object_of}
use Rattle.kms_model.proofs.MaskLemmas.{same_masks}
use Rattle.kms_request.proofs.GroupLemmas.{none_yet, items-more}
use Rattle.kms_request.proofs.Picked.{any_picked}
use Rattle.kms_request.proofs.groups.assigned_of.Goals as goal

pub loop-a-init : goal.loop-a-init
loop-a-init g c = none_yet (most_of c.args.kind)

pub loop-a-preserved : goal.loop-a-preserved
loop-a-preserved g c =
    rw (c.loop-a.invariant, c.assigned_if-assigned.ensures)
    (items-more (λ i a. g.P.Picker.picked c.args.picks.now a && (object_of a == object_id c.args.kind i)) c.args.assigns.now
    c.loop-a.a-index (most_of c.args.kind) _ c.loop-a-test.true)

pub returns : goal.returns
returns g c =
    c.loop-a.invariant
    ∙ same_masks _ _ (most_of c.args.kind) (λ i h.
    ap (list_any (λ a. g.P.Picker.picked c.args.picks.now a && (object_of a == object_id c.args.kind i)))
    (take_all c.loop-a.a-index c.args.assigns.now c.loop-a-test.false)
    ∙ any_picked (g.P.Picker.picked c.args.picks.now) (λ a. object_of a == object_id c.args.kind i) c.args.assigns.now)
