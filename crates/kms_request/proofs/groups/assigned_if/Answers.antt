use Rattle.std.proofs.Common.{◌∙◌, false, sym, ap}
use Rattle.std.specs.Prelude.{◌&&◌, ◌==◌}
use Rattle.kms_model.specs.Device.Objects.{most_of, object_id}
use Rattle.kms_model.specs.Request.Apply.{object_of}
use Rattle.kms_model.proofs.MaskLemmas.{same_masks}
use Rattle.kms_request.proofs.GroupLemmas.{none_yet}
use Rattle.kms_request.proofs.groups.assigned_if.Goals as goal

pub returns-then-not-picks : goal.returns-then-not-picks
returns-then-not-picks g c =
    none_yet (most_of c.args.kind)
    ∙ same_masks (λ i. false) _ (most_of c.args.kind)
    (λ i h. sym (ap (λ b. b && (object_of c.args.a.now == object_id c.args.kind i)) (sym c.picks.ensures ∙ c.if-not-picks.true)))
