use Rattle.std.proofs.Common.{◌∙◌, ◌^◌, ◌<◌, ap, sym, subst}
use Rattle.std.specs.Prelude.{◌==◌}
use Rattle.kms_model.specs.declared.objects.Kind.TheVariants.{Crtc}
use Rattle.kms_model.specs.Device.Masks.{has_bit}
use Rattle.kms_model.specs.Device.Objects.{object_id}
use Rattle.kms_model.proofs.MaskLemmas.{has_bit-below, mask_below-lt}
use Rattle.kms_request.proofs.naming.only_crtc.Goals as goal

pub returns : goal.returns
returns c = record {
  below = subst (λ m. m < 2 ^ 4) (sym c.only_of.ensures) (mask_below-lt (λ i. c.args.id == object_id Crtc i) 4);
  bits = λ index less. ap (λ m. has_bit m index) c.only_of.ensures ∙ has_bit-below (λ i. c.args.id == object_id Crtc i) 4 index less;
}
