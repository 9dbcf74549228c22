use Rattle.std.specs.Prelude.{◌==◌}
use Rattle.kms_model.specs.declared.objects.Kind.TheVariants.{Crtc}
use Rattle.kms_model.specs.Device.Objects.{most_of, object_id}
use Rattle.kms_request.proofs.GroupLemmas.{none_yet, items-more}
use Rattle.kms_request.proofs.groups.crtcs_fenced.Goals as goal

pub loop-crtc-init : goal.loop-crtc-init
loop-crtc-init c = none_yet (most_of Crtc)

pub loop-crtc-preserved : goal.loop-crtc-preserved
loop-crtc-preserved c =
    rw (c.loop-crtc.invariant, c.only_of-fenced.ensures)
    (items-more (λ i f. f.0.0 == object_id Crtc i) c.args.out_fences.now c.loop-crtc.crtc-index (most_of Crtc) _ c.loop-crtc-test.true)
