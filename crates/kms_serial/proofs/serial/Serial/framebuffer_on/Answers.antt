use Rattle.std.proofs.Common.{◌≡◌, ◌<◌, length, subst, sym, ap, ◌∙◌, pos, refl}
use Rattle.kms_model.specs.declared.objects.Kind.TheVariants as kind
use Rattle.kms_model.specs.Device.Places.{state_at}
use Rattle.kms_model.specs.declared.properties.TheConstants.{FB_ID}
use Rattle.kms_model.specs.Device.Objects.{object_id}
use Rattle.kms_model.specs.Device.World.{value}
use Rattle.kms_serial.specs.Device.{Device}
use Rattle.kms_serial.specs.Framebuffers.{framebuffer_id}
use Rattle.kms_serial.proofs.Naming.{fb_of_state}
use Rattle.kms_serial.proofs.serial.Serial.framebuffer_on.Goals as goal

pub returns : goal.returns
returns c =
    let within = subst (λ (d : Device). c.args.plane < length d.topology.planes) (sym c.self.view_is) c.requires in
    let is = fb_of_state c.args.plane
    (state_at c.self.inside.states.planes c.args.plane) c.self.invariant within refl in
    let told : c.framebuffer_id.result ≡ _ = c.framebuffer_id.ensures ∙ ap framebuffer_id c.new_plane.ensures in
    subst (λ (d : Device). pos c.framebuffer_id.result ≡ value d.world.values (object_id kind.Plane c.args.plane) FB_ID) c.self.view_is
    (ap pos told ∙ is)
