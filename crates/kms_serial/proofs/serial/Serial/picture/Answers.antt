use Rattle.std.proofs.Common.{◌≡◌, ◌<◌, subst, sym}
use Rattle.kms_serial.specs.Device.{Device}
use Rattle.kms_model.specs.declared.objects.Kind.TheVariants as kind
use Rattle.kms_model.specs.Device.Objects.{object_id}
use Rattle.kms_model.specs.Frames.Pictures.{picture}
use Rattle.kms_model.specs.Frames.Shown.{EachCanBeShown}
use Rattle.kms_serial.proofs.Shown.{may_picture-stands}
use Rattle.kms_picture.proofs.FromSound.{has_room}
use Rattle.kms_model.proofs.ShownLemmas.{each_can_be_shown}
use Rattle.kms_serial.proofs.serial.Serial.picture.Goals as goal

pub picture-requires : goal.picture-requires
picture-requires c =
    may_picture-stands c.args.crtc c.self.invariant
    (subst (λ (d : Device). c.args.crtc < d.topology.crtcs) (sym c.self.view_is) c.requires)

pub returns-clause-shown : goal.returns-clause-shown
returns-clause-shown c =
    let t = c.self.inside.topology in
    let w = c.self.inside.store in
    let is : c.picture.result ≡ picture t w.things w.values (object_id kind.Crtc c.args.crtc) = c.picture.ensures t w.things w.values
    (has_room t c.self.invariant.device) c.self.invariant.present.new in
    let shown = each_can_be_shown t w (object_id kind.Crtc c.args.crtc) c.self.invariant.lawful.sound c.self.invariant.framed in
    subst (λ (v : Device). EachCanBeShown v.world.things c.picture.result) c.self.view_is (subst (EachCanBeShown w.things) (sym is) shown)
