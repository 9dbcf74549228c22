use Rattle.std.proofs.Common.{◌≡◌, List, None, subst}
use Rattle.kms_model.specs.declared.worlds.Thing.{Thing}
use Rattle.std.specs.Prelude.{IfNone}
use Rattle.kms_model.specs.Frames.Images.{image_of}
use Rattle.kms_serial.specs.Device.{Device}
use Rattle.kms_things.proofs.Images.{if_none}
use Rattle.kms_serial.proofs.Naming.{no_image}
use Rattle.kms_serial.proofs.serial.Serial.image.Goals as goal

pub returns-clause-unseen : goal.returns-clause-unseen
returns-clause-unseen c =
    let none = if_none c.image.result _ _ (no_image c.things.result.now.things c.args.fb) c.image.ensures.none in
    let here = subst (λ (ts : List Thing). IfNone c.image.result (image_of ts c.args.fb ≡ None)) c.things.ensures.things none in
    subst (λ (d : Device). IfNone c.image.result (image_of d.world.things c.args.fb ≡ None)) c.self.view_is here
