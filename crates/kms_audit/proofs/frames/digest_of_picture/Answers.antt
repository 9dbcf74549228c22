use Rattle.std.proofs.Common.{Some, ap, ◌∙◌}
use Rattle.kms_audit.proofs.KeptPictures.{dark-digest, digest-as}
use Rattle.kms_model.specs.Frames.FrameBytes.{frame_bytes}
use Rattle.kms_audit.proofs.frames.digest_of_picture.Goals as goal

pub returns-in_default : goal.returns-in_default
returns-in_default c = dark-digest c.args.picture.now c.in_default.not-On (frame_bytes c.args.serial.now.world.things c.args.picture.now)

pub returns : goal.returns
returns c =
    let things = c.args.serial.now.world.things in
    digest-as c.args.picture.now _ c.in-On.is c.as_slice.result.now (frame_bytes things c.args.picture.now)
    (c.as_slice.ensures.value ∙ c.in_ok-bytes.ensures.things things c.in_ok-images.ensures.images) c.digest_of.result
    (ap Some c.digest_of.ensures)
