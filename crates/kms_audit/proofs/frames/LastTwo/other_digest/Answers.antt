use Rattle.kms_audit.proofs.KeptPictures.{kept-same}
use Rattle.kms_audit.proofs.frames.LastTwo.other_digest.Goals as goal

pub returns-then-is_same : goal.returns-then-is_same
returns-then-is_same c =
    kept-same c.args.serial.now.world.things c.args.self.now.earlier c.args.picture.now c.requires.kept.earlier
    (c.is_same.ensures.0 c.if-is_same.true)
