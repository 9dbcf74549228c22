use Rattle.std.proofs.Common.{refl}
use Rattle.kms_audit.proofs.KeptPictures.{kept-other, kept-same}
use Rattle.kms_audit.proofs.frames.LastTwo.digest.Goals as goal

pub returns-then-is_same-clause-digest : goal.returns-then-is_same-clause-digest
returns-then-is_same-clause-digest c =
    kept-same c.args.serial.now.world.things c.args.self.now.later c.args.picture.now c.requires.kept.later
    (c.is_same.ensures.0 c.if-is_same.true)

pub returns-clause-kept : goal.returns-clause-kept
returns-clause-kept c =
    kept-other c.args.serial.now.world.things c.args.self.now _ c.args.picture.now c.in_ok-digest.digest c.requires.kept c.requires.can
    c.in_ok-digest.ensures refl
