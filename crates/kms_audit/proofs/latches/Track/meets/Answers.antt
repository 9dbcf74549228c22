use Rattle.kms_audit.proofs.Shows.{meets-as, meets-not}
use Rattle.kms_audit.specs.Latching.{pictured_now}
use Rattle.kms_audit.proofs.latches.Track.meets.Goals as goal

pub returns-then-not-same-clause-meets : goal.returns-then-not-same-clause-meets
returns-then-not-same-clause-meets c =
    meets-not c.args.line.now (pictured_now c.args.serial.now c.args.crtc c.args.commit) c.if-not-same.true

pub returns-clause-meets : goal.returns-clause-meets
returns-clause-meets c =
    meets-as c.args.serial.now c.args.line.now c.args.crtc c.args.commit c.picture-picture.result c.in_ok-digest.digest
    c.same_digest.result c.if-not-same.false
    c.picture-picture.ensures.picture c.in_ok-digest.ensures.digest c.same_digest.ensures
