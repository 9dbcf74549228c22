use Rattle.std.proofs.Common.{refl}
use Rattle.kms_audit.proofs.Committing.{made-entered}
use Rattle.kms_audit.proofs.walk.Walk.make.Goals as goal

pub returns : goal.returns
returns c = λ r.
    made-entered r c.args.client c.args.command.now c.args.self.now _ c.in_ok-reply.reply c.is_accepted.result c.requires.making
    c.in_ok-reply.ensures.executed
    c.is_accepted.ensures c.in_ok-reply.ensures.topology c.in_ok-reply.ensures.grows refl refl
    (record { touches = refl; owners = refl; showing = refl })
