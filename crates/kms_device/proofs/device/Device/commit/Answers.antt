use Rattle.std.proofs.Common.{◌∙◌}
use Rattle.kms_io.proofs.Joins.{OnErr-always}
use Rattle.kms_device.proofs.CommitMade.{broken, made_all, made_more, made_none}
use Rattle.kms_device.proofs.device.Device.commit.Goals as goal

pub loop-init : goal.loop-init
loop-init g c = made_none c.args.self.now.script c.args.client c.args.pass.now c.new-work.result c.new-work.ensures.anew c.requires.may

pub attempt-requires-clause-own : goal.attempt-requires-clause-own
attempt-requires-clause-own g c = c.loop.invariant.went.lock ∙ c.requires.own

pub attempt-requires-clause-whose : goal.attempt-requires-clause-whose
attempt-requires-clause-whose g c = c.loop.invariant.went.rank ∙ c.requires.whose

pub attempt-requires-clause-may : goal.attempt-requires-clause-may
attempt-requires-clause-may g c = c.loop.invariant.stays.may

pub attempt-requires-clause-serves : goal.attempt-requires-clause-serves
attempt-requires-clause-serves g c = c.loop.invariant.serves

pub attempt-requires-clause-stands : goal.attempt-requires-clause-stands
attempt-requires-clause-stands g c = c.loop.invariant.stands

pub returns-in_err-reply-clause-broken_off : goal.returns-in_err-reply-clause-broken_off
returns-in_err-reply-clause-broken_off g c =
    OnErr-always c.from_residual.result
    (broken c.args.self.now.script c.args.client c.args.pass.now c.loop.pass c.attempt.new.pass c.loop.work c.loop.invariant
    c.in_err-reply.ensures.no_step c.in_err-reply.ensures.stays)

pub returns-in-Answered-clause-committed : goal.returns-in-Answered-clause-committed
returns-in-Answered-clause-committed g c =
    made_all c.args.self.now.script c.args.client c.args.pass.now c.loop.pass c.attempt.new.pass c.loop.work c.loop.invariant
    c.in_ok-reply.field-0 c.attempt.new.work.kept c.in-Answered.reply c.in-Answered.is c.in_ok-reply.ensures.did

pub loop-preserved : goal.loop-preserved
loop-preserved g c =
    made_more c.args.self.now.script c.args.client c.args.pass.now c.loop.pass c.attempt.new.pass c.loop.work c.loop.invariant
    c.in_ok-reply.field-0 c.attempt.new.work c.in_default.not-Answered c.in_ok-reply.ensures.did
    c.in_ok-reply.ensures.goes_on c.in_ok-reply.ensures.serves c.attempt.ensures.stands
