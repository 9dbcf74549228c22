use Rattle.std.proofs.Common.{◌∙◌}
use Rattle.kms_core.specs.Run.{machine}
use Rattle.kms_core.proofs.next.Refusing.{refused_early, refused_last, refused_late, refused_never}
use Rattle.kms_core.proofs.next.judging.refusal_reply.Goals as goal

pub returns-in-Some : goal.returns-in-Some
returns-in-Some c = refused_early c.args.client c.args.request.now
    c.in-Some.why c.stores.invariant.stands (c.stores.view_is ∙ c.deref-stores.ensures ∙ c.core.view_is) c.in-Some.ensures.first

pub returns-in-Some-default : goal.returns-in-Some-default
returns-in-Some-default c = refused_late c.args.core.now.script (machine c.args.core.now) c.args.client c.args.request.now
    c.in-Some-judge.judged c.in-Some-judge.ensures c.in-Some-default.why c.in-Some-default.is-0

pub returns-in-None-Some : goal.returns-in-None-Some
returns-in-None-Some c = refused_last c.args.core.now.script (machine c.args.core.now) c.args.client c.args.request.now
    c.in-Some-judge.judged c.in-Some-judge.ensures c.in-None-Some.reply c.in-None-Some.is-0 c.in-None-Some.is-1

pub unreachable-requires-in-None-None : goal.unreachable-requires-in-None-None
unreachable-requires-in-None-None c =
    refused_never c.args.core.now.script (machine c.args.core.now) c.args.client c.args.request.now c.in-Some-judge.judged
    c.in-Some-judge.ensures c.requires.taken c.in-None-None.is-0 c.in-None-None.is-1 c.requires.refused
