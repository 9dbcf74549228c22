use Rattle.std.proofs.Common.{◌∙◌}
use Rattle.kms_core.proofs.next.Refusing.{decides_refuse, may_refuse_now, refuse_taken}
use Rattle.kms_core.proofs.applying.do_refuse.Goals as goal

pub unreachable-requires : goal.unreachable-requires
unreachable-requires c = refuse_taken c.args.core.now c.args.client c.requires c.in_default.ensures

pub refusal_reply-reply-requires-clause-refused : goal.refusal_reply-reply-requires-clause-refused
refusal_reply-reply-requires-clause-refused c = may_refuse_now c.args.core.now c.args.client c.requires

pub decide-requires : goal.decide-requires
decide-requires c = rw (c.deref_mut.ensures.value ∙ c.core.view_is)
    (decides_refuse c.args.core.now c.args.client
    c.is_a_history.ensures.formed c.requires c.in-Some.ensures c.refusal_reply-reply.ensures)
