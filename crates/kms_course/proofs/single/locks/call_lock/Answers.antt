use Rattle.std.proofs.Common.{◌≡◌, true, sym, ap, ◌∙◌}
use Rattle.kms_model.proofs.TouchedLemmas.{few_objects}
use Rattle.kms_core.specs.Run.{gains}
use Rattle.kms_course.specs.Calls.{may_ask}
use Rattle.kms_course.proofs.Asked.{lock_allowed, one_step, taking_there}
use Rattle.kms_course.proofs.single.locks.call_lock.Goals as goal

pub unreachable-requires : goal.unreachable-requires
unreachable-requires c =
    let asked : may_ask c.args.core.now c.args.client c.args.id ≡ true = sym c.may_ask.ensures ∙ c.if-not-may_ask.false in
    taking_there c.args.core.now c.args.client c.args.id asked c.doing.result c.doing.ensures c.in_default.not-Taking

pub lock-requires : goal.lock-requires
lock-requires c =
    let asked : may_ask c.args.core.now c.args.client c.args.id ≡ true = sym c.may_ask.ensures ∙ c.if-not-may_ask.false in
    lock_allowed c.args.core.now c.args.client c.args.id asked
    (few_objects c.args.core.now.script.topology c.is_a_history.ensures.formed.device) c.doing.result c.in-Taking.ticket c.doing.ensures
    c.in-Taking.is

pub returns-clause-history : goal.returns-clause-history
returns-clause-history c =
    let asked : may_ask c.args.core.now c.args.client c.args.id ≡ true = sym c.may_ask.ensures ∙ c.if-not-may_ask.false in
    let taking = sym c.doing.ensures ∙ c.in-Taking.is in
    c.in_ok-lock.ensures.history c.args.client taking
    ∙ ap (gains c.args.core.now) (one_step c.args.core.now c.args.client c.args.id asked c.in_ok-lock.field-0
    (c.in_ok-lock.ensures.answer c.args.client taking))
