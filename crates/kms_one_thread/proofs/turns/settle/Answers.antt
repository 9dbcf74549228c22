use Rattle.std.proofs.Common.{subst}
use Rattle.std.specs.Prelude.{IsOk}
use Rattle.std.proofs.lemmas.Bool.{false≢true}
use Rattle.kms_one_thread.proofs.Settling.{next_legal, next_less, next_tail, settling_first, settling_none, settling_some}
use Rattle.kms_one_thread.proofs.turns.settle.Goals as goal

pub settling-init : goal.settling-init
settling-init c = settling_first c.args.core.now

pub apply-requires : goal.apply-requires
apply-requires c = next_legal c.settling.core c.in-Some.step c.is_a_history.ensures.formed c.is_a_history.ensures.history c.in-Some.ensures

pub settling-smaller : goal.settling-smaller
settling-smaller c = next_less c.settling.core c.in-Some.step c.is_a_history.ensures.formed c.is_a_history.ensures.history c.in-Some.ensures
    c.apply.new.self c.in-Ok.ensures.history

pub settling-preserved : goal.settling-preserved
settling-preserved c =
    settling_some c.args.core.now c.settling.core c.apply.new.self c.in-Some.step c.settling.invariant c.is_a_history.ensures.formed
    c.is_a_history.ensures.history c.in-Some.ensures c.in-Ok.ensures.history

-- a step of a tail finds memory
pub unreachable-requires : goal.unreachable-requires
unreachable-requires c =
    let tail = next_tail c.settling.core c.in-Some.step c.is_a_history.ensures.formed c.is_a_history.ensures.history c.in-Some.ensures in
    false≢true (subst IsOk c.in_default-apply.is (c.apply.ensures.no_memory tail.commit tail.of_it))

pub returns-clause-settled : goal.returns-clause-settled
returns-clause-settled c = settling_none c.args.core.now c.settling.core c.settling.invariant c.in_default.ensures
