use Rattle.std.proofs.Common.{sym, ◌∙◌}
use Rattle.std.proofs.lemmas.Bool.{not-false, not-true}
use Rattle.std.proofs.lemmas.Result.{on_ok_weaker}
use Rattle.kms_one_thread.proofs.Finishing.{finished_at, finishing_first, finishing_next}
use Rattle.kms_one_thread.proofs.rounds.finish.Goals as goal

pub rounds-init : goal.rounds-init
rounds-init c = finishing_first c.args.core.now

pub rounds-preserved : goal.rounds-preserved
rounds-preserved c =
    finishing_next c.args.core.now c.is_a_history.ensures.formed c.is_a_history.ensures.history c.rounds_end.ensures c.rounds.core
    c.round.new.core c.rounds.invariant (not-true _ (sym c.in_ok-round.ensures.moved ∙ c.if-branch.true))
    c.in_ok-round.ensures.on c.in_ok-round.ensures.round

pub returns-clause-finished : goal.returns-clause-finished
returns-clause-finished c =
    let still = not-false _ (sym c.in_ok-round.ensures.moved ∙ c.if-branch.false) in
    on_ok_weaker c.end.result
    (λ end. finished_at c.args.core.now c.is_a_history.ensures.formed c.is_a_history.ensures.history c.rounds_end.ensures c.rounds.core
    c.round.new.core c.end.new.core c.rounds.invariant still (c.in_ok-round.ensures.stays c.if-branch.false) end)
    c.end.ensures.ended

pub returns-clause-over : goal.returns-clause-over
returns-clause-over c =
    on_ok_weaker c.end.result
    (λ finished. c.finished_histories_are_over.ensures c.args.core.now.script c.args.core.now.steps c.is_a_history.ensures.formed
    c.is_a_history.ensures.history c.end.new.core.steps finished)
    (returns-clause-finished c)
