use Rattle.std.proofs.Common.{◌≡◌, [], true, subst, ◌∙◌}
use Rattle.std.specs.Prelude.{IfOk}
use Rattle.kms_model.specs.Headline.{Headline}
use Rattle.kms_model.specs.Machine.Histories.{is_history}
use Rattle.kms_model.specs.Order.Rounds.{IsFinished}
use Rattle.kms_model.specs.Script.Generated.{generated}
use Rattle.kms_run.specs.Summary.{summary}
use Rattle.kms_run.proofs.Summed.{summed}
use Rattle.kms_run.proofs.generated.run_with.Goals as goal

pub returns : goal.returns
returns g c =
    let asks = c.args.asks.now in
    let s = generated asks.seed asks.commits in
    let h = c.finish.new.core.steps in
    let same : c.finish.new.core.script ≡ s = c.in_ok-finish.ensures.on.script ∙ c.requires.script in
    let one = subst (λ s. IsFinished s [] h) c.requires.script
    (subst (λ front. IsFinished c.args.core.now.script front h) c.requires.start c.in_ok-finish.ensures.finished) in
    summed s h c.summary.result
    (subst (λ s. is_history s h ≡ true) same c.is_a_history.ensures.history)
    one
    (c.generated_scripts_drain.ensures asks.seed asks.commits h one).1
    (subst (λ s. Headline s h) same c.shows_its_journal.ensures)
    (subst (λ s. IfOk c.summary.result (λ text. text ≡ summary s h)) same c.summary.ensures)
