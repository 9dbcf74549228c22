use Rattle.kms_model.specs.declared.replies.Step.TheVariants as step
use Rattle.kms_io.proofs.Joins.{OnErr-always}
use Rattle.kms_players.proofs.PlainSteps.{kept_waiting, returned_it}
use Rattle.kms_players.proofs.Waits.{went_none}
use Rattle.kms_players.proofs.site.Site.go_on.Goals as goal

pub returns-in_err-return_from-clause-no_step : goal.returns-in_err-return_from-clause-no_step
returns-in_err-return_from-clause-no_step g c = OnErr-always c.from_residual.result (went_none _ _ _ _ c.in_err-return_from.ensures)

pub returns-then-branch-clause-turn : goal.returns-then-branch-clause-turn
returns-then-branch-clause-turn g c = (
  step.Return c.args.self.now.client,
  returned_it _ _ c.args.self.now.client _ _ c.requires.whose c.requires.may (rw c.if-branch.true at c.in_ok-return_from.ensures),
)

pub returns-else-branch-clause-turn : goal.returns-else-branch-clause-turn
returns-else-branch-clause-turn g c = (
  step.Return c.args.self.now.client,
  kept_waiting _ c.args.self.now.client _ _ _ c.requires.whose c.seen_len.ensures c.requires.may
      (rw c.if-branch.false at c.in_ok-return_from.ensures),
)
