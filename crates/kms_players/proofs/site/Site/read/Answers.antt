use Rattle.std.proofs.Common.{sym, subst}
use Rattle.kms_model.specs.declared.replies.Step.TheVariants as step
use Rattle.kms_io.proofs.Joins.{OnErr-always}
use Rattle.kms_players.specs.PlayerTurns.{PlainTurn}
use Rattle.kms_players.proofs.PlainSteps.{read_it, unread_yet}
use Rattle.kms_players.proofs.Waits.{went_none}
use Rattle.kms_players.proofs.site.Site.read.Goals as goal

pub returns-in_err-_reply-clause-no_step : goal.returns-in_err-_reply-clause-no_step
returns-in_err-_reply-clause-no_step g c = OnErr-always c.from_residual.result (went_none _ _ _ _ c.in_err-_reply.ensures)

pub returns-in-Some-clause-turn : goal.returns-in-Some-clause-turn
returns-in-Some-clause-turn g c =
    subst (PlainTurn c.args.self.now.device.now.script c.args.self.now.client c.args.pass.now c.read_event.new.pass)
    (sym c.come_to_gate.ensures) (
      step.Read c.args.self.now.client,
      read_it _ _ c.args.self.now.client _ _ c.requires.whose c.requires.may
          (rw c.in-Some.is at c.in_ok-_reply.ensures),
    )

pub returns-in-None-clause-turn : goal.returns-in-None-clause-turn
returns-in-None-clause-turn g c = (
  step.Read c.args.self.now.client,
  unread_yet _ c.args.self.now.client _ _ _ c.requires.whose c.seen_len.ensures c.requires.may
      (rw c.in-None.is at c.in_ok-_reply.ensures),
)
