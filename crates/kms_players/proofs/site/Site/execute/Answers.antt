use Rattle.std.proofs.Common.{ap, rules, subst, sym}
use Rattle.kms_model.specs.declared.replies.Step.TheVariants as step
use Rattle.kms_model.specs.Machine.Steps.{is_signal}
use Rattle.kms_io.proofs.Joins.{OnErr-always}
use Rattle.kms_device.specs.Turns.{run_seen}
use Rattle.kms_players.specs.PlayerTurns.{PlainTurn}
use Rattle.kms_players.proofs.PlainSteps.{made_it, making_of, may_make_it, may_signal_it, signalled_it}
use Rattle.kms_players.proofs.Waits.{went_none}
use Rattle.kms_players.proofs.site.Site.execute.Goals as goal

pub signal-requires-clause-may : goal.signal-requires-clause-may
signal-requires-clause-may g c =
    may_signal_it (run_seen c.args.self.now.device.now.script c.args.pass.now) c.args.self.now.client c.args.command.now c.requires.is_open
    c.requires.idle (ap is_signal c.in-Signal.is)

pub returns-in_err-_reply-in-Signal-clause-no_step : goal.returns-in_err-_reply-in-Signal-clause-no_step
returns-in_err-_reply-in-Signal-clause-no_step g c = OnErr-always c.from_residual.result
    (went_none _ _ _ _ c.in_err-_reply-in-Signal.ensures)

pub returns-in_ok-_reply-in-Signal-clause-turn : goal.returns-in_ok-_reply-in-Signal-clause-turn
returns-in_ok-_reply-in-Signal-clause-turn g c =
    subst (PlainTurn c.args.self.now.device.now.script c.args.self.now.client c.args.pass.now c.signal.new.pass)
    (sym c.come_to_gate.ensures)
    (step.Signal c.args.self.now.client, signalled_it _ _ c.args.self.now.client _ _ c.in_ok-_reply-in-Signal.ensures)

pub make-requires : goal.make-requires
make-requires g c = record {
  own = c.requires.own;
  whose = c.requires.whose;
  may =
      may_make_it (run_seen c.args.self.now.device.now.script c.args.pass.now) c.args.self.now.client c.args.command.now c.requires.is_open
      c.requires.idle
      (making_of c.args.command.now c.requires.no_request c.in_default.not-Signal c.in_default.not-Wait);
}

pub returns-in_err-_reply-in_default : goal.returns-in_err-_reply-in_default
returns-in_err-_reply-in_default g c = record {
  turn = search rules;
  no_step = OnErr-always c.from_residual-in_err-_reply-in_default.result (went_none _ _ _ _ c.in_err-_reply-in_default.ensures);
}

pub returns-in_ok-_reply-in_default : goal.returns-in_ok-_reply-in_default
returns-in_ok-_reply-in_default g c = record {
  turn =
      subst (PlainTurn c.args.self.now.device.now.script c.args.self.now.client c.args.pass.now c.make.new.pass)
      (sym c.come_to_gate-in_default.ensures)
      (step.Make c.args.self.now.client, made_it _ _ c.args.self.now.client _ _ c.in_ok-_reply-in_default.ensures);
  no_step = tt;
}
