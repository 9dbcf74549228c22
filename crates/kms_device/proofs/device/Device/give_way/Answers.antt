use Rattle.std.proofs.Common.{sym, subst}
use Rattle.kms_device.specs.declared.attempt.Attempted.TheVariants.{Did}
use Rattle.kms_device.specs.Trying.{DidAndKeeps}
use Rattle.kms_device.proofs.Places.{gave_way_at, stands_err}
use Rattle.kms_device.proofs.TriedCases.{tried_err}
use Rattle.kms_device.proofs.TurnsTried.{gave_way, nothing_done}
use Rattle.kms_device.proofs.device.Device.give_way.Goals as goal

pub returns-in_err-backoff-clause-tried : goal.returns-in_err-backoff-clause-tried
returns-in_err-backoff-clause-tried g c = tried_err _ _ _ _ _ c.from_residual.result c.from_residual.ensures.0
    (nothing_done _ _ _ _ c.args.kept.now
    c.requires.ready c.in_err-backoff.ensures)

pub returns-clause-tried : goal.returns-clause-tried
returns-clause-tried g c =
    subst (λ states. DidAndKeeps c.args.self.now.script c.args.pass.now c.args.kept.now c.backoff.new.pass Did (record {
      looks =
          c.args.kept.now.looks;
      states = states;
    })) (sym c.empty-kept.ensures.states)
    (gave_way c.args.self.now.script _ c.args.pass.now c.backoff.new.pass c.args.kept.now c.requires.ready c.args.t c.args.object
    c.requires.must c.in_ok-backoff.ensures)

pub returns-in_err-backoff-clause-stands : goal.returns-in_err-backoff-clause-stands
returns-in_err-backoff-clause-stands g c = stands_err _ _ c.from_residual.result _ c.from_residual.ensures.0

pub returns-clause-stands : goal.returns-clause-stands
returns-clause-stands g c = gave_way_at c.args.self.now.script _ c.args.pass.now c.backoff.new.pass c.args.here.now c.requires.stands
    c.args.t
    c.args.object c.requires.must c.in_ok-backoff.ensures
