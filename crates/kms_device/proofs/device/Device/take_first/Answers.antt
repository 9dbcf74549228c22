use Rattle.std.proofs.Common.{sym, subst}
use Rattle.kms_model.specs.declared.copying.NoMemory.{NoMemory}
use Rattle.kms_device.specs.Attempts.{StandsAt}
use Rattle.kms_device.specs.Turns.{run_seen}
use Rattle.kms_device.proofs.LockTries.{relocked, relocked_at}
use Rattle.kms_device.proofs.Places.{stands_any, stands_err}
use Rattle.kms_device.proofs.TriedCases.{as_locked, tried_err}
use Rattle.kms_device.proofs.TurnsTried.{nothing_done}
use Rattle.kms_device.proofs.device.Device.take_first.Goals as goal

pub returns-in_err-answer-clause-tried : goal.returns-in_err-answer-clause-tried
returns-in_err-answer-clause-tried g c = tried_err _ _ _ _ _ c.from_residual.result c.from_residual.ensures.0
    (nothing_done _ _ _ _ c.args.kept.now
    c.requires.ready c.in_err-answer.ensures)

pub returns-clause-tried : goal.returns-clause-tried
returns-clause-tried g c =
    as_locked c.args.self.now.script c.args.pass.now c.relock.new.pass c.args.kept.now c.args.object c.in_ok-answer.answer
    c.seen_len.result _ _ c.seen_len.ensures c.after_lock.ensures.did c.after_lock.ensures.keeps
    (relocked c.args.self.now.script c.args.pass.now c.relock.new.pass c.args.kept.now c.requires.ready c.args.t c.args.object
    c.requires.off c.in_ok-answer.answer c.in_ok-answer.ensures)

pub returns-in_err-answer-clause-stands : goal.returns-in_err-answer-clause-stands
returns-in_err-answer-clause-stands g c = stands_err _ _ c.from_residual.result _ c.from_residual.ensures.0

pub returns-clause-stands : goal.returns-clause-stands
returns-clause-stands g c =
    stands_any NoMemory _ _ c.after_lock.result _
    (subst (λ d. StandsAt (run_seen c.args.self.now.script c.relock.new.pass) c.args.pass.now.rank (record c.args.here.now { doing = d }))
    (sym c.doing_after-here.ensures)
    (relocked_at c.args.self.now.script c.args.pass.now c.relock.new.pass c.args.kept.now c.requires.ready c.args.t c.args.object
    c.requires.off c.args.here.now c.requires.stands c.in_ok-answer.answer c.in_ok-answer.ensures))
