use Rattle.std.proofs.Common.{arith, inr, subst, sym}
use Rattle.kms_check.proofs.Readiness.{HasRoom}
use Rattle.kms_model.specs.declared.copying.NoMemory.{NoMemory}
use Rattle.kms_device.specs.Attempts.{StandsAt}
use Rattle.kms_device.specs.Trying.{with_looks}
use Rattle.kms_device.specs.Turns.{run_seen}
use Rattle.kms_device.proofs.Moved.{may_ask}
use Rattle.kms_device.proofs.Places.{stands_any, stands_err}
use Rattle.kms_device.proofs.TriedCases.{as_locked, locks_at, locks_so, takes_for, tried_err}
use Rattle.kms_device.proofs.TurnsTried.{nothing_done}
use Rattle.kms_device.proofs.device.Device.ask_for.Goals as goal

pub lock-requires-clause-may : goal.lock-requires-clause-may
lock-requires-clause-may g c =
    inr (may_ask c.args.self.now.script c.args.pass.now (with_looks c.args.work.looks c.args.kept.now.states) c.args.work.taking.t
    c.args.work.taking.request.now c.args.work.looks
    (takes_for c.args.self.now.script c.args.pass.now c.args.work.taking.t c.args.work.taking.request.now c.args.work.looks
    c.args.kept.now.states c.requires.works.ready c.requires.works.takes) c.args.id c.requires.asks)

pub returns-in_err-answer-clause-tried : goal.returns-in_err-answer-clause-tried
returns-in_err-answer-clause-tried g c =
    tried_err _ _ _ _ _ c.from_residual.result c.from_residual.ensures.0 (nothing_done _ _ _ _
    (with_looks c.args.work.looks c.args.kept.now.states) c.requires.works.ready c.in_err-answer.ensures)

pub returns-clause-tried : goal.returns-clause-tried
returns-clause-tried g c =
    let room : HasRoom c.args.kept.now.states = record { crtcs = omega arith; planes = omega arith; conns = omega arith } in
    as_locked c.args.self.now.script c.args.pass.now c.lock.new.pass (with_looks c.args.work.looks c.args.kept.now.states) c.args.id
    c.in_ok-answer.answer c.seen_len.result _ _ c.seen_len.ensures c.after_lock.ensures.did c.after_lock.ensures.keeps
    (locks_so c.args.self.now.script c.args.pass.now c.args.work.taking.t c.args.work.taking.request.now c.args.work.looks
    c.args.kept.now.states c.requires.works.ready c.requires.works.takes c.lock.new.pass c.args.id c.requires.asks room
    c.in_ok-answer.answer
    c.in_ok-answer.ensures)

pub returns-in_err-answer-clause-stands : goal.returns-in_err-answer-clause-stands
returns-in_err-answer-clause-stands g c = stands_err _ _ c.from_residual.result _ c.from_residual.ensures.0

pub returns-clause-stands : goal.returns-clause-stands
returns-clause-stands g c =
    let room : HasRoom c.args.kept.now.states = record { crtcs = omega arith; planes = omega arith; conns = omega arith } in
    stands_any NoMemory _ _ c.after_lock.result _
    (subst (λ d. StandsAt (run_seen c.args.self.now.script c.lock.new.pass) c.args.pass.now.rank (record c.args.here.now { doing = d }))
    (sym c.doing_after-here.ensures)
    (locks_at c.args.self.now.script c.args.pass.now c.args.work.taking.t c.args.work.taking.request.now c.args.work.looks
    c.args.kept.now.states c.requires.works.ready c.requires.works.takes c.lock.new.pass c.args.id c.requires.asks room
    c.args.here.now c.requires.stands c.in_ok-answer.answer c.in_ok-answer.ensures))
