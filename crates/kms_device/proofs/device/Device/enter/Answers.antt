use Rattle.std.proofs.Common.{subst}
use Rattle.kms_core.specs.Locks.{MayBegin}
use Rattle.kms_device.specs.Turns.{run_seen}
use Rattle.kms_device.proofs.Places.{began_by, stands_err}
use Rattle.kms_device.proofs.TriedCases.{began_as, may_begin_at, tried_err}
use Rattle.kms_device.proofs.TurnsTried.{nothing_done}
use Rattle.kms_device.proofs.device.Device.enter.Goals as goal

pub begin-requires-clause-may : goal.begin-requires-clause-may
begin-requires-clause-may g c = subst (MayBegin (run_seen c.args.self.now.script c.args.pass.now)) c.requires.whose (may_begin_at
    c.args.self.now.script c.args.pass.now c.args.kept.now c.requires.ready c.requires.idle)

pub returns-in_err-t-clause-tried : goal.returns-in_err-t-clause-tried
returns-in_err-t-clause-tried g c = tried_err _ _ _ _ _ c.from_residual.result c.from_residual.ensures.0
    (nothing_done _ _ _ _ c.args.kept.now
    c.requires.ready c.in_err-t.ensures)

pub returns-clause-tried : goal.returns-clause-tried
returns-clause-tried g c = began_as _ _ c.args.pass.now c.begin.new.pass c.args.kept.now c.new.result c.args.client c.requires.ready
    c.requires.idle
    c.requires.whose c.new.ensures.none c.in_ok-t.ensures

pub returns-in_err-t-clause-stands : goal.returns-in_err-t-clause-stands
returns-in_err-t-clause-stands g c = stands_err _ _ c.from_residual.result _ c.from_residual.ensures.0

pub returns-clause-stands : goal.returns-clause-stands
returns-clause-stands g c = began_by c.args.self.now.script c.args.pass.now c.begin.new.pass c.args.here.now c.requires.stands c.args.client
    c.requires.whose c.in_ok-t.t c.in_ok-t.ensures
