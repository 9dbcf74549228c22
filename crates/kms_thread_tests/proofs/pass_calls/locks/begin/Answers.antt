use Rattle.std.proofs.Common.{◌∙◌, sym, subst}
use Rattle.kms_core.specs.Locks.{MayBegin}
use Rattle.kms_device.specs.Attempts.{no_findings}
use Rattle.kms_device.specs.Turns.{run_seen}
use Rattle.kms_device.proofs.TriedCases.{may_begin_at}
use Rattle.kms_thread_tests.proofs.pass_calls.locks.begin.Goals as goal

pub begin-requires-clause-may : goal.begin-requires-clause-may
begin-requires-clause-may g c =
    subst (MayBegin (run_seen c.args.device.now.script c.at_request.new.pass)) (sym c.rank-client.ensures)
    (may_begin_at c.args.device.now.script c.at_request.new.pass no_findings c.in-Some-Idle-default.ensures.ready
    (c.in-Some-Idle-default.ensures.doing ∙ c.in-Some-Idle-default.field-0-0-is))
