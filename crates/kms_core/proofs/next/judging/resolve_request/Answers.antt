use Rattle.std.proofs.lemmas.Bool.{and_parts}
use Rattle.kms_model.specs.Device.Properties.{keeps_limits}
use Rattle.kms_core.proofs.next.Refusing.{resolved_never, resolved_now}
use Rattle.kms_core.proofs.next.judging.resolve_request.Goals as goal

pub resolve-requires : goal.resolve-requires
resolve-requires c = rw c.script.ensures
    (and_parts (keeps_limits c.args.core.now.script.topology) _ c.is_a_history.ensures.formed.device.legal).0

pub returns-in-Ok : goal.returns-in-Ok
returns-in-Ok c =
    resolved_now c.args.core.now c.args.request.now c.in-Ok.resolved c.script.ensures
    c.in_ok-found.ensures c.in-Ok.ensures.resolved_by

pub unreachable-requires : goal.unreachable-requires
unreachable-requires c =
    resolved_never c.args.core.now c.args.request.now c.in-Err-Of._why
    c.script.ensures c.in_ok-found.ensures c.requires c.in-Err-Of.field-0-is c.in-Err-Of.ensures.refused_by
