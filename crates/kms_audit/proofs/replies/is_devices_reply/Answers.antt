use Rattle.std.proofs.Common.{◌∙◌}
use Rattle.kms_audit.proofs.Replied.{device-apart, device-entry, device-other}
use Rattle.kms_audit.proofs.replies.is_devices_reply.Goals as goal

pub returns-else-same_reply : goal.returns-else-same_reply
returns-else-same_reply c = λ s r index stands.
    c.if-same_reply.false
    ∙ device-apart s r c.args.a.now c.args.serial.now stands c.args.command.now c.preview-reply.result c.preview-reply.ensures
    c.same_reply.result c.same_reply.ensures
    c.if-same_reply.false

pub returns-then-is_to_entry : goal.returns-then-is_to_entry
returns-then-is_to_entry c = λ s r index stands.
    c.if-is_to_entry.true
    ∙ device-entry s r c.args.a.now c.args.serial.now stands c.args.command.now c.preview-reply.result c.preview-reply.ensures
    c.same_reply.result c.same_reply.ensures
    c.if-same_reply.true c.is_to_entry.result (c.is_to_entry.ensures r index) c.if-is_to_entry.true

pub returns-else-is_to_entry : goal.returns-else-is_to_entry
returns-else-is_to_entry c = λ s r index stands.
    device-other s r c.args.a.now c.args.serial.now stands c.args.command.now c.preview-reply.result c.preview-reply.ensures
    c.same_reply.result c.same_reply.ensures
    c.if-same_reply.true c.is_to_entry.result
    (c.is_to_entry.ensures r index) c.if-is_to_entry.false c.is_accepted.result c.is_accepted.ensures
