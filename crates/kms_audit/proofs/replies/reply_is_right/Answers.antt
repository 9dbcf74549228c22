use Rattle.std.proofs.Common.{Some, ap, not, sym, ◌∙◌}
use Rattle.kms_audit.proofs.Replied.{request-device, request-entry, request-late, right-none, right-other, right-signal, right-wait}
use Rattle.kms_model.specs.Report.RightAnswers.{is_devices_reply}
use Rattle.kms_audit.proofs.replies.reply_is_right.Goals as goal

pub returns-in_default : goal.returns-in_default
returns-in_default c = λ r index at. right-none c.args.script.now r c.args.a.now c.in_default.ensures

pub returns-in-Wait : goal.returns-in-Wait
returns-in-Wait c = λ r index at.
    right-wait c.args.script.now r c.args.a.now (ap Some (sym c.in-Wait.is) ∙ c.in-Some.ensures) c.is_told.result c.is_told.ensures

pub returns-in-Signal : goal.returns-in-Signal
returns-in-Signal c = λ r index at.
    right-signal c.args.script.now r c.args.a.now c.args.serial.now at.stands c.in-Some.command.now c.preview.result
    c.preview.ensures _ c.in-Signal.is
    c.in-Some.ensures c.same_reply.result c.same_reply.ensures

pub returns-then-is_devices_reply : goal.returns-then-is_devices_reply
returns-then-is_devices_reply c = λ r index at.
    c.if-is_devices_reply.true
    ∙ request-device c.args.script.now r c.args.a.now c.in-Atomic.request
    (ap Some (sym c.in-Atomic.is) ∙ c.in-Some.ensures) c.is_devices_reply.result
    (c.is_devices_reply.ensures c.args.script.now r index at.stands
    ∙ ap (is_devices_reply c.args.script.now r c.args.a.now) c.in-Atomic.is)
    c.if-is_devices_reply.true

pub returns-then-not-is_to_entry : goal.returns-then-not-is_to_entry
returns-then-not-is_to_entry c = λ r index at.
    request-late c.args.script.now r c.args.a.now c.in-Atomic.request
    (ap Some (sym c.in-Atomic.is) ∙ c.in-Some.ensures) c.is_devices_reply.result
    (c.is_devices_reply.ensures c.args.script.now r index at.stands
    ∙ ap (is_devices_reply c.args.script.now r c.args.a.now) c.in-Atomic.is)
    c.if-is_devices_reply.false c.is_to_entry.result
    (c.is_to_entry.ensures r index)
    c.if-not-is_to_entry.true c.is_refused_late.result (c.is_refused_late.ensures c.args.script.now r c.args.a.now.place at)

pub returns-else-not-is_to_entry : goal.returns-else-not-is_to_entry
returns-else-not-is_to_entry c = λ r index at.
    ap not c.if-not-is_to_entry.false
    ∙ request-entry c.args.script.now r c.args.a.now c.in-Atomic.request
    (ap Some (sym c.in-Atomic.is) ∙ c.in-Some.ensures) c.is_devices_reply.result
    (c.is_devices_reply.ensures c.args.script.now r index at.stands
    ∙ ap (is_devices_reply c.args.script.now r c.args.a.now) c.in-Atomic.is)
    c.if-is_devices_reply.false c.is_to_entry.result
    (c.is_to_entry.ensures r index)
    c.if-not-is_to_entry.false

pub returns-in_default-command : goal.returns-in_default-command
returns-in_default-command c = λ r index at.
    right-other c.args.script.now r c.args.a.now c.in-Some.command.now c.in_default-command.not-Atomic c.in_default-command.not-Signal
    c.in_default-command.not-Wait c.in-Some.ensures c.is_devices_reply-in_default-command.result
    (c.is_devices_reply-in_default-command.ensures c.args.script.now r index at.stands)
