use Rattle.std.proofs.Common.{arith, sym}
use Rattle.kms_audit.proofs.NextEvents.{next-end, reader-none, reader-other, reader-over, reader-same, turned-within}
use Rattle.kms_audit.proofs.events.next_reader.Goals as goal

pub returns-in_default-clause-value : goal.returns-in_default-clause-value
returns-in_default-clause-value c = reader-none c.args.reader c.args.blocks.now c.args.replies.now c.args.line.now
    (sym c.in_default.ensures)

pub next_event-requires-clause-within : goal.next_event-requires-clause-within
next_event-requires-clause-within c =
    turned-within _ c.args.reader c.args.blocks.now c.args.line.now.0 c.in-Some.turned c.requires.blocks
    c.requires.own (sym c.in-Some.ensures)

pub returns-in_default-next_event-clause-value : goal.returns-in_default-next_event-clause-value
returns-in_default-next_event-clause-value c =
    reader-over c.args.reader c.args.blocks.now c.args.replies.now c.args.line.now c.in-Some.turned (sym c.in-Some.ensures)
    (sym c.in_default-next_event.ensures)

pub returns-then-same_event-clause-value : goal.returns-then-same_event-clause-value
returns-then-same_event-clause-value c =
    reader-same c.args.reader c.args.blocks.now c.args.replies.now c.args.line.now c.in-Some.turned
    (sym c.in-Some.ensures) c.in-Some-next_event.event c.in-Some-next_event.next
    (sym c.in-Some-next_event.ensures) c.same_event.result c.same_event.ensures c.if-same_event.true

pub returns-then-same_event-clause-within : goal.returns-then-same_event-clause-within
returns-then-same_event-clause-within c =
    let end = next-end c.in-Some.turned c.args.replies.now c.in-Some-next_event.event c.in-Some-next_event.next
    (sym c.in-Some-next_event.ensures) in
    let own = turned-within _ c.args.reader c.args.blocks.now c.args.line.now.0 c.in-Some.turned c.requires.blocks c.requires.own
    (sym c.in-Some.ensures) in
    omega (arith, end, own)

pub returns-else-same_event-clause-value : goal.returns-else-same_event-clause-value
returns-else-same_event-clause-value c =
    reader-other c.args.reader c.args.blocks.now c.args.replies.now c.args.line.now c.in-Some.turned
    (sym c.in-Some.ensures) c.in-Some-next_event.event c.in-Some-next_event.next
    (sym c.in-Some-next_event.ensures) c.same_event.result c.same_event.ensures c.if-same_event.false
