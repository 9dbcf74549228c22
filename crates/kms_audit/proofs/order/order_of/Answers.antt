use Rattle.std.proofs.Common.{◌≤◌, refl, sym, arith, ap, length}
use Rattle.kms_audit.proofs.Orders.{order-first, order-here, order-none, order-step, own-client}
use Rattle.kms_audit.proofs.order.order_of.Goals as goal
use Rattle.kms_audit.proofs.order.order_of.Goals.{Else-not-stands}

pub loop-place-init : goal.loop-place-init
loop-place-init c = order-first c.args.script.now c.args.report.now

pub returns-then-not-stands : goal.returns-then-not-stands
returns-then-not-stands c =
    order-here c.args.script.now c.args.report.now c.loop-place.place c.loop-place.before c.loop-place.blocks
    c.requires.formed c.loop-place.invariant
    c.as_slice-line-items.result.now c.as_slice-line-items.ensures.value _ c.answer_of-a.result c.stands.result
    (omega arith) c.answer_of-a.ensures
    (c.stands.ensures c.args.report.now c.requires.index (sym c.len-entries.ensures)) c.if-not-stands.true

pub loop-place-preserved : goal.loop-place-preserved
loop-place-preserved c =
    order-step c.args.script.now c.args.report.now c.loop-place.place c.loop-place.before c.loop-place.blocks
    c.requires.formed c.loop-place.invariant
    c.as_slice-line-items.result.now c.as_slice-line-items.ensures.value _ c.answer_of-a.result c.stands.result
    (omega arith) c.answer_of-a.ensures
    (c.stands.ensures c.args.report.now c.requires.index (sym c.len-entries.ensures)) c.if-not-stands.false _ refl
    c.note_line.new.blocks c.note_line.ensures

pub returns : goal.returns
returns c =
    order-none c.args.script.now c.args.report.now c.loop-place.place c.loop-place.before c.loop-place.blocks
    c.requires.formed c.loop-place.invariant
    (omega (arith, ap length c.as_slice-line-items.ensures.value))

-- the client of a line that stands
client : (c : Else-not-stands) → (1 ≤ c.answer_of-a.result.client) × (c.answer_of-a.result.client ≤ 16)
client c =
    own-client c.args.script.now c.args.report.now c.loop-place.place c.loop-place.before c.loop-place.blocks
    c.requires.formed c.loop-place.invariant
    c.as_slice-line-items.result.now c.as_slice-line-items.ensures.value _ c.answer_of-a.result c.stands.result
    (omega arith) c.answer_of-a.ensures
    (c.stands.ensures c.args.report.now c.requires.index (sym c.len-entries.ensures)) c.if-not-stands.false

pub note_line-requires-clause-some : goal.note_line-requires-clause-some
note_line-requires-clause-some c = (client (goal.at.note_line-requires-clause-some c).Else-not-stands).0

pub note_line-requires-clause-few : goal.note_line-requires-clause-few
note_line-requires-clause-few c = (client (goal.at.note_line-requires-clause-few c).Else-not-stands).1
