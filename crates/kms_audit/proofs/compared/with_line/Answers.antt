use Rattle.kms_audit.proofs.Comparing.{with-right, with-wrong}
use Rattle.kms_audit.proofs.compared.with_line.Goals as goal

pub returns-then-reply_is_right : goal.returns-then-reply_is_right
returns-then-reply_is_right c = λ r index at.
    with-right c.args.standing.now.script.now r c.args.standing.now.serial.now c.args.standing.now.touches.now
    c.args.line.now c.answer_of.result
    c.answer_of.ensures c.reply_is_right.result
    (c.reply_is_right.ensures r index) at c.args.at c.args.differing c.if-reply_is_right.true

pub returns-else-reply_is_right : goal.returns-else-reply_is_right
returns-else-reply_is_right c = λ r index at.
    with-wrong c.args.standing.now.script.now r c.args.standing.now.serial.now c.args.standing.now.touches.now
    c.args.line.now c.answer_of.result
    c.answer_of.ensures c.reply_is_right.result
    (c.reply_is_right.ensures r index) at c.args.at c.args.differing c.if-reply_is_right.false c.earliest.result c.earliest.ensures
