use Rattle.kms_audit.proofs.Replied.{late-as, late-refused, late-test}
use Rattle.kms_audit.proofs.late.is_refused_late.Goals as goal

pub returns-then-is_test : goal.returns-then-is_test
returns-then-is_test c = λ s r place at.
    late-test s r place c.args.serial.now c.args.touches.now c.args.request.now c.args.reply.now at c.is_test.result
    c.is_test.ensures c.if-is_test.true

pub returns-then-not-accepts : goal.returns-then-not-accepts
returns-then-not-accepts c = λ s r place at.
    late-refused s r place c.args.serial.now c.args.touches.now c.args.request.now c.args.reply.now at c.accepts.result c.accepts.ensures.is
    c.if-not-accepts.true

pub returns : goal.returns
returns c = λ s r place at.
    late-as s r place c.args.serial.now c.args.touches.now c.args.request.now c.args.reply.now at c.accepts.result
    c.is_test.result c.may_be_refused.result
    c.accepts.ensures.is c.if-not-accepts.false c.is_test.ensures c.if-is_test.false (c.may_be_refused.ensures s r place at)
