use Rattle.kms_audit.proofs.NextEvents.{taken-none, taken-one}
use Rattle.kms_audit.proofs.events.take_line.Goals as goal

pub returns-then-count-eq0 : goal.returns-then-count-eq0
returns-then-count-eq0 c = taken-none c.args.line.now c.args.owed.now c.count_of-count.result c.count_of-count.ensures c.if-count-eq0.true

pub returns : goal.returns
returns c =
    taken-one c.args.line.now c.args.owed.now c.insert.new.self c.count_of-count.result c.count_of-count.ensures c.if-count-eq0.false
    c.in_ok-insert.ensures.updates.0
