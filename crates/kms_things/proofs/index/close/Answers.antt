use Rattle.std.proofs.Common.{arith, ◌-◌}
use Rattle.kms_things.proofs.Numbered.{closed_below, closed_past, closed_at}
use Rattle.kms_things.proofs.index.close.Goals as goal

pub returns-then-id-lt-FIRST_THING_ID : goal.returns-then-id-lt-FIRST_THING_ID
returns-then-id-lt-FIRST_THING_ID c = closed_below 1000 c.args.id c.args.things.now.items c.requires c.if-id-lt-FIRST_THING_ID.true

pub returns-in-Some : goal.returns-in-Some
returns-in-Some c = closed_at 1000 (c.args.id - 1000) c.args.id c.args.things.now.items c.in-Some.thing.now c.requires (omega arith)
    (search arith) c.in-Some.ensures.value

pub returns-in_default : goal.returns-in_default
returns-in_default c = closed_past 1000 c.args.id c.args.things.now.items c.requires (grind arith)
