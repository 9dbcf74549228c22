use Rattle.std.proofs.Common.{sym, ◌∙◌, ◌-◌}
use Rattle.kms_things.proofs.Numbered.{none_below, found, looked_up}
use Rattle.kms_things.proofs.index.thing_with_id.Goals as goal

pub returns-then-id-lt-FIRST_THING_ID : goal.returns-then-id-lt-FIRST_THING_ID
returns-then-id-lt-FIRST_THING_ID c = sym (none_below 1000 c.args.id c.args.things.now c.requires c.if-id-lt-FIRST_THING_ID.true)

pub returns : goal.returns
returns c =
    looked_up c.args.things.now (c.args.id - 1000) _ c.get.result c.get.ensures.lookup.3 c.get.ensures.lookup.1 ∙ sym
    (found c.args.id c.args.things.now c.requires c.if-id-lt-FIRST_THING_ID.false)
