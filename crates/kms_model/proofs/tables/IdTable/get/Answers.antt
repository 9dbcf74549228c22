use Rattle.std.proofs.Common.{sym}
use Rattle.kms_model.proofs.TableLemmas.{FoundAt, found, absent, value-absent, value-present}
use Rattle.kms_model.proofs.tables.IdTable.get.Goals as goal

pub returns-in-Some : goal.returns-in-Some
returns-in-Some g c =
    let at : FoundAt c.self.inside.slots.items c.in-Some.i c.args.id = found c.as_slice.result.now c.self.inside.slots.items c.in-Some.i
    c.args.id c.as_slice.ensures.value c.self.invariant c.in-Some.ensures.in_range c.in-Some.ensures.at in
    rw (← c.self.view_is) (value-present c.self.inside.slots.items c.in-Some.i c.args.id c.index.result.now at.rising at.within at.same
    c.index.ensures)

pub returns-in-None : goal.returns-in-None
returns-in-None g c =
    rw (← c.self.view_is) (sym (value-absent c.self.inside.slots.items c.args.id
    (absent c.as_slice.result.now c.self.inside.slots.items c.args.id c.as_slice.ensures.value c.in-None.ensures.absent)))
