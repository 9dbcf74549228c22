use Rattle.kms_model.proofs.TableLemmas.{FoundAt, found, absent, with_value-absent, with_value-present, IsRising-with_value}
use Rattle.kms_model.proofs.tables.IdTable.set.Goals as goal

pub invariant_of-self : goal.invariant_of-self
invariant_of-self g c =
    let at : FoundAt c.self.inside.slots.items c.in-Some.i c.args.id = found c.as_slice.result.now c.self.inside.slots.items c.in-Some.i
    c.args.id c.as_slice.ensures.value c.self.invariant c.in-Some.ensures.in_range c.in-Some.ensures.at in
    rw (with_value-present c.self.inside.slots.items c.in-Some.i c.args.id c.args.value at.rising at.within at.same)
    (IsRising-with_value c.self.inside.slots.items c.args.id c.args.value c.self.invariant)

pub returns-in-Some : goal.returns-in-Some
returns-in-Some g c =
    let at : FoundAt c.self.inside.slots.items c.in-Some.i c.args.id = found c.as_slice.result.now c.self.inside.slots.items c.in-Some.i
    c.args.id c.as_slice.ensures.value c.self.invariant c.in-Some.ensures.in_range c.in-Some.ensures.at in
    rw (← c.self.view_is) (with_value-present c.self.inside.slots.items c.in-Some.i c.args.id c.args.value at.rising at.within at.same)

pub returns-in-None : goal.returns-in-None
returns-in-None g c =
    rw (← c.self.view_is) (with_value-absent c.self.inside.slots.items c.args.id c.args.value
    (absent c.as_slice.result.now c.self.inside.slots.items c.args.id c.as_slice.ensures.value c.in-None.ensures.absent))
