use Rattle.std.proofs.Common.{◌∙◌}
use Rattle.kms_model.proofs.TableLemmas.{FoundAt, found, absent, without_id-absent, without_id-present, IsRising-without_id}
use Rattle.kms_model.proofs.tables.IdTable.remove.Goals as goal

pub invariant_of-self : goal.invariant_of-self
invariant_of-self g c =
    let at : FoundAt c.self.inside.slots.items c.in-Some.i c.args.id = found c.as_slice.result.now c.self.inside.slots.items c.in-Some.i
    c.args.id c.as_slice.ensures.value c.self.invariant c.in-Some.ensures.in_range c.in-Some.ensures.at in
    rw (c.remove.ensures.items, without_id-present c.self.inside.slots.items c.in-Some.i c.args.id at.rising at.within at.same)
    (IsRising-without_id c.self.inside.slots.items c.args.id c.self.invariant)

pub returns-in-Some : goal.returns-in-Some
returns-in-Some g c =
    let at : FoundAt c.self.inside.slots.items c.in-Some.i c.args.id = found c.as_slice.result.now c.self.inside.slots.items c.in-Some.i
    c.args.id c.as_slice.ensures.value c.self.invariant c.in-Some.ensures.in_range c.in-Some.ensures.at in
    rw (← c.self.view_is) (c.remove.ensures.items ∙ without_id-present c.self.inside.slots.items c.in-Some.i c.args.id at.rising at.within
    at.same)

pub returns-in-None : goal.returns-in-None
returns-in-None g c =
    rw (← c.self.view_is) (without_id-absent c.self.inside.slots.items c.args.id
    (absent c.as_slice.result.now c.self.inside.slots.items c.args.id c.as_slice.ensures.value c.in-None.ensures.absent))
