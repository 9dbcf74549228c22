use Rattle.kms_model.proofs.TableLemmas.{absent, with_value-absent, IsRising-with_value}
use Rattle.kms_signal.proofs.Places.{in_room, set_there}
use Rattle.kms_signal.proofs.tables.RoomTable.set.Goals as goal

pub invariant_of-self : goal.invariant_of-self
invariant_of-self g c =
    rw (set_there _ _ c.in-Some.i c.args.id c.as_slice.ensures.value c.self.invariant c.in-Some.ensures.in_range c.in-Some.ensures.at
    c.args.value)
    (IsRising-with_value c.self.inside.slots.items c.args.id c.args.value c.self.invariant)

pub returns-in-Some : goal.returns-in-Some
returns-in-Some g c =
    rw (← c.self.view_is) (in_room (set_there _ _ c.in-Some.i c.args.id c.as_slice.ensures.value c.self.invariant c.in-Some.ensures.in_range
    c.in-Some.ensures.at c.args.value))

pub returns-in-None : goal.returns-in-None
returns-in-None g c =
    rw (← c.self.view_is) (in_room (with_value-absent c.self.inside.slots.items c.args.id c.args.value
    (absent c.as_slice.result.now c.self.inside.slots.items c.args.id c.as_slice.ensures.value c.in-None.ensures.absent)))
