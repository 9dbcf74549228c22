use Rattle.std.proofs.Common.{◌∙◌}
use Rattle.kms_model.proofs.TableLemmas.{absent, without_id-absent, IsRising-without_id}
use Rattle.kms_signal.proofs.Places.{removed_there}
use Rattle.kms_signal.proofs.tables.RoomTable.remove.Goals as goal

pub invariant_of-self : goal.invariant_of-self
invariant_of-self g c =
    rw (
      c.remove.ensures.items,
      removed_there _ _ c.in-Some.i c.args.id c.as_slice.ensures.value c.self.invariant c.in-Some.ensures.in_range
          c.in-Some.ensures.at,
    )
    (IsRising-without_id c.self.inside.slots.items c.args.id c.self.invariant)

pub returns-in-Some-clause-slots : goal.returns-in-Some-clause-slots
returns-in-Some-clause-slots g c =
    rw (← c.self.view_is) (c.remove.ensures.items ∙ removed_there _ _ c.in-Some.i c.args.id c.as_slice.ensures.value c.self.invariant
    c.in-Some.ensures.in_range c.in-Some.ensures.at)

pub returns-in-None-clause-slots : goal.returns-in-None-clause-slots
returns-in-None-clause-slots g c =
    rw (← c.self.view_is) (without_id-absent c.self.inside.slots.items c.args.id
    (absent c.as_slice.result.now c.self.inside.slots.items c.args.id c.as_slice.ensures.value c.in-None.ensures.absent))
