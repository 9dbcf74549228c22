use Rattle.std.proofs.Common.{sym}
use Rattle.kms_model.proofs.TableLemmas.{absent, value-absent}
use Rattle.kms_signal.proofs.Places.{value_there}
use Rattle.kms_signal.proofs.tables.RoomTable.get.Goals as goal

pub returns-in-Some : goal.returns-in-Some
returns-in-Some g c =
    rw (← c.self.view_is) (value_there _ _ c.in-Some.i c.args.id c.as_slice.ensures.value c.self.invariant c.in-Some.ensures.in_range
    c.in-Some.ensures.at c.index.result.now c.index.ensures)

pub returns-in-None : goal.returns-in-None
returns-in-None g c =
    rw (← c.self.view_is) (sym (value-absent c.self.inside.slots.items c.args.id
    (absent c.as_slice.result.now c.self.inside.slots.items c.args.id c.as_slice.ensures.value c.in-None.ensures.absent)))
