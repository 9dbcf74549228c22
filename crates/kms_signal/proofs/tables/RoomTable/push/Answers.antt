use Rattle.kms_model.specs.Things.Tables.{slot, AreBelow}
use Rattle.kms_model.proofs.TableLemmas.{IsRising-push}
use Rattle.kms_signal.proofs.tables.RoomTable.push.Goals as goal

pub invariant_of-self-2 : goal.invariant_of-self-2
invariant_of-self-2 g c =
    let below : AreBelow c.args.id c.self.inside.slots.items = rw (← c.self.view_is) at c.requires in
    rw (c.in-Ok.ensures.items, c.in_ok-reserve.ensures.items)
    (IsRising-push c.self.inside.slots.items (slot c.args.id c.args.value) c.self.invariant below)
