use Rattle.kms_model.specs.Things.Tables.{AreBelow, slot}
use Rattle.kms_model.proofs.TableLemmas.{IsRising-push}
use Rattle.kms_track.proofs.tails.Tails.push.Goals as goal

pub invariant_of-self-2 : goal.invariant_of-self-2
invariant_of-self-2 c =
    let below : AreBelow c.args.commit c.self.inside.slots.items = rw (← c.self.view_is) at c.requires in
    rw (c.in-Ok.ensures.items, c.in_ok-reserve.ensures.items)
    (IsRising-push c.self.inside.slots.items (slot c.args.commit c.args.tail) c.self.invariant below)
