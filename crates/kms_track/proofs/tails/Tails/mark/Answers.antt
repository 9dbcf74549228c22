use Rattle.kms_model.proofs.TableLemmas.{FoundAt, found, absent}
use Rattle.kms_model.specs.Things.Tables.{value_with_id}
use Rattle.kms_signal.proofs.Places.{in_room}
use Rattle.kms_track.proofs.TailPlaces.{marked_absent, marked_at, marked_rises}
use Rattle.kms_track.proofs.tails.Tails.mark.Goals as goal

pub invariant_of-self : goal.invariant_of-self
invariant_of-self c =
    let at : FoundAt c.self.inside.slots.items c.in-Some.i c.args.commit =
    found c.as_slice.result.now c.self.inside.slots.items c.in-Some.i c.args.commit c.as_slice.ensures.value c.self.invariant
    c.in-Some.ensures.in_range c.in-Some.ensures.at in
    rw (marked_at c.self.inside.slots.items c.in-Some.i c.args.commit c.index_mut.result.now c.args.mark c.with-tail.result
    at.rising at.within at.same c.index_mut.ensures.value c.with-tail.ensures)
    (marked_rises c.self.inside.slots.items c.args.commit c.args.mark
    (value_with_id c.self.inside.slots.items c.args.commit) c.self.invariant)

pub returns-in-Some : goal.returns-in-Some
returns-in-Some c =
    let at : FoundAt c.self.inside.slots.items c.in-Some.i c.args.commit =
    found c.as_slice.result.now c.self.inside.slots.items c.in-Some.i c.args.commit c.as_slice.ensures.value c.self.invariant
    c.in-Some.ensures.in_range c.in-Some.ensures.at in
    rw (← c.self.view_is) (in_room (marked_at c.self.inside.slots.items c.in-Some.i c.args.commit c.index_mut.result.now c.args.mark
    c.with-tail.result at.rising at.within at.same c.index_mut.ensures.value c.with-tail.ensures))

pub returns-in-None : goal.returns-in-None
returns-in-None c =
    rw (← c.self.view_is) (in_room (marked_absent c.self.inside.slots.items c.args.commit c.args.mark
    (absent c.as_slice.result.now c.self.inside.slots.items c.args.commit c.as_slice.ensures.value c.in-None.ensures.absent)))
