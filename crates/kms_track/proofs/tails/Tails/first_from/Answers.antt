use Rattle.kms_track.proofs.TailPlaces.{are_from, first_gone, first_there}
use Rattle.kms_track.proofs.tails.Tails.first_from.Goals as goal

pub returns-in-Some : goal.returns-in-Some
returns-in-Some c =
    rw (← c.self.view_is) (first_there c.deref.result.now c.self.inside.slots.items c.place_from-place.result c.args.from c.in-Some.slot.now
    c.deref.ensures.value
    (are_from c.as_slice.result.now c.self.inside.slots.items c.place_from-place.result c.args.from c.as_slice.ensures.value
    c.place_from-place.ensures.below c.place_from-place.ensures.above)
    c.in-Some.ensures.lookup.0 c.in-Some.ensures.lookup.1)

pub returns-in-None : goal.returns-in-None
returns-in-None c =
    rw (← c.self.view_is) (first_gone c.deref.result.now c.self.inside.slots.items c.place_from-place.result c.args.from
    c.deref.ensures.value
    (are_from c.as_slice.result.now c.self.inside.slots.items c.place_from-place.result c.args.from c.as_slice.ensures.value
    c.place_from-place.ensures.below c.place_from-place.ensures.above) c.in-None.ensures.lookup.0)
