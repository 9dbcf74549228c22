use Rattle.std.proofs.Common.{◌≡◌, None, rules, arith, refl, sym, ap}
use Rattle.kms_track.specs.Places.{first_below, object_at_place}
use Rattle.kms_track.specs.Tracking.{with_object, busy_at}
use Rattle.kms_track.proofs.PlaceLemmas.{none_more, first_found, object_here}
use Rattle.kms_track.proofs.tracker.Tracker.busy.Goals as goal

pub loop-place-init : goal.loop-place-init
unfolding first_below
loop-place-init c = refl

pub loop-place-preserved : goal.loop-place-preserved
loop-place-preserved c =
    let none : busy_at c.args.self.now c.args.objects.now c.loop-place.place ≡ None = first_of (cc, search rules, grind arith) in
    none_more (λ p. with_object (object_at_place p) (busy_at c.args.self.now c.args.objects.now p)) c.loop-place.place
    c.loop-place.invariant (ap (with_object (object_at_place c.loop-place.place)) none)

pub returns-in-Some : goal.returns-in-Some
returns-in-Some c =
    sym (first_found (λ p. with_object (object_at_place p) (busy_at c.args.self.now c.args.objects.now p)) c.loop-place.place 28
    (c.object_at_place.result, c.in-Some.commit) c.loop-place.invariant
    (object_here (object_at_place c.loop-place.place) c.in-Some.commit (busy_at c.args.self.now c.args.objects.now c.loop-place.place)
    c.object_at_place.result c.in-Some.ensures c.object_at_place.ensures) (omega arith))
