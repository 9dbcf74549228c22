use Rattle.std.proofs.Common.{◌≡◌, None, rules, arith, refl, sym, ap}
use Rattle.kms_track.specs.Places.{first_below, object_at_place}
use Rattle.kms_track.specs.Tracking.{with_object, not_yet_at}
use Rattle.kms_track.proofs.PlaceLemmas.{none_more, first_found, object_here}
use Rattle.kms_track.proofs.tracker.Tracker.not_yet.Goals as goal

pub loop-index-init : goal.loop-index-init
unfolding first_below
loop-index-init c = refl

pub loop-index-preserved : goal.loop-index-preserved
loop-index-preserved c =
    let none : not_yet_at c.args.self.now c.args.crtcs c.loop-index.index ≡ None = first_of (cc, search rules, grind arith) in
    none_more (λ i. with_object (object_at_place i) (not_yet_at c.args.self.now c.args.crtcs i)) c.loop-index.index c.loop-index.invariant
    (ap (with_object (object_at_place c.loop-index.index)) none)

pub returns-in-Some : goal.returns-in-Some
returns-in-Some c =
    sym (first_found (λ i. with_object (object_at_place i) (not_yet_at c.args.self.now c.args.crtcs i)) c.loop-index.index 4
    (c.object_at_place.result, c.in-Some.commit) c.loop-index.invariant
    (object_here (object_at_place c.loop-index.index) c.in-Some.commit (not_yet_at c.args.self.now c.args.crtcs c.loop-index.index)
    c.object_at_place.result c.in-Some.ensures c.object_at_place.ensures) (omega arith))
