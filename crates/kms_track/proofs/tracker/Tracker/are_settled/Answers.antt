use Rattle.std.proofs.Common.{◌≡◌, true, false, rules, arith, refl, sym}
use Rattle.kms_track.specs.Places.{all_below}
use Rattle.kms_track.specs.Tracking.{is_settled}
use Rattle.kms_track.proofs.PlaceLemmas.{all_more, all_fails}
use Rattle.kms_track.proofs.tracker.Tracker.are_settled.Goals as goal

pub loop-place-init : goal.loop-place-init
unfolding all_below
loop-place-init c = refl

pub loop-place-preserved : goal.loop-place-preserved
loop-place-preserved c =
    let here : is_settled c.args.self.now c.args.tail.now c.loop-place.place ≡ true = first_of (cc, search rules, grind arith) in
    all_more (is_settled c.args.self.now c.args.tail.now) c.loop-place.place c.loop-place.invariant here

pub returns-then-not-is_settled : goal.returns-then-not-is_settled
returns-then-not-is_settled c =
    let here : is_settled c.args.self.now c.args.tail.now c.loop-place.place ≡ false = first_of (cc, search rules, grind arith) in
    sym (all_fails (is_settled c.args.self.now c.args.tail.now) c.loop-place.place 28 c.loop-place.invariant here (omega arith))
