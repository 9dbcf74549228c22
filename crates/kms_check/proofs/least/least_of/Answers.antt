use Rattle.std.proofs.Common.{◌∙◌, Some, arith, refl, sym, ap}
use Rattle.kms_track.specs.Places.{first_below, object_at_place}
use Rattle.kms_track.proofs.PlaceLemmas.{first_found, none_more}
use Rattle.kms_check.specs.Moves.{member_at}
use Rattle.kms_check.proofs.Masks.{member-here, member-not}
use Rattle.kms_check.proofs.least.least_of.Goals as goal

pub loop-place-init : goal.loop-place-init
unfolding first_below
loop-place-init c = refl

pub loop-place-preserved : goal.loop-place-preserved
loop-place-preserved c =
    none_more (member_at c.args.objects.now) c.loop-place.place c.loop-place.invariant
    (member-not c.args.objects.now c.loop-place.place (sym c.has_object.ensures ∙ c.if-has_object.false))

pub returns-then-has_object : goal.returns-then-has_object
returns-then-has_object c =
    ap Some c.object_at_place.ensures
    ∙ sym (first_found (member_at c.args.objects.now) c.loop-place.place 28 (object_at_place c.loop-place.place) c.loop-place.invariant
    (member-here c.args.objects.now c.loop-place.place (sym c.has_object.ensures ∙ c.if-has_object.true)) (omega arith))
