use Rattle.std.proofs.Common.{◌≡◌, ℕ, ◌+◌, true, List, length, slice_index, refl, ap, ◌∙◌, rules}
use Rattle.std.proofs.lemmas.List.FromFn.{get_or-map-range_with_len, length-map-range_with_len}
use Rattle.kms_compose.specs.Sources.{is_axis_unscaled, source_place}
use Rattle.kms_compose.proofs.Places.{unscaled_place}
use Rattle.kms_compose.proofs.parts.places_of.Goals as goal

pub returns-then-is_axis_unscaled-clause-places : goal.returns-then-is_axis_unscaled-clause-places
returns-then-is_axis_unscaled-clause-places c = λ k within.
    let same : is_axis_unscaled c.args.reach.now ≡ true = search rules in
    ap (λ (n : ℕ). n + k) c.source_place.ensures ∙ unscaled_place c.args.reach.now c.args.first c.args.count k c.requires.seen same within

pub returns-in_ok-places-clause-count : goal.returns-in_ok-places-clause-count
returns-in_ok-places-clause-count c = ap length c.in_ok-places.ensures ∙ length-map-range_with_len (source_place c.args.reach.now)
    c.args.first c.args.count

pub returns-in_ok-places-clause-places : goal.returns-in_ok-places-clause-places
returns-in_ok-places-clause-places c = λ k within.
    ap (λ (xs : List ℕ). slice_index xs k) c.in_ok-places.ensures ∙ get_or-map-range_with_len (source_place c.args.reach.now) c.args.first
    c.args.count k (c.args.first + k) 0 within refl
