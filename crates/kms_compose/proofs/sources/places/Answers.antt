use Rattle.std.proofs.Common.{◌≡◌, ℕ, ◌+◌, ◌-◌, List, [], ◌∷◌, ◌++◌, map, ap, sym, ◌∙◌, arith, rules}
use Rattle.std.specs.List.{range_with_len}
use Rattle.std.proofs.lemmas.List.FromFn.{map-range_with_len_more}
use Rattle.kms_compose.specs.Sources.{source_place}
use Rattle.kms_compose.proofs.sources.places.Goals as goal

pub loop-at-preserved : goal.loop-at-preserved
loop-at-preserved c =
    let f : ℕ → ℕ = source_place c.args.reach.now in
    let start : ℕ = c.args.start in
    let at : ℕ = c.loop-at.at in
    let now : c.push.new.self.items ≡ c.loop-at.places.items ++ c.source_place.result ∷ [] = search rules in
    let more : at + 1 - start ≡ at - start + 1 = omega (arith, c.loop-at.auto.at) in
    now ∙ ap (λ (xs : List ℕ). xs ++ c.source_place.result ∷ []) c.loop-at.invariant
    ∙ ap (λ (place : ℕ). map f (range_with_len start (at - start)) ++ place ∷ []) c.source_place.ensures
    ∙ sym (map-range_with_len_more f start (at - start) at (omega (arith, c.loop-at.auto.at)))
    ∙ ap (λ (n : ℕ). map f (range_with_len start n)) (sym more)
