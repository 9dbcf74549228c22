-- What a request sets of the objects of a kind: what is added so far, and what the rest of them adds.
use Rattle.std.proofs.Common.{◌≡◌, ℕ, suc, ◌+◌, Bool, true, false, cond, List, [], ◌∷◌, ◌++◌, append-nil, append_assoc, sym, ap}
use Rattle.std.specs.List.{flat_map, range_with_len}
use Rattle.std.specs.Prelude.{filter}
use Rattle.kms_model.specs.declared.objects.Kind.{Kind}
use Rattle.kms_model.specs.declared.scripts.Assign.{Assign}
use Rattle.kms_model.specs.declared.worlds.World.{World}
use Rattle.kms_suspend.specs.declared.parts.Way.{Way}
use Rattle.kms_suspend.specs.Parts.{assigns_at, is_in_use, part_at, part_from}

module _ {A : Type 0} (test : ℕ → Bool) (f : ℕ → List A) where
  -- what an object adds
  abbrev added : Bool → ℕ → List A
  added passes i = cond passes (f i) []

  one_of : (passes : Bool) (i k : ℕ) (old : List A)
      → (old ++ added passes i) ++ flat_map f (filter test (range_with_len (i + 1) k))
      ≡ old ++ flat_map f (cond passes (i ∷ filter test (range_with_len (i + 1) k)) (filter test (range_with_len (i + 1) k)))
  one_of true i k old = append_assoc old (f i) (flat_map f (filter test (range_with_len (i + 1) k)))
  one_of false i k old = ap (λ xs. xs ++ flat_map f (filter test (range_with_len (i + 1) k))) (append-nil old)

-- one object more is done, and one less is to come
pub part_more : (way : Way) (w : World) (kind : Kind) (i k left : ℕ) (old new : List Assign) → left ≡ suc k
    → new ≡ old ++ part_at way w kind i
    → new ++ part_from way w kind (i + 1) k ≡ old ++ part_from way w kind i left
part_more way w kind i k left old new more done =
    rw (more, done) (one_of (is_in_use w kind) (assigns_at way w kind) (is_in_use w kind i) i k old)

-- no object is to come
pub part_none : (way : Way) (w : World) (kind : Kind) (i left : ℕ) (old : List Assign) → left ≡ 0 → old ≡ old ++ part_from way w kind i left
part_none way w kind i left old none = rw none (sym (append-nil old))
