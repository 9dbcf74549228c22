-- The ids of fences that stand at their places.
use Rattle.std.proofs.Common.{◌≡◌, ℕ, suc, ◌<◌, ◌≤◌, List, [], ◌∷◌, length, map, get_or, Some, None, arith, refl, ap}
use Rattle.std.specs.Prelude.{Option}
use Rattle.kms_model.specs.declared.objects.ObjId.{ObjId}
use Rattle.kms_track.specs.Tails.{fence_ids}

pub ids_at_places : (fences : List (Option ℕ)) (items : List (ObjId × ℕ))
    → ((k : ℕ) (d : ObjId × ℕ) → k < length items → get_or fences k None ≡ Some (get_or items k d).1)
    → ((k : ℕ) → length items ≤ k → get_or fences k None ≡ None) → fence_ids fences ≡ map (λ f. f.1) items
ids_at_places [] [] here behind = refl
ids_at_places [] (x ∷ items) here behind = (let none : None ≡ Some x.1 = here 0 x (omega arith) in cc)
ids_at_places (o ∷ fences) [] here behind =
    (let none : o ≡ None = behind 0 (omega arith)
    in rw none (ids_at_places fences [] (λ k d within. absurd (omega arith)) (λ k from. behind (suc k) (omega arith))))
ids_at_places (o ∷ fences) (x ∷ items) here behind =
    (let first : o ≡ Some x.1 = here 0 x (omega arith)
    in rw first (ap (λ ids. x.1 ∷ ids) (ids_at_places fences items (λ k d within. here (suc k) d (omega arith))
    (λ k from. behind (suc k) (omega arith)))))
