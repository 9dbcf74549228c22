-- The first item that passes a test, of lists that are put together.
use Rattle.std.proofs.Common.{◌≡◌, ℕ, Bool, true, false, List, [], ◌∷◌, ◌++◌, map, cond, Option, Some, refl, ap, ◌∙◌}
use Rattle.std.specs.Prelude.{◌&&◌, ◌||◌, filter, find}
use Rattle.std.specs.List.{list_any, range_with_len}
use Rattle.std.specs.Option.{option_map}
use Rattle.std.proofs.lemmas.List.Folds.{list_any-append}
use Rattle.kms_model.specs.declared.objects.Kind.TheVariants.{Conn, Crtc, Plane}
use Rattle.kms_model.specs.declared.objects.Topology.{Topology}
use Rattle.kms_model.specs.Device.Objects.{count_of, ids_of, object_id}
use Rattle.kms_model.specs.Firsts.{or_else}
use Rattle.kms_model.specs.Machine.Commits.{lockable}
use Rattle.kms_model.specs.Order.Turns.{or_those}
use Rattle.kms_model.proofs.Facts.{cond_mapped}
use Rattle.kms_core.proofs.stores.Ranges.{any_mapped}

cond_first : {A : Type 0} (b : Bool) (x : A) (o p : Option A) → cond b (Some x) (or_else o p) ≡ or_else (cond b (Some x) o) p
cond_first true x o p = refl
cond_first false x o p = refl

pub found_both : {A : Type 0} (p : A → Bool) (xs ys : List A) → find p (xs ++ ys) ≡ or_else (find p xs) (find p ys)
found_both p [] ys = refl
found_both p (x ∷ xs) ys = ap (λ o. cond (p x) (Some x) o) (found_both p xs ys) ∙ cond_first (p x) x (find p xs) (find p ys)

pub found_mapped : {A B : Type 0} (p : B → Bool) (f : A → B) (xs : List A) → find p (map f xs) ≡ option_map f (find (λ x. p (f x)) xs)
found_mapped p f [] = refl
found_mapped p f (x ∷ xs) = ap (λ o. cond (p (f x)) (Some (f x)) o) (found_mapped p f xs) ∙ cond_mapped f (p (f x)) x
    (find (λ y. p (f y)) xs)

-- of those that pass another test

cond_filtered : {A : Type 0} (p : A → Bool) (b : Bool) (x : A) (xs : List A) → find p (cond b (x ∷ xs) xs)
    ≡ cond (b && p x) (Some x) (find p xs)
cond_filtered p true x xs = refl
cond_filtered p false x xs = refl

pub found_filtered : {A : Type 0} (p chosen : A → Bool) (xs : List A) → find p (filter chosen xs) ≡ find (λ x. chosen x && p x) xs
found_filtered p chosen [] = refl
found_filtered p chosen (x ∷ xs) = cond_filtered p (chosen x) x (filter chosen xs) ∙ ap (λ o. cond (chosen x && p x) (Some x) o)
    (found_filtered p chosen xs)

-- of those, or else of others
pub found_those : (p chosen : ℕ → Bool) (xs ys : List ℕ) → find p (or_those (filter chosen xs) ys)
    ≡ cond (list_any chosen xs) (find (λ x. chosen x && p x) xs) (find p ys)
found_those p chosen xs ys = any_those xs ∙ ap (λ o. cond (list_any chosen xs) o (find p ys)) (found_filtered p chosen xs) where
  one_those : (b : Bool) (x : ℕ) (xs : List ℕ) → find p (or_those (filter chosen xs) ys)
      ≡ cond (list_any chosen xs) (find p (filter chosen xs)) (find p ys)
      → find p (or_those (cond b (x ∷ filter chosen xs) (filter chosen xs)) ys)
      ≡ cond (b || list_any chosen xs) (find p (cond b (x ∷ filter chosen xs) (filter chosen xs))) (find p ys)
  one_those true x xs rest = refl
  one_those false x xs rest = rest

  any_those : (xs : List ℕ) → find p (or_those (filter chosen xs) ys) ≡ cond (list_any chosen xs) (find p (filter chosen xs)) (find p ys)
  any_those [] = refl
  any_those (x ∷ xs) = one_those (chosen x) x xs (any_those xs)

-- Objects that have a lock, kind by kind

module _ (t : Topology) (p : ℕ → Bool) where
  pub found_lockable : find p (lockable t)
      ≡ or_else (option_map (object_id Crtc) (find (λ i. p (object_id Crtc i)) (range_with_len 0 (count_of t Crtc))))
      (or_else (option_map (object_id Plane) (find (λ i. p (object_id Plane i)) (range_with_len 0 (count_of t Plane))))
      (option_map (object_id Conn) (find (λ i. p (object_id Conn i)) (range_with_len 0 (count_of t Conn)))))
  found_lockable =
      found_both p (ids_of t Crtc) (ids_of t Plane ++ ids_of t Conn)
      ∙ (λ i. or_else (found_mapped p (object_id Crtc) (range_with_len 0 (count_of t Crtc)) i)
      (found_both p (ids_of t Plane) (ids_of t Conn) i))
      ∙ (λ i. or_else (option_map (object_id Crtc) (find (λ i. p (object_id Crtc i)) (range_with_len 0 (count_of t Crtc))))
      (or_else (found_mapped p (object_id Plane) (range_with_len 0 (count_of t Plane)) i)
      (found_mapped p (object_id Conn) (range_with_len 0 (count_of t Conn)) i)))

  pub any_lockable : list_any p (lockable t)
      ≡ (list_any (λ i. p (object_id Crtc i)) (range_with_len 0 (count_of t Crtc))
      || (list_any (λ i. p (object_id Plane i)) (range_with_len 0 (count_of t Plane))
      || list_any (λ i. p (object_id Conn i)) (range_with_len 0 (count_of t Conn))))
  any_lockable =
      list_any-append p (ids_of t Crtc) (ids_of t Plane ++ ids_of t Conn)
      ∙ (λ i. any_mapped p (object_id Crtc) (range_with_len 0 (count_of t Crtc)) i || list_any-append p (ids_of t Plane) (ids_of t Conn) i)
      ∙ (λ i. list_any (λ i. p (object_id Crtc i)) (range_with_len 0 (count_of t Crtc))
      || (any_mapped p (object_id Plane) (range_with_len 0 (count_of t Plane)) i
      || any_mapped p (object_id Conn) (range_with_len 0 (count_of t Conn)) i))
