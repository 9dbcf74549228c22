-- Assignments from the last to the first: what each sets that no later one sets again.
use Rattle.std.proofs.Common.{◌≡◌, ◌∙◌, ℕ, zero, suc, ◌-◌, ◌<◌, ◌≤◌, List, [], ◌∷◌, ◌++◌, Bool, true, false, length, get_or, drop, reverse}
use Rattle.std.proofs.Common.{refl, sym, subst, arith, drop-cons, replicate, inl, inr}
use Rattle.std.specs.Prelude.{not}
use Rattle.std.specs.List.{list_any}
use Rattle.std.proofs.lemmas.Bool.{not-true, not-false, cases_lt}
use Rattle.std.proofs.lemmas.List.{reverse-append, get_or-replicate, get_or_past, length-replicate, drop_all}
use Rattle.kms_request.specs.Targets.{TellTargets}
use Rattle.kms_model.specs.declared.scripts.Assign.{Assign}
use Rattle.kms_model.specs.declared.sets.Set.{Set}
use Rattle.kms_model.specs.declared.worlds.Look.{Look}
use Rattle.kms_model.specs.Request.Sets.{has_target_of, last_sets, set_of}

-- the items from the place before one on
pub drop_before : {A : Type 0} (xs : List A) (n : ℕ) (d : A) → 0 < n → n ≤ length xs → drop (n - 1) xs ≡ get_or xs (n - 1) d ∷ drop n xs
drop_before xs zero d some within = absurd (omega arith)
drop_before xs (suc n) d some within = let e : suc n - 1 ≡ n = omega arith in rw e (drop-cons xs n d (omega arith))

-- an assignment that no later one sets again
pub sets_new : (f : ℕ → Look) (xs : List Assign) (left : ℕ) (d : Assign) (sets : List Set) → 0 < left → left ≤ length xs
    → true ≡ not (list_any (has_target_of (get_or xs (left - 1) d)) (drop left xs)) → reverse sets ≡ last_sets f (drop left xs)
    → reverse (sets ++ set_of f (get_or xs (left - 1) d) ∷ []) ≡ last_sets f (drop (left - 1) xs)
unfolding last_sets
sets_new f xs left d sets some within new is =
    let none : list_any (has_target_of (get_or xs (left - 1) d)) (drop left xs) ≡ false = not-true _ (sym new) in
    reverse-append sets (set_of f (get_or xs (left - 1) d) ∷ []) ∙ rw (drop_before xs left d some within, none, is) refl

-- an assignment that a later one sets again
pub sets_again : (f : ℕ → Look) (xs : List Assign) (left : ℕ) (d : Assign) (sets : List Set) → 0 < left → left ≤ length xs
    → false ≡ not (list_any (has_target_of (get_or xs (left - 1) d)) (drop left xs)) → reverse sets ≡ last_sets f (drop left xs)
    → reverse sets ≡ last_sets f (drop (left - 1) xs)
unfolding last_sets
sets_again f xs left d sets some within again is =
    let later : list_any (has_target_of (get_or xs (left - 1) d)) (drop left xs) ≡ true = not-false _ (sym again) in
    rw (drop_before xs left d some within, later, is) refl

-- what the assignments before a place add to those from it on
pub marks_before : (xs : List Assign) (left : ℕ) (d : Assign) (marks : List Bool) → 0 < left → left ≤ length xs
    → TellTargets (get_or xs (left - 1) d ∷ drop left xs) marks → TellTargets (drop (left - 1) xs) marks
marks_before xs left d marks some within tell =
    let P : List Assign → Type 0 = λ ys. TellTargets ys marks in
    subst P (sym (drop_before xs left d some within)) tell

pub none_marked : (n k : ℕ) → get_or (replicate n false) k false ≡ false
none_marked n k = elim (cases_lt k n) [
  | inl less ↦ get_or-replicate n k false false less
  | inr more ↦ get_or_past (replicate n false) k
      false (rw (length-replicate n false) more)
]

-- behind the last assignment
pub sets_at_end : (f : ℕ → Look) (xs : List Assign) {sets : List Set} → sets ≡ [] → reverse sets ≡ last_sets f (drop (length xs) xs)
unfolding last_sets
sets_at_end f xs none = rw (none, drop_all (length xs) xs (omega arith)) refl

pub marks_at_end : (xs : List Assign) (marks : List Bool) → TellTargets [] marks → TellTargets (drop (length xs) xs) marks
marks_at_end xs marks tell =
    let P : List Assign → Type 0 = λ ys. TellTargets ys marks in
    subst P (sym (drop_all (length xs) xs (omega arith))) tell
