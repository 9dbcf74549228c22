-- Present states after a commit are those of the world after it.
use Rattle.std.proofs.Common.{◌≡◌, ℕ, zero, suc, ◌<◌, ◌≤◌, List, [], ◌∷◌, length, Some, None, inl, inr, arith, refl, sym, ap, ◌∙◌}
use Rattle.std.specs.Prelude.{Option, is_some, slice_get, slice_index_or}
use Rattle.std.proofs.lemmas.Bool.{cases_lt}
use Rattle.std.proofs.lemmas.List.{get_or_default, get_or_past}
use Rattle.std.specs.Option.{option_flatten}
use Rattle.kms_model.specs.Device.Places.{state_at}
use Rattle.kms_model.specs.declared.states.Both.{Both}
use Rattle.kms_model.specs.Request.Agreement.{AreNew, AreOld}
use Rattle.kms_things.specs.Present.{AreWhole}
use Rattle.kms_core.specs.SwappedIn.{AreSwappedIn, swapped_in}

-- what is there, by two look-ups

got_of : {B : Type 0} (xs : List (Option B)) (i : ℕ) (b : B) → slice_get xs i ≡ Some (Some b) → slice_index_or xs i None ≡ Some b
got_of [] i b e = absurd cc
got_of (x ∷ xs) zero b e = ap option_flatten e
got_of (x ∷ xs) (suc i) b e = got_of xs i b e

get_of : {B : Type 0} (xs : List (Option B)) (i : ℕ) (b : B) → slice_index_or xs i None ≡ Some b → slice_get xs i ≡ Some (Some b)
get_of [] i b e = absurd cc
get_of (x ∷ xs) zero b e = ap Some e
get_of (x ∷ xs) (suc i) b e = get_of xs i b e

-- one object more is swapped in
pub swapped_here : {S : Type 0} (states old checked : List (Option (Both S))) (i : ℕ) {a b result : Option (Both S)} → i < length states → i
    < length checked → result ≡ swapped_in a b
    → a ≡ slice_index_or states i a → b ≡ slice_index_or checked i b → slice_index_or states i None ≡ slice_index_or old i None → result
    ≡ swapped_in (slice_index_or old i None) (slice_index_or checked i None)
swapped_here states old checked i {a} {b} within there is a_is b_is kept =
    is ∙ ap (λ x. swapped_in x b) (a_is ∙ get_or_default states i a None within ∙ kept) ∙ ap (swapped_in (slice_index_or old i None))
    (b_is ∙ get_or_default checked i b None there)

-- all are
pub swapped_all : {S : Type 0} (states old checked : List (Option (Both S))) (n : ℕ) → length states ≡ length old → length old ≤ n
    → ((p : ℕ) → p < n → slice_index_or states p None ≡ swapped_in (slice_index_or old p None) (slice_index_or checked p None))
    → AreSwappedIn S old checked states
swapped_all states old checked n size all done = record {
  size = size;
  at = λ p. elim (cases_lt p n) [
    | inl low ↦ done p low
    | inr beyond ↦ get_or_past states p None (omega (arith, size, all, beyond)) ∙ ap (λ x. swapped_in x (slice_index_or checked p None))
        (sym (get_or_past old p None (omega (arith, all, beyond))))
  ];
}

-- What is there is what was

swapped_some : {S : Type 0} (a b : Option (Both S)) → is_some (swapped_in a b) ≡ is_some a
swapped_some None b = refl
swapped_some (Some a) None = refl
swapped_some (Some a) (Some b) = refl

pub there_is : {B : Type 0} (xs : List (Option B)) (i : ℕ) → option_flatten (slice_get xs i) ≡ slice_index_or xs i None
there_is [] i = refl
there_is (x ∷ xs) zero = refl
there_is (x ∷ xs) (suc i) = there_is xs i

pub swapped_whole : {S : Type 0} {count : ℕ} {present checked after : List (Option (Both S))} → AreSwappedIn S present checked after
    → AreWhole count present → AreWhole count after
swapped_whole {present} {checked} {after} is whole = record {
  there = λ index low. same index ∙ whole.there index low;
  only = λ index some. whole.only index (sym (same index) ∙ some);
} where
  same : (index : ℕ) → is_some (state_at after index) ≡ is_some (state_at present index)
  same index =
      ap is_some (there_is after index ∙ is.at index) ∙ swapped_some (slice_index_or present index None) (slice_index_or checked index None)
      ∙ ap is_some (sym (there_is present index))

-- Old and new are alike the state after: that of an object that was checked is its new one, and of another the one before

abbrev old_or : {S : Type 0} → Both S → Option (Both S) → S
old_or other None = other.old
old_or other (Some both) = both.old

abbrev new_or : {S : Type 0} → Both S → Option (Both S) → S
new_or other None = other.new
new_or other (Some both) = both.new

-- a pair of states that are both this one
record AreBoth (S : Type 0) (both : Both S) (state : S) : Type 0 where
  old : both.old ≡ state
  new : both.new ≡ state

both_of : {S : Type 0} (f g : ℕ → S) (present checked : List (Option (Both S))) (count : ℕ) → AreWhole count present → AreOld f present
    → AreNew f present → AreNew g checked
    → ((index : ℕ) → index < count → slice_index_or checked index None ≡ None → g index ≡ f index)
    → (index : ℕ) (both : Both S) (a b : Option (Both S)) → slice_index_or present index None ≡ a → slice_index_or checked index None ≡ b
    → swapped_in a b ≡ Some both → AreBoth S both (g index)
both_of f g present checked count whole old new news frame index both None b a_is b_is is = absurd cc
both_of f g present checked count whole old new news frame index both (Some a) None a_is b_is is =
    let at : slice_get present index ≡ Some (Some both) = get_of present index both (a_is ∙ is) in
    let low : index < count = whole.only index (ap is_some (there_is present index ∙ a_is)) in
    record { old = old index both at ∙ sym (frame index low b_is); new = new index both at ∙ sym (frame index low b_is) }
both_of f g present checked count whole old new news frame index both (Some a) (Some b) a_is b_is is =
    let at : b.new ≡ g index = news index b (get_of checked index b b_is) in
    record { old = sym (ap (λ o. old_or both o) is) ∙ at; new = sym (ap (λ o. new_or both o) is) ∙ at }

pub swapped_agree : {S : Type 0} (f g : ℕ → S) (present checked after : List (Option (Both S))) (count : ℕ)
    → AreSwappedIn S present checked after → AreWhole count present → AreOld f present → AreNew f present → AreNew g checked
    → ((index : ℕ) → index < count → slice_index_or checked index None ≡ None → g index ≡ f index) → AreOld g after × AreNew g after
swapped_agree {S = S} f g present checked after count is whole old new news frame =
    (λ index both at. (of index both at).old, λ index both at. (of index both at).new) where
      of : (index : ℕ) (both : Both S) → slice_get after index ≡ Some (Some both) → AreBoth S both (g index)
      of index both at =
          both_of f g present checked count whole old new news frame index both (slice_index_or present index None)
          (slice_index_or checked index None) refl refl (sym (is.at index) ∙ got_of after index both at)
