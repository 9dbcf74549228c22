-- What a search for the place of a number finds.
use Rattle.std.proofs.Common.{◌≡◌, ℕ, zero, suc, ◌-◌, ◌<◌, ◌≤◌, length, List, [], ◌∷◌, get_or, Bool, true, false, Option, Some, None, inl}
use Rattle.std.proofs.Common.{inr, arith, refl, sym, ap, ◌∙◌, subst, leb-true, ltb, ltb-true, ltb-false}
use Rattle.std.specs.Prelude.{is_some, IsTrue, nat_le, nat_lt, slice_get, ◌&&◌, ◌||◌}
use Rattle.std.specs.List.{AllByRecursion}
use Rattle.std.specs.List.Sorted.{IsNonDecreasingBy, IsPartitionPoint}
use Rattle.std.specs.Option.{option_map}
use Rattle.std.proofs.Math.ListN.{set}
use Rattle.std.proofs.lemmas.Bool.{cases_eq, cases_lt, eq-eqb, ne_eqb}
use Rattle.std.proofs.lemmas.List.{get_or-map}
use Rattle.std.proofs.lemmas.Option.{slice_get-get_or, slice_get_past}
use borrow.Author.Tests.{tests}
use Rattle.kms_model.specs.declared.objects.Kind.{Kind}
use Rattle.kms_model.specs.declared.objects.Kind.TheVariants.{Crtc, Plane}
use Rattle.kms_model.specs.declared.objects.Topology.{Topology}
use Rattle.kms_model.specs.declared.runs.Latch.{Latch}
use Rattle.kms_model.specs.declared.tables.Slot.{Slot}
use Rattle.kms_model.specs.Device.Objects.{first_id, index_of, is_id_of, object_id}
use Rattle.kms_model.specs.Machine.Commits.{has_number}
use Rattle.kms_model.specs.Machine.State.{Commit, Marks}
use Rattle.kms_model.specs.Things.Tables.{AreBelow, IsRising, slot, slot_ids, value_with_id}
use Rattle.kms_model.proofs.KindsOfIds.{kind-crtc, kind-plane}
use Rattle.kms_model.proofs.TableLemmas.{AreOther, IsRising-with_value, rising_at, value-absent, value-present, with_value-present}
use Rattle.kms_track.specs.Tracking.{Tracking, tail_of}
use Rattle.kms_track.specs.declared.progress.Mark.{Mark}
use Rattle.kms_track.specs.declared.progress.Progress.{Progress}
use Rattle.kms_track.specs.declared.tail.Tail.{Tail}
use Rattle.kms_track.specs.InStep.{IsKept, IsTrackerOf}
use Rattle.kms_track.specs.MachineLaws.{IsFirstFrom}
use Rattle.kms_track.specs.Tails.{HasRegisters, first_from, marked_slots, marked_tail, with_mark}

le_true : (a b : ℕ) → a ≤ b → nat_le a b ≡ true
le_true a b le = grind (arith, tests)

le_false : (a b : ℕ) → b < a → nat_le a b ≡ false
le_false a b less = grind (arith, tests)

-- the number at the place is the first from one on
pub found_from : (slots : List (Slot Tail)) (i from : ℕ) → ((k : ℕ) → k < i → k < length slots → get_or (slot_ids slots) k 0 < from)
    → ((k : ℕ) → i ≤ k → k < length slots → from ≤ get_or (slot_ids slots) k 0)
    → first_from slots from ≡ option_map (λ s. s.id) (slice_get slots i)
found_from [] i from below above = refl
found_from (s ∷ slots) zero from below above = rw (le_true from s.id (above 0 (omega arith) (omega arith))) refl
found_from (s ∷ slots) (suc i) from below above =
    rw (le_false from s.id (below 0 (omega arith) (omega arith)))
    (found_from slots i from (λ k low within. below (suc k) (omega (arith, low)) (omega (arith, within)))
    (λ k high within. above (suc k) (omega (arith, high)) (omega (arith, within))))

-- The first number that has a tail

abbrev pub IsFirstOf : List (Slot Tail) → ℕ → Option ℕ → Type 0
IsFirstOf slots from None = (j : ℕ) → from ≤ j → value_with_id slots j ≡ None
IsFirstOf slots from (Some k) = (from ≤ k) × (is_some (value_with_id slots k) ≡ true) ×
    ((j : ℕ) → from ≤ j → j < k → value_with_id slots j ≡ None)

others_above : (j n : ℕ) (slots : List (Slot Tail)) → j ≤ n → AllByRecursion (λ s. n < s.id) slots → AreOther j slots
others_above j n [] low above = tt
others_above j n (s ∷ slots) low above = (ne_eqb s.id j (λ e. absurd (omega (arith, above.0, e, low))), others_above j n slots low above.1)

pub first_is : (slots : List (Slot Tail)) (from : ℕ) → IsRising slots → IsFirstOf slots from (first_from slots from)
first_is [] from rising = λ j above. refl
first_is (s ∷ slots) from rising =
    elim (cases_lt s.id from) [
      | inl less ↦ rw (le_false from s.id less) (behind (first_from slots from) less (first_is slots from rising.1))
      | inr here ↦ rw (le_true from s.id here) (
        here,
        rw (eq-eqb s.id s.id refl) refl,
        λ j above low. rw (ne_eqb s.id j (λ e. absurd (omega (arith, low, e))))
            (value-absent slots j (others_above j s.id slots (omega (arith, low)) rising.0)),
      )
    ]
  where
    behind : (o : Option ℕ) → s.id < from → IsFirstOf slots from o → IsFirstOf (s ∷ slots) from o
    behind None less none = λ j above. rw (ne_eqb s.id j (λ e. absurd (omega (arith, less, above, e)))) (none j above)
    behind (Some k) less first = (
      first.0,
      rw (ne_eqb s.id k (λ e. absurd (omega (arith, less, first.0, e)))) first.1,
      λ j above low. rw (ne_eqb s.id j (λ e. absurd (omega (arith, less, above, e)))) (first.2 j above low),
    )

cleaned_at : (t : Topology) (cs : List Commit) (marks : Marks) (latches : List Latch) (k : ℕ) (o : Option Tail) → o ≡ None
    → IsKept t cs marks latches k o → has_number marks.cleaned k ≡ true
cleaned_at t cs marks latches k None is kept = kept.0
cleaned_at t cs marks latches k (Some x) is kept = absurd cc

uncleaned_at : (t : Topology) (cs : List Commit) (marks : Marks) (latches : List Latch) (k : ℕ) (o : Option Tail) → is_some o ≡ true
    → IsKept t cs marks latches k o → has_number marks.cleaned k ≡ false
uncleaned_at t cs marks latches k None is kept = absurd cc
uncleaned_at t cs marks latches k (Some x) is kept = kept.0

within_all : (slots : List (Slot Tail)) (n k : ℕ) → AreBelow n slots → is_some (value_with_id slots k) ≡ true → k < n
within_all [] n k below there = absurd cc
within_all (s ∷ slots) n k below there =
    elim (cases_eq s.id k) [
      | inl same ↦ omega (arith, below.0, same)
      | inr other ↦ within_all slots n k below.1 (rw (ne_eqb s.id k other) at there)
    ]

pub first_uncleaned : (t : Topology) (cs : List Commit) (marks : Marks) (latches : List Latch) (v : Tracking) (from : ℕ)
    → IsTrackerOf t cs marks latches v → IsFirstFrom marks (length cs) from (first_from v.tails.slots from)
first_uncleaned t cs marks latches v from stand = go (first_from v.tails.slots from) (first_is v.tails.slots from stand.rising) where
  go : (o : Option ℕ) → IsFirstOf v.tails.slots from o → IsFirstFrom marks (length cs) from o
  go None none = λ j above low. cleaned_at t cs marks latches j (tail_of v j) (none j above) (stand.kept j low)
  go (Some k) first =
      let low : k < length cs = within_all v.tails.slots (length cs) k stand.below first.1 in (
        first.0,
        low,
        uncleaned_at t cs marks latches k (tail_of v k) first.1 (stand.kept k low),
        λ j above less.
            cleaned_at t cs marks latches j (tail_of v j) (first.2 j above less) (stand.kept j (omega (arith, less, low))),
      )

-- The place of a number

from_place : (slots : List (Slot Tail)) (k : ℕ) (d : Slot Tail) → k < length slots → get_or (slot_ids slots) k 0 ≡ (get_or slots k d).id
from_place slots k d within = let f : Slot Tail → ℕ = λ s. s.id in get_or-map f slots k d 0 within

pub ids_rise : (slots : List (Slot Tail)) → IsRising slots → IsNonDecreasingBy (λ (s : Slot Tail). s.id) slots
ids_rise slots rising i j d before within =
    elim (cases_lt i j) [
      | inl less ↦ (
          let up : get_or (slot_ids slots) i 0 < get_or (slot_ids slots) j 0 = rising_at slots i j rising less within in
          omega (arith, up, from_place slots i d (omega (arith, less, within)), from_place slots j d within)
          )
      | inr other ↦ (let same : i ≡ j = omega (arith, before, other) in rw same (omega arith))
    ]

abbrev pub IsPlaceOf : List (Slot Tail) → ℕ → ℕ → Type 0
IsPlaceOf slots id i = IsPartitionPoint (λ (s : Slot Tail). ltb s.id id ≡ true) (λ (s : Slot Tail). ltb s.id id ≡ false) slots i

pub below_place : (slots : List (Slot Tail)) (id i k : ℕ) → IsPlaceOf slots id i → i ≤ length slots → k < i
    → get_or (slot_ids slots) k 0 < id
below_place [] id i k point bound low = absurd (omega (arith, bound, low))
below_place (s ∷ slots) id i k point bound low = rw (from_place (s ∷ slots) k s (omega (arith, bound, low)))
    (ltb-true _ _ (point.0 k s (omega arith) low))

pub from_place_on : (slots : List (Slot Tail)) (id i k : ℕ) → IsPlaceOf slots id i → i ≤ k → k < length slots
    → id ≤ get_or (slot_ids slots) k 0
from_place_on [] id i k point high within = absurd (omega (arith, within))
from_place_on (s ∷ slots) id i k point high within = rw (from_place (s ∷ slots) k s within) (ltb-false _ _ (point.1 k s high within))

-- The first number from one on, of slices that are the table

pub record AreFrom (slots : List (Slot Tail)) (i from : ℕ) : Type 0 where
  pub below : (k : ℕ) → k < i → get_or (slot_ids slots) k 0 < from
  pub above : (k : ℕ) → i ≤ k → k < length slots → from ≤ get_or (slot_ids slots) k 0

pub are_from : (slice slots : List (Slot Tail)) (i from : ℕ) → slice ≡ slots → ((k : ℕ) → k < i → get_or (slot_ids slice) k 0 < from)
    → ((k : ℕ) → i ≤ k → k < length slice → from ≤ get_or (slot_ids slice) k 0) → AreFrom slots i from
are_from slice slots i from is below above = subst (λ xs. AreFrom xs i from) is (record { below = below; above = above })

pub first_there : (slice slots : List (Slot Tail)) (i from : ℕ) (s : Slot Tail) → slice ≡ slots → AreFrom slots i from
    → true ≡ nat_lt i (length slice) → s ≡ get_or slice i s → Some s.id ≡ first_from slots from
first_there slice slots i from s same at there is =
    let low : i < length slots = ltb-true i (length slots) (sym (there ∙ ap (λ (xs : List (Slot Tail)). nat_lt i (length xs)) same)) in
    let here : s ≡ get_or slots i s = is ∙ ap (λ (xs : List (Slot Tail)). get_or xs i s) same in
    sym (
    found_from slots i from (λ k less within. at.below k less) at.above
    ∙ ap (λ (o : Option (Slot Tail)). option_map (λ (u : Slot Tail). u.id) o) (slice_get-get_or slots i s low)
    ∙ ap (λ (u : Slot Tail). Some u.id) (sym here)
    )

pub first_gone : (slice slots : List (Slot Tail)) (i from : ℕ) → slice ≡ slots → AreFrom slots i from → false ≡ nat_lt i (length slice)
    → None ≡ first_from slots from
first_gone slice slots i from same at gone =
    let past : length slots ≤ i = ltb-false i (length slots) (sym (gone ∙ ap (λ (xs : List (Slot Tail)). nat_lt i (length xs)) same)) in
    sym (found_from slots i from (λ k less within. at.below k less) at.above
    ∙ ap (λ (o : Option (Slot Tail)). option_map (λ (u : Slot Tail). u.id) o) (slice_get_past slots i past))

-- The tail at a place is marked

pub marked_at : (slots : List (Slot Tail)) (i id : ℕ) (s : Slot Tail) (mark : Mark) (p : Progress) → IsRising slots → i < length slots
    → get_or (slot_ids slots) i 0 ≡ id → s ≡ get_or slots i s → p ≡ with_mark mark s.value.progress
    → set slots i (record { id = s.id; value = record s.value { progress = p } }) ≡ marked_slots slots id mark (value_with_id slots id)
marked_at slots i id s mark p rising within same is done =
    let number : s.id ≡ id = ap (λ (u : Slot Tail). u.id) is ∙ (sym (from_place slots i s within) ∙ same) in
    ap (λ n. set slots i (slot n (record s.value { progress = p }))) number
    ∙ ap (λ (p : Progress). set slots i (slot id (record s.value { progress = p }))) done
    ∙ with_value-present slots i id (marked_tail mark s.value) rising within same
    ∙ ap (λ (o : Option Tail). marked_slots slots id mark o) (value-present slots i id s rising within same is)

pub marked_absent : (slots : List (Slot Tail)) (id : ℕ) (mark : Mark) → AreOther id slots
    → slots ≡ marked_slots slots id mark (value_with_id slots id)
marked_absent slots id mark other = ap (λ (o : Option Tail). marked_slots slots id mark o) (sym (value-absent slots id other))

pub marked_rises : (slots : List (Slot Tail)) (id : ℕ) (mark : Mark) (o : Option Tail) → IsRising slots
    → IsRising (marked_slots slots id mark o)
marked_rises slots id mark None rising = rising
marked_rises slots id mark (Some x) rising = IsRising-with_value slots id (marked_tail mark x) rising

-- Objects with registers by their ids

pub record IsIndexed (kind : Kind) (most id : ℕ) : Type 0 where
  pub low : index_of id < most
  pub same : object_id kind (index_of id) ≡ id

and_left : (a b : Bool) → true ≡ (a && b) → a ≡ true
and_left true b is = refl
and_left false b is = absurd cc

and_right : (a b : Bool) → true ≡ (a && b) → b ≡ true
and_right true b is = sym is
and_right false b is = absurd cc

or_other : (a b : Bool) → false ≡ a → IsTrue (a || b) → true ≡ b
or_other true b off either = absurd cc
or_other false true off either = refl
or_other false false off either = absurd cc

pub crtc_indexed : (id : ℕ) → true ≡ is_id_of Crtc id → IsIndexed Crtc 4 id
crtc_indexed id is =
    let low : 100 ≤ id = leb-true 100 id (and_left (nat_le 100 id) (nat_lt id 104) is) in
    let high : id < 104 = ltb-true id 104 (and_right (nat_le 100 id) (nat_lt id 104) is) in
    let index : index_of id ≡ id - 100 = ap (λ k. id - first_id k) (kind-crtc id (omega (arith, high))) in
    record { low = omega (arith, index, low, high); same = omega (arith, index, low) }

pub plane_indexed : (id : ℕ) → false ≡ is_id_of Crtc id → HasRegisters id → IsIndexed Plane 16 id
plane_indexed id off registers =
    let is : true ≡ (nat_le 200 id && nat_lt id 216) = or_other (is_id_of Crtc id) (is_id_of Plane id) off registers in
    let low : 200 ≤ id = leb-true 200 id (and_left (nat_le 200 id) (nat_lt id 216) is) in
    let high : id < 216 = ltb-true id 216 (and_right (nat_le 200 id) (nat_lt id 216) is) in
    let index : index_of id ≡ id - 200 = ap (λ k. id - first_id k) (kind-plane id low (omega (arith, high))) in
    record { low = omega (arith, index, low, high); same = omega (arith, index, low) }
