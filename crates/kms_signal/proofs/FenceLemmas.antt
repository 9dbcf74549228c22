-- What changes of fences mean.
use Rattle.std.proofs.Common.{◌≡◌, ℕ, List, [], ◌∷◌, ◌++◌, Some, None, Bool, true, false, inl, inr, refl, sym, ap, ◌∙◌}
use Rattle.std.specs.Prelude.{◌==◌, Option, Result, Ok, Err, OnOk, OnErr, is_some}
use Rattle.std.proofs.lemmas.Bool.Decides.{eqb_tells}
use Rattle.kms_model.specs.declared.tables.Slot.{Slot}
use Rattle.kms_model.specs.Firsts.{or_else}
use Rattle.kms_model.specs.Things.Tables.{slot, value_with_id, with_value}
use Rattle.kms_signal.specs.FenceSets.{FenceSet, is_made, is_signalled, or_not, StaySignalled, IsSignalled}
use Rattle.kms_signal.proofs.SlotLemmas.{value_other, value_same, value_pushed}

abbrev pub with_signal : FenceSet → ℕ → FenceSet
with_signal fences id = record fences { slots = with_value fences.slots id true }

signalled_is_there : (o : Option Bool) → or_not o ≡ true → is_some o ≡ true
signalled_is_there (Some b) holds = refl
signalled_is_there None holds = cc

true_there : (o other : Option Bool) → or_not o ≡ true → or_not (or_else o other) ≡ true
true_there (Some b) other holds = holds
true_there None other holds = cc

is_signalled_now : (fences : FenceSet) (id : ℕ) → is_made fences id ≡ true → is_signalled (with_signal fences id) id ≡ true
is_signalled_now fences id made = rw (value_same fences.slots id true made) refl

same_of_other : (fences : FenceSet) (id other : ℕ) → (id == other) ≡ false → is_signalled (with_signal fences id) other
    ≡ is_signalled fences other
same_of_other fences id other apart = ap or_not (value_other fences.slots id other true apart)

made_absent : (fences : FenceSet) (id : ℕ) → is_made fences id ≡ false → is_made (with_signal fences id) id ≡ false
made_absent fences id absent = is_absent fences.slots id absent where
  is_absent : (slots : List (Slot Bool)) (id : ℕ) → is_some (value_with_id slots id) ≡ false
      → is_some (value_with_id (with_value slots id true) id) ≡ false
  is_absent [] id absent = refl
  is_absent (s ∷ slots) id absent =
      elim (eqb_tells s.id id) [
        | inl same ↦ cc (rw same.0 at absent)
        | inr different ↦ rw (different.0, different.0) (is_absent slots id (rw different.0 at absent))
      ]

pub still_made : (fences : FenceSet) (id other : ℕ) → is_made (with_signal fences id) other ≡ is_made fences other
still_made fences id other =
    elim (eqb_tells id other) [
      | inl same ↦ rw (← same.1) (of_it (is_made fences id) refl)
      | inr different ↦ ap (λ (o : Option Bool). is_some o) (value_other fences.slots id other true different.0)
    ]
  where
    of_it : (b : Bool) → is_made fences id ≡ b → is_made (with_signal fences id) id ≡ is_made fences id
    of_it true is = ap (λ (o : Option Bool). is_some o) (value_same fences.slots id true is) ∙ sym is
    of_it false is = made_absent fences id is ∙ sym is

apart : (id other : ℕ) → (other ≡ id → ⊥) → (id == other) ≡ false
apart id other different = elim (eqb_tells id other) [ inl same ↦ absurd (different (sym same.1)) | inr unequal ↦ unequal.0 ]

pub signals : (fences : FenceSet) (id : ℕ) → IsSignalled fences (with_signal fences id) id
signals fences id = record {
  now = is_signalled_now fences id;
  others = λ other different. same_of_other fences id other (apart id other different);
  made = λ other. still_made fences id other;
}

pub signal_stays : (fences : FenceSet) (id : ℕ) → StaySignalled fences (with_signal fences id)
signal_stays fences id = λ other holds.
    elim (eqb_tells id other) [
      | inl same ↦ rw (← same.1) (is_signalled_now fences id
          (rw (← same.1) at (signalled_is_there (value_with_id fences.slots other) holds)))
      | inr different ↦ same_of_other fences id other different.0 ∙ holds
    ]

pub make_stays : (old new : FenceSet) (id : ℕ) → new.slots ≡ old.slots ++ slot id false ∷ [] → StaySignalled old new
make_stays old new id is = λ other holds. rw (is, value_pushed old.slots id other false)
    (true_there (value_with_id old.slots other) (value_with_id (slot id false ∷ []) other) holds)

-- the same over a call's answer
pub make_stays_either : {E : Type 0} (r : Result (Unit {0}) E) (old new : FenceSet) (id : ℕ)
    → OnOk r (new.slots ≡ old.slots ++ slot id false ∷ []) → OnErr r (new ≡ old) → StaySignalled old new
make_stays_either (Ok done) old new id ok err = make_stays old new id ok
make_stays_either (Err e) old new id ok err = λ other holds. rw err holds
