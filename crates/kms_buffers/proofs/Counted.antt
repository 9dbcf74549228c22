-- What is in a store of framebuffers has a reference.
use Rattle.std.proofs.Common.{◌≡◌, ◌≢◌, ℕ, ◌<◌, List, [], ◌∷◌, ◌++◌, Some, inl, inr, subst, arith}
use Rattle.std.specs.Prelude.{not, ◌==◌}
use Rattle.std.proofs.lemmas.Bool.Decides.{eqb_tells}
use Rattle.kms_model.specs.declared.things.Framebuffer.{Framebuffer}
use Rattle.kms_model.specs.declared.tables.Slot.{Slot}
use Rattle.kms_model.specs.Things.Tables.{put_in, value_with_id, with_value, without_id, IsRising, AreBelow}
use Rattle.kms_model.proofs.TableLemmas.{IsRising-with_value, IsRising-without_id, IsRising-push}
use Rattle.kms_model.proofs.Facts.{cond_holds}
use Rattle.kms_buffers.specs.Within.{AreStored}
use Rattle.kms_model.specs.Things.Kept.{AreCounted, with_fewer}

pub counted_at : (fbs : List (Slot Framebuffer)) (id : ℕ) (fb : Framebuffer) → AreCounted fbs → value_with_id fbs id ≡ Some fb → 0
    < fb.references
counted_at [] id fb counted at = absurd (cc at)
counted_at (s ∷ fbs) id fb counted at =
    elim (eqb_tells s.id id) [
      | inl same ↦ (let e : Some s.value ≡ Some fb = rw same.0 at at in let v : s.value ≡ fb = cc e
          in subst (λ (f : Framebuffer). 0 < f.references) v counted.0)
      | inr other ↦ (let e : value_with_id fbs id ≡ Some fb = rw other.0 at at in counted_at fbs id fb counted.1 e)
    ]

put_counted : (s : Slot Framebuffer) (id : ℕ) (fb : Framebuffer) → 0 < fb.references → 0 < s.value.references → 0
    < (put_in id fb s).value.references
put_counted s id fb new old = elim (eqb_tells s.id id) [ inl same ↦ rw same.0 new | inr other ↦ rw other.0 old ]

pub AreCounted-with_value : (fbs : List (Slot Framebuffer)) (id : ℕ) (fb : Framebuffer) → AreCounted fbs → 0 < fb.references
    → AreCounted (with_value fbs id fb)
AreCounted-with_value [] id fb counted new = tt
AreCounted-with_value (s ∷ fbs) id fb counted new = (put_counted s id fb new counted.0, AreCounted-with_value fbs id fb counted.1 new)

pub AreCounted-without_id : (fbs : List (Slot Framebuffer)) (id : ℕ) → AreCounted fbs → AreCounted (without_id fbs id)
AreCounted-without_id [] id counted = tt
AreCounted-without_id (s ∷ fbs) id counted =
    let rest : AreCounted (without_id fbs id) = AreCounted-without_id fbs id counted.1 in
    cond_holds (λ xs. AreCounted xs) (not (s.id == id)) (s ∷ without_id fbs id) (without_id fbs id) (counted.0, rest) rest

positive : (n : ℕ) → n ≢ 0 → 0 < n
positive n other = omega (arith, other)

pub AreCounted-with_fewer : (fbs : List (Slot Framebuffer)) (id : ℕ) (fb : Framebuffer) → AreCounted fbs → AreCounted (with_fewer fbs id fb)
AreCounted-with_fewer fbs id fb counted =
    elim (eqb_tells fb.references 0) [
      | inl none ↦ rw none.0 (AreCounted-without_id fbs id counted)
      | inr some ↦ (let left : 0 < fb.references = positive fb.references some.1
          in rw some.0 (AreCounted-with_value fbs id fb counted left))
    ]

IsRising-with_fewer : (fbs : List (Slot Framebuffer)) (id : ℕ) (fb : Framebuffer) → IsRising fbs → IsRising (with_fewer fbs id fb)
IsRising-with_fewer fbs id fb rising =
    elim (eqb_tells fb.references 0) [
      | inl none ↦ rw none.0 (IsRising-without_id fbs id rising)
      | inr some ↦ rw some.0
          (IsRising-with_value fbs id fb rising)
    ]

pub kept-with_fewer : (fbs : List (Slot Framebuffer)) (id : ℕ) (fb : Framebuffer) → AreStored fbs → AreStored (with_fewer fbs id fb)
kept-with_fewer fbs id fb kept = record {
  counted = AreCounted-with_fewer fbs id fb kept.counted;
  rising = IsRising-with_fewer fbs id fb
      kept.rising;
}

pub kept-with_value : (fbs : List (Slot Framebuffer)) (id : ℕ) (fb : Framebuffer) → AreStored fbs → 0 < fb.references
    → AreStored (with_value fbs id fb)
kept-with_value fbs id fb kept new = record {
  counted = AreCounted-with_value fbs id fb kept.counted new;
  rising = IsRising-with_value fbs
      id fb kept.rising;
}

AreCounted-push : (fbs : List (Slot Framebuffer)) (s : Slot Framebuffer) → AreCounted fbs → 0 < s.value.references
    → AreCounted (fbs ++ s ∷ [])
AreCounted-push [] s counted new = (new, tt)
AreCounted-push (t ∷ fbs) s counted new = (counted.0, AreCounted-push fbs s counted.1 new)

pub kept-push : (fbs : List (Slot Framebuffer)) (s : Slot Framebuffer) → AreStored fbs → AreBelow s.id fbs → 0 < s.value.references
    → AreStored (fbs ++ s ∷ [])
kept-push fbs s kept below new = record { counted = AreCounted-push fbs s kept.counted new; rising = IsRising-push fbs s kept.rising below }
