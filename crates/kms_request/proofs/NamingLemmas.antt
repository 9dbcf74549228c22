-- Sets of CRTCs, in place.
use Rattle.std.proofs.Common.{◌≡◌, ◌∙◌, ℕ, ◌+◌, ◌<◌, ◌≤◌, List, length, take, get_or, Bool, sym, ap}
use Rattle.std.specs.Prelude.{◌||◌, ◌==◌, bit_or}
use Rattle.std.specs.List.{list_any}
use Rattle.std.proofs.lemmas.List.{take_all}
use Rattle.std.proofs.lemmas.List.Folds.{list_any_more}
use Rattle.std.proofs.lemmas.Nat.{or_lt}
use Rattle.kms_model.specs.Device.Masks.{has_bit}
use Rattle.kms_model.proofs.UnionLemmas.{has_bit-or}
use Rattle.kms_request.specs.Naming.{AreCrtcs}

pub both_crtcs : {f g : ℕ → Bool} {a b : ℕ} → AreCrtcs f a → AreCrtcs g b → AreCrtcs (λ crtc. f crtc || g crtc) (bit_or a b)
both_crtcs {f} {a} {b} first second = record {
  below = or_lt 4 a b first.below second.below;
  bits = λ index less. has_bit-or a b index ∙ ap (λ x. x || has_bit b index) (first.bits index less) ∙ ap (λ x. f (100 + index) || x)
      (second.bits index less);
}

-- the set of a CRTC that is known under another name
pub crtc_as : (id result : ℕ) {mask : ℕ} → result ≡ id → AreCrtcs (λ crtc. result == crtc) mask → AreCrtcs (λ crtc. id == crtc) mask
crtc_as id result same are = record { below = are.below; bits = λ index less. are.bits index less ∙ ap (λ i. i == (100 + index)) same }

-- the CRTCs that one item more names
pub more_crtcs : {A : Type 0} (names : A → ℕ → Bool) (items : List A) (i : ℕ) (x : A) {a b : ℕ} → i < length items
    → AreCrtcs (λ crtc. list_any (λ y. names y crtc) (take i items)) a → AreCrtcs (names (get_or items i x)) b
    → AreCrtcs (λ crtc. list_any (λ y. names y crtc) (take (i + 1) items)) (bit_or a b)
more_crtcs names items i x {a} {b} less before here =
    let both = both_crtcs before here in
    record { below = both.below; bits = λ index low. both.bits index low ∙ sym (list_any_more (λ y. names y (100 + index)) items i x less) }

pub all_crtcs : {A : Type 0} (names : A → ℕ → Bool) (items : List A) (i a : ℕ) → length items ≤ i
    → AreCrtcs (λ crtc. list_any (λ y. names y crtc) (take i items)) a → AreCrtcs (λ crtc. list_any (λ y. names y crtc) items) a
all_crtcs names items i a end are = record {
  below = are.below;
  bits = λ index low. are.bits index low ∙ ap
      (λ xs. list_any (λ y. names y (100 + index)) xs) (take_all i items end);
}
