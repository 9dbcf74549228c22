-- Groups of objects as masks, as loops make them.
use Rattle.std.proofs.Common.{◌≡◌, ◌≢◌, ◌∙◌, ℕ, ◌+◌, ◌-◌, ◌*◌, ◌^◌, ◌%◌, ◌<◌, ◌≤◌, Bool, false, List, length, get_or, take, refl, sym, ap}
use Rattle.std.proofs.Common.{subst, arith, add-one}
use Rattle.std.specs.Prelude.{◌||◌, ◌==◌, bit_or}
use Rattle.std.specs.List.{list_any}
use Rattle.std.proofs.lemmas.Bool.{ne_eqb}
use Rattle.std.proofs.lemmas.Bool.Decides.{nat_tests}
use Rattle.std.proofs.lemmas.List.Folds.{list_any_more}
use Rattle.std.proofs.lemmas.Nat.{pow_pos, pow_below, one_shl, or_lt}
use Rattle.kms_model.specs.Request.Late.{duplicate_in}
use Rattle.kms_model.specs.Device.Masks.{has_bit, mask_below}
use Rattle.kms_model.proofs.MaskLemmas.{has_bit-below, mask_below-lt, mask_from, same_masks}
use Rattle.kms_model.proofs.UnionLemmas.{has_bit-one, has_bit-zero, has_bit-or}
use Rattle.kms_model.specs.Request.Groups.{union}
use Rattle.kms_request.specs.Groups.{affected_below, affected_with}

-- the tests of two sets, of which one object passes one
pub or_masks : (f g : ℕ → Bool) (n : ℕ) → bit_or (mask_below f n) (mask_below g n) ≡ mask_below (λ i. f i || g i) n
or_masks f g n =
    mask_from (bit_or (mask_below f n) (mask_below g n)) (λ i. f i || g i) n
    (or_lt n (mask_below f n) (mask_below g n) (mask_below-lt f n) (mask_below-lt g n))
    (λ i within. has_bit-or (mask_below f n) (mask_below g n) i ∙ ap (λ b. b || has_bit (mask_below g n) i) (has_bit-below f n i within) ∙
    ap (λ b. f i || b) (has_bit-below g n i within))

shifted_test : (id first i : ℕ) → first ≤ id → (id - first == i) ≡ (id == first + i)
shifted_test id first i low = grind (arith, nat_tests)

-- the set of one object
pub only-there : (id first n : ℕ) → n ≤ 16 → first ≤ id → id - first < n → 1 * 2 ^ (id - first) % 2 ^ 32
    ≡ mask_below (λ i. id == first + i) n
only-there id first n few low within =
    let bit : 1 * 2 ^ (id - first) % 2 ^ 32 ≡ 2 ^ (id - first) = one_shl (id - first) 32 (omega arith) in
    mask_from (1 * 2 ^ (id - first) % 2 ^ 32) (λ i. id == first + i) n (subst (λ m. m < 2 ^ n) (sym bit) (pow_below (id - first) n within))
    (λ i h. has_bit-one (id - first) i (omega arith) ∙ shifted_test id first i low)

-- or of none of them
pub only-absent : (id first n : ℕ) → ((i : ℕ) → i < n → id ≢ first + i) → 0 ≡ mask_below (λ i. id == first + i) n
only-absent id first n apart = mask_from 0 (λ i. id == first + i) n (pow_pos n)
    (λ i h. has_bit-zero i ∙ sym (ne_eqb id (first + i) (apart i h)))

-- a set of those objects that pass a test with one of some items, and one item more
pub items-more : {A : Type 0} (test : ℕ → A → Bool) (all : List A) (k n : ℕ) (d : A) → k < length all
    → bit_or (mask_below (λ i. list_any (test i) (take k all)) n) (mask_below (λ i. test i (get_or all k d)) n)
    ≡ mask_below (λ i. list_any (test i) (take (k + 1) all)) n
items-more test all k n d within =
    or_masks (λ i. list_any (test i) (take k all)) (λ i. test i (get_or all k d)) n
    ∙ same_masks _ _ n (λ i h. sym (list_any_more (test i) all k d within))

-- one CRTC more
pub affected-more : (crtcs : _) (named n : ℕ) → union (affected_below crtcs named n) (affected_with (duplicate_in named crtcs n))
    ≡ affected_below crtcs named (n + 1)
unfolding affected_below
affected-more crtcs named n = rw (add-one n) refl

-- no object yet
pub none_yet : (n : ℕ) → 0 ≡ mask_below (λ i. false) n
none_yet n = mask_from 0 (λ i. false) n (pow_pos n) (λ i h. has_bit-zero i)
