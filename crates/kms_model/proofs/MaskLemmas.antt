-- Sets of objects as masks: which bits they have, and how setting and clearing a bit changes them.
use Rattle.std.proofs.Common.{◌≡◌, ◌≢◌, ℕ, zero, suc, ◌+◌, ◌-◌, ◌*◌, ◌^◌, ◌%◌, ◌<◌, ◌≤◌, cond, Bool, true, false, inl, inr, arith, refl}
use Rattle.std.proofs.Common.{sym, ap, subst, ◌∙◌}
use Rattle.std.specs.Prelude.{not, ◌&&◌, nat_lt, bit_and, bit_or}
use Rattle.std.specs.Int.{w32, bit_at, bit_not}
use Rattle.std.proofs.Math.Numerals.{add-one}
use Rattle.std.proofs.lemmas.Bool.{eq-eqb, ne_eqb, lt-ltb, le-ltb, cases_lt, cases_eq}
use Rattle.std.proofs.lemmas.Nat.{pow_pos, pow-add, pow_below, one_shl, or_lt, and_le_l, or_comm, or_shifted}
use Rattle.std.proofs.lemmas.Nat.Bits.{and_pow, bit_at-lt, bit_at-zero, bit_at_above, bit_at_cat_low, bit_at_cat_high, bit_at_set_same}
use Rattle.std.proofs.lemmas.Nat.Bits.{bit_at_set_other, bit_at_clear_same, bit_at_clear_other, same_from_bits_below}
use Rattle.kms_model.specs.Device.Masks.{has_bit, mask_below}

-- a bit of a number: 1 where a test holds
abbrev pub bit : Bool → ℕ
bit b = cond b 1 0

-- what a mask has, by its bit
pub has_bit-from : (mask i : ℕ) (b : Bool) → bit_at mask i ≡ bit b → has_bit mask i ≡ b
has_bit-from mask i true is =
    let none : bit_and mask (2 ^ i) ≢ 0 = λ e. omega (arith, e, and_pow mask i, is, pow_pos i, ap (λ k. k * 2 ^ i) is) in
    ap not (ne_eqb (bit_and mask (2 ^ i)) 0 none)
has_bit-from mask i false is =
    let none : bit_and mask (2 ^ i) ≡ 0 = omega (arith, and_pow mask i, ap (λ k. k * 2 ^ i) is) in
    ap not (eq-eqb (bit_and mask (2 ^ i)) 0 none)

-- the bit of a mask, by what it has
pub bit_from : (mask i : ℕ) → bit_at mask i ≡ bit (has_bit mask i)
bit_from mask i =
    let small : bit_at mask i < 2 = bit_at-lt mask i in
    elim (cases_lt 0 (bit_at mask i)) [
      | inl more ↦ (let one : bit_at mask i ≡ 1 = omega arith in one ∙ sym (ap bit (has_bit-from mask i true one)))
      | inr less ↦ (let none : bit_at mask i ≡ 0 = omega arith in none ∙ sym (ap bit (has_bit-from mask i false none)))
    ]

pow-suc : (n : ℕ) → 2 ^ suc n ≡ 2 ^ n + 2 ^ n
pow-suc n = let e : suc n ≡ n + 1 = omega arith in ap (λ k. 2 ^ k) e ∙ omega (arith, pow-add 2 n 1)

fits_above : (b : Bool) (low n : ℕ) → low < 2 ^ n → low + cond b (2 ^ n) 0 < 2 ^ suc n
fits_above true low n less = omega (arith, pow-suc n)
fits_above false low n less = omega (arith, pow-suc n)

-- a set of n objects is below 2 ^ n
pub mask_below-lt : (test : ℕ → Bool) (n : ℕ) → mask_below test n < 2 ^ n
unfolding mask_below
mask_below-lt test zero = omega arith
mask_below-lt test (suc n) =
    fits_above (test n) (mask_below test n) n (mask_below-lt test n)

-- a number above a mask of n bits
stacked : (b : Bool) (low n : ℕ) → low + cond b (2 ^ n) 0 ≡ bit b * 2 ^ n + low
stacked true low n = omega arith
stacked false low n = omega arith

bit_at-bit : (b : Bool) (i : ℕ) → 0 < i → bit_at (bit b) i ≡ 0
bit_at-bit true i more = bit_at_above 1 1 i (omega arith) (omega arith)
bit_at-bit false i more = bit_at-zero i

bit_at-bit_same : (b : Bool) → bit_at (bit b) 0 ≡ bit b
bit_at-bit_same true = refl
bit_at-bit_same false = refl

-- the bit of an object in the set of those that pass a test
pub mask_below-bit : (test : ℕ → Bool) (n i : ℕ) → i < n → bit_at (mask_below test n) i ≡ bit (test i)
unfolding mask_below
mask_below-bit test zero i less = absurd (omega arith)
mask_below-bit test (suc n) i less =
    let e : bit_at (mask_below test n + cond (test n) (2 ^ n) 0) i
    ≡ bit_at (bit (test n) * 2 ^ n + mask_below test n) i = ap (λ m. bit_at m i) (stacked (test n) (mask_below test n) n) in
    elim (cases_lt i n) [
      | inl low ↦ e ∙ bit_at_cat_low (bit (test n)) n (mask_below test n) i low ∙ mask_below-bit test n i low
      | inr high ↦ (let same : i ≡ n = omega arith in let none : i - n ≡ 0 = omega arith in
          e ∙ bit_at_cat_high (bit (test n)) n (mask_below test n) i (mask_below-lt test n) high ∙ ap (bit_at (bit (test n))) none ∙
          bit_at-bit_same (test n) ∙ ap (λ k. bit (test k)) (sym same))
    ]

not_below : (test : ℕ → Bool) (i n : ℕ) → n ≤ i → (nat_lt i n && test i) ≡ false
not_below test i n high = ap (λ b. b && test i) (le-ltb i n high)

is_below : (test : ℕ → Bool) (i n : ℕ) → i < n → (nat_lt i n && test i) ≡ test i
is_below test i n low = ap (λ b. b && test i) (lt-ltb i n low)

-- the set of those of the first n objects that pass a test has an object below n that passes it
pub has_bit-mask_below : (test : ℕ → Bool) (n i : ℕ) → has_bit (mask_below test n) i ≡ (nat_lt i n && test i)
has_bit-mask_below test n i =
    elim (cases_lt i n) [
      | inl low ↦ has_bit-from (mask_below test n) i (test i) (mask_below-bit test n i low) ∙ sym (is_below test i n low)
      | inr high ↦ has_bit-from (mask_below test n) i false (bit_at_above (mask_below test n) n i (mask_below-lt test n) high) ∙ sym
          (not_below test i n high)
    ]

pub has_bit-below : (test : ℕ → Bool) (n i : ℕ) → i < n → has_bit (mask_below test n) i ≡ test i
has_bit-below test n i low = has_bit-from (mask_below test n) i (test i) (mask_below-bit test n i low)

-- equal tests give equal masks
pub same_masks : (f g : ℕ → Bool) (n : ℕ) → ((i : ℕ) → i < n → f i ≡ g i) → mask_below f n ≡ mask_below g n
unfolding mask_below
same_masks f g zero same = refl
same_masks f g (suc n) same =
    let low : mask_below f n ≡ mask_below g n = same_masks f g n (λ i h. same i (omega arith)) in
    let top : f n ≡ g n = same n (omega arith) in
    ap (λ m. m + cond (f n) (2 ^ n) 0) low ∙ ap (λ b. mask_below g n + cond b (2 ^ n) 0) top

-- equal masks come of equal tests
pub same_tests : (f g : ℕ → Bool) (n : ℕ) → mask_below f n ≡ mask_below g n → (i : ℕ) → i < n → f i ≡ g i
same_tests f g n same i low = sym (has_bit-below f n i low) ∙ ap (λ m. has_bit m i) same ∙ has_bit-below g n i low

-- a mask below 2 ^ n is the set of those that it has
pub mask_from : (mask : ℕ) (test : ℕ → Bool) (n : ℕ) → mask < 2 ^ n → ((i : ℕ) → i < n → has_bit mask i ≡ test i) → mask ≡ mask_below test n
mask_from mask test n less same =
    same_from_bits_below n mask (mask_below test n) less (mask_below-lt test n)
    (λ i low. bit_from mask i ∙ ap bit (same i low) ∙ sym (mask_below-bit test n i low))

-- `mask | 1 << i`: the mask of a test that holds at i and is as before elsewhere
pub mask_set : (before after : ℕ → Bool) (n i : ℕ) → i < n → n ≤ 32 → after i ≡ true → ((k : ℕ) → k < n → k ≢ i → after k ≡ before k)
    → bit_or (mask_below before n) (1 * 2 ^ i % 2 ^ 32) ≡ mask_below after n
mask_set before after n i low wide at other =
    let set : ℕ = bit_or (mask_below before n) (1 * 2 ^ i % 2 ^ 32) in
    let shifted : 1 * 2 ^ i % 2 ^ 32 ≡ 2 ^ i = one_shl i 32 (omega arith) in
    let fits : set < 2 ^ n = subst (λ m. bit_or (mask_below before n) m < 2 ^ n) (sym shifted)
    (or_lt n (mask_below before n) (2 ^ i) (mask_below-lt before n) (pow_below i n low)) in
    same_from_bits_below n set (mask_below after n) fits (mask_below-lt after n) (λ k h.
    elim (cases_eq k i) [
      | inl same ↦ ap (bit_at set) same ∙ bit_at_set_same w32 (mask_below before n) i (omega arith) ∙ sym (ap bit at) ∙ ap
          (λ j. bit (after j)) (sym same) ∙ sym (mask_below-bit after n k h)
      | inr apart ↦ bit_at_set_other w32 (mask_below before n) i (omega arith) k apart ∙ mask_below-bit before n k h ∙ ap bit
          (sym (other k h apart)) ∙ sym (mask_below-bit after n k h)
    ])

-- `mask & !(1 << i)`: the mask of a test that fails at i and is as before elsewhere
pub mask_cleared : (before after : ℕ → Bool) (n i : ℕ) → i < n → n ≤ 32 → after i ≡ false → ((k : ℕ) → k < n → k ≢ i → after k ≡ before k)
    → bit_and (mask_below before n) (bit_not w32 (1 * 2 ^ i % 2 ^ 32)) ≡ mask_below after n
mask_cleared before after n i low wide at other =
    let cleared : ℕ = bit_and (mask_below before n) (bit_not w32 (1 * 2 ^ i % 2 ^ 32)) in
    let fits : cleared < 2 ^ n = omega (arith, and_le_l (mask_below before n) (bit_not w32 (1 * 2 ^ i % 2 ^ 32)), mask_below-lt before n) in
    same_from_bits_below n cleared (mask_below after n) fits (mask_below-lt after n) (λ k h.
    elim (cases_eq k i) [
      | inl same ↦ ap (bit_at cleared) same ∙ bit_at_clear_same w32 (mask_below before n) i (omega arith) ∙ sym (ap bit at) ∙ ap
          (λ j. bit (after j)) (sym same) ∙ sym (mask_below-bit after n k h)
      | inr apart ↦ bit_at_clear_other w32 (mask_below before n) i (omega arith) k (omega arith) apart ∙ mask_below-bit before n k h ∙ ap
          bit (sym (other k h apart)) ∙ sym (mask_below-bit after n k h)
    ])

or_shifted_one : (low n : ℕ) → low < 2 ^ n → bit_or (2 ^ n) low ≡ low + 2 ^ n
or_shifted_one low n less =
    let one : 1 * 2 ^ n ≡ 2 ^ n = omega arith in
    ap (λ m. bit_or m low) (sym one) ∙ or_shifted 1 n low less ∙ omega arith

-- `mask | 1 << n`: the mask of one object more, which passes the test
pub mask_more : (test : ℕ → Bool) (n : ℕ) → n < 32 → test n ≡ true → bit_or (mask_below test n) (1 * 2 ^ n % 2 ^ 32)
    ≡ mask_below test (n + 1)
unfolding mask_below
mask_more test n wide at =
    rw (add-one n, one_shl n 32 wide, at) (or_comm (mask_below test n) (2 ^ n) ∙ or_shifted_one (mask_below test n) n
    (mask_below-lt test n))

-- the mask of one object more, which does not pass the test
pub mask_no_more : (test : ℕ → Bool) (n : ℕ) → test n ≡ false → mask_below test n ≡ mask_below test (n + 1)
unfolding mask_below
mask_no_more test n at = rw (add-one n, at) (omega arith)
