-- Numbers that are read digit by digit.
use Rattle.std.proofs.Common.{◌≡◌, ℕ, zero, suc, ◌+◌, ◌-◌, ◌*◌, ◌^◌, ◌≤◌, ◌<◌, Bool, true, false, List, [], ◌∷◌, Some, None, cond, get_or}
use Rattle.std.proofs.Common.{length, refl, arith}
use Rattle.std.proofs.lemmas.Bool.{lt-leb}
use Rattle.std.proofs.Math.Nat.{mul-le-mul_right, pow-le-pow_right, pow-suc}
use Rattle.std.specs.Prelude.{nat_le, ◌&&◌}
use Rattle.kms_model.specs.Script.Words.{number_from, is_dec, dec}

pub number_from-grows : (acc : ℕ) (ds : List ℕ) → acc ≤ number_from acc ds
number_from-grows acc [] = omega arith
number_from-grows acc (d ∷ ds) = omega (arith, number_from-grows (acc * 10 + (d - 48)) ds)

too_large : (a : Bool) (n most : ℕ) → most < n → cond (a && nat_le n most) (Some n) None ≡ None
too_large true n most lt = rw (lt-leb n most lt) refl
too_large false n most lt = refl

-- a number that is too large with the next digit is too large at the end
pub dec-too_large : (most acc : ℕ) (rest word : List ℕ) → 1 ≤ length rest → most < acc * 10 + (get_or rest 0 0 - 48)
    → number_from acc rest ≡ number_from 0 word → dec most word ≡ None
unfolding dec
dec-too_large most acc [] word long lt e = absurd (omega arith)
dec-too_large most acc (d ∷ ds) word long lt e =
    too_large (is_dec word) (number_from 0 word) most (omega (arith, e, number_from-grows (acc * 10 + (d - 48)) ds))

digit_fits : (n d p bound : ℕ) → (n + 1) * (p * 16) ≤ bound → d < 16 → (n * 16 + d + 1) * p ≤ bound
digit_fits n d p bound le lt = let more : (d + 1) * p ≤ 16 * p = mul-le-mul_right p (omega arith) in omega arith

below_bound : (m p bound : ℕ) → 0 < p → m * p ≤ bound → m ≤ bound
below_bound m p bound pos le = let one : m * 1 ≤ m * p = grind arith in omega arith

sixteen_pos : (k : ℕ) → 0 < 16 ^ k
sixteen_pos zero = omega arith
sixteen_pos (suc k) = rw pow-suc (omega (arith, sixteen_pos k))

-- one hexadecimal digit more fits where there is room for the rest
pub hex_fits : (n d bound : ℕ) (rest : List ℕ) → 1 ≤ length rest → d < 16 → (n + 1) * 16 ^ length rest ≤ bound
    → ((n * 16 + d + 1) * 16 ^ (length rest - 1) ≤ bound) × (n * 16 + d < bound)
hex_fits n d bound [] long lt le = absurd (omega arith)
hex_fits n d bound (b ∷ bs) long lt le =
    let k = length bs in
    let less : length (b ∷ bs) - 1 ≡ k = omega arith in
    let le' : (n + 1) * (16 ^ k * 16) ≤ bound = rw pow-suc at le in
    let fits : (n * 16 + d + 1) * 16 ^ k ≤ bound = digit_fits n d (16 ^ k) bound le' lt in
    let low : n * 16 + d + 1 ≤ bound = below_bound (n * 16 + d + 1) (16 ^ k) bound (sixteen_pos k) fits in
    (rw less fits, omega arith)

pub hex_small : (n d bound : ℕ) (rest after : List ℕ) → 1 ≤ length rest → length after ≡ length rest - 1 → d < 16
    → (n + 1) * 16 ^ length rest ≤ bound → (n * 16 + d + 1) * 16 ^ length after ≤ bound
hex_small n d bound rest after long e lt le = rw e ((hex_fits n d bound rest long lt le).0)

-- eight hexadecimal digits fit 32 bits
pub eight_fit : (n : ℕ) → n ≤ 8 → 1 * 16 ^ n ≤ 2 ^ 32
eight_fit n le = let most : 16 ^ n ≤ 16 ^ 8 = pow-le-pow_right (omega arith) le in omega (arith, most)
