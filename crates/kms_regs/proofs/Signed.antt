-- Signed arguments, as callees' clauses have them.
use Rattle.std.proofs.Common.{◌≡◌, ℕ, ℤ, pos, negsuc, ◌≤ℤ◌, arith, rules, ap, ◌∙◌, w64, SFits, to_z, of_z}
use Rattle.std.proofs.lemmas.Int.{ints, to_z-of_z}

-- a callee's clause at a number that a property can have
pub passed : (f : ℤ → ℕ) (z : ℤ) {r : ℕ} → negsuc 2147483647 ≤ℤ z → z ≤ℤ pos 4294967295 → r ≡ f (to_z w64 (of_z w64 z)) → r ≡ f z
passed f z low high is = let fits : SFits w64 z = search (rules, arith, ints, low, high) in is ∙ ap f (to_z-of_z w64 z fits)
