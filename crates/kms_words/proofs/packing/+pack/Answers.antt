use Rattle.std.proofs.Common.{ℕ, ◌-◌, ◌<◌, ◌≤◌, ◌^◌, length, arith, rules}
use Rattle.std.proofs.Math.Nat.{pow-le-pow_right}
use Rattle.kms_words.proofs.packing.+pack.Goals as goal

bounded : (n rest : ℕ) → n ≤ 16 → rest < 256 ^ (n - 1) → rest < 256 ^ 15
bounded n rest few small =
    let last : n - 1 ≤ 15 = omega (arith, few) in
    let most : 256 ^ (n - 1) ≤ 256 ^ 15 = pow-le-pow_right (omega arith) last in
    omega (arith, small, most)

pub overflow_mul-result : goal.overflow_mul-result
overflow_mul-result t c =
    let small : c.pack.result < 256 ^ (length c.args.word.now - 1) = search rules in
    omega (arith, bounded (length c.args.word.now) c.pack.result c.requires small)

pub overflow_add-result : goal.overflow_add-result
overflow_add-result t c =
    let small : c.pack.result < 256 ^ (length c.args.word.now - 1) = search rules in
    let byte : c.from.result < 256 = search rules in
    omega (arith, bounded (length c.args.word.now) c.pack.result c.requires small, byte)
