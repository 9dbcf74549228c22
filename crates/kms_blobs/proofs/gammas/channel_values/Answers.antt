use Rattle.std.proofs.Common.{◌≡◌, ◌∙◌, ℕ, ◌+◌, ◌*◌, ◌/◌, List, [], ◌∷◌, ◌++◌, map, sym, ap, ap₂, arith}
use Rattle.std.specs.List.{range_with_len}
use Rattle.std.proofs.lemmas.List.{take_all, take_more_set}
use Rattle.std.proofs.Math.ListN.{length-set}
use Rattle.std.proofs.lemmas.List.FromFn.{map-range_with_len_more}
use Rattle.kms_model.specs.Device.ModeBytes.{two_at}
use Rattle.kms_blobs.proofs.gammas.channel_values.Goals as goal

pub loop-value-preserved : goal.loop-value-preserved
loop-value-preserved c =
    let upper_at : ℕ → ℕ = λ value. two_at c.args.bytes.now (8 * value + 2 * c.args.channel) / 256 in
    let i : ℕ = c.loop-value.value in
    let one : c.upper.result ≡ upper_at i = c.upper.ensures ∙ ap (λ n. n / 256) c.half.ensures in
    record {
      size = length-set c.loop-value.values i c.upper.result ∙ c.loop-value.invariant.size;
      done = take_more_set c.loop-value.values i c.upper.result (omega (arith, c.loop-value.invariant.size, c.loop-value-test.true))
          ∙ (ap₂ (λ (xs : List ℕ) (x : ℕ). xs ++ x ∷ []) c.loop-value.invariant.done one ∙ sym
          (map-range_with_len_more upper_at 0 i i (omega arith)));
    }

pub returns : goal.returns
returns c =
    let upper_at : ℕ → ℕ = λ value. two_at c.args.bytes.now (8 * value + 2 * c.args.channel) / 256 in
    let i : ℕ = c.loop-value.value in
    let end : i ≡ 256 = omega (arith, c.loop-value-test.false, c.loop-value.auto.value-end) in
    sym (take_all i c.loop-value.values (omega (arith, c.loop-value.invariant.size, end)))
    ∙ (c.loop-value.invariant.done ∙ ap (λ n. map upper_at (range_with_len 0 n)) end)
