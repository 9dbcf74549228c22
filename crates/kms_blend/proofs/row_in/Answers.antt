use Rattle.std.proofs.Common.{◌≡◌, ℕ, ◌+◌, ◌*◌, List, slice_index, refl, ◌∙◌, ⊎_elim, arith}
use Rattle.std.proofs.lemmas.Bool.{cases_lt}
use Rattle.kms_blend.specs.Lanes.{AreBlended}
use Rattle.kms_blend.proofs.row_in.Invariants.{IsBlendedBefore}
use Rattle.kms_blend.proofs.row_in.Goals as goal

-- 16 places more
block_more : (blend : ℕ → ℕ → ℕ → ℕ) (q f old now new : List ℕ) (at end : ℕ) → end ≡ at + 16 → IsBlendedBefore blend q f old now at →
    AreBlended blend q f now new at → IsBlendedBefore blend q f old new end
block_more blend q f old now new at end is before block = record {
  done = λ k below. ⊎_elim
      (λ h. block.before k h ∙ before.done k h)
      (λ h. block.blended k h (omega (arith, below, is)) ∙ kept (slice_index now k) (slice_index old k)
      (blend (slice_index q k) (slice_index f k)) (before.left k h))
      (cases_lt k at);
  left = λ k above. block.behind k (omega (arith, above, is)) ∙ before.left k (omega (arith, above, is));
}
  where
    kept : (a b : ℕ) (g : ℕ → ℕ) → a ≡ b → g a ≡ g b
    kept a b g e = rw e refl

pub loop-step-preserved : goal.loop-step-preserved
loop-step-preserved g c =
    block_more _ _ _ _ _ _ (64 * c.loop-round.round + 16 * c.loop-step.step) _ (omega arith) c.loop-step.invariant c.blend_block.ensures

pub loop-block-preserved : goal.loop-block-preserved
loop-block-preserved g c =
    block_more _ _ _ _ _ _ (16 * c.loop-block.block) _ (omega arith) c.loop-block.invariant c.blend_block-in-loop-block.ensures
