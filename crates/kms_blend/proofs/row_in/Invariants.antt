-- The places before one are blended, and the others are as they were.
use Rattle.std.proofs.Common.{◌≡◌, ◌≤◌, ◌<◌, ◌+◌, ◌*◌, ℕ, List, slice_index}
use Rattle.kms_model.specs.Frames.FrameBytes.{blended}
use Rattle.kms_blend.proofs.row_in.Given as goal

pub record IsBlendedBefore (blend : ℕ → ℕ → ℕ → ℕ) (q f old now : List ℕ) (i : ℕ) : Type 0 where
  pub done : (k : ℕ) → k < i → slice_index now k ≡ blend (slice_index q k) (slice_index f k) (slice_index old k)
  pub left : (k : ℕ) → i ≤ k → slice_index now k ≡ slice_index old k

abbrev pub invariant-loop-round : goal.invariant-loop-round
invariant-loop-round g l = IsBlendedBefore (blended g.M.BlendMode.number l.a) l.q l.f l.fn.b l.b (64 * l.round)

abbrev pub invariant-loop-step : goal.invariant-loop-step
invariant-loop-step g l = IsBlendedBefore (blended g.M.BlendMode.number l.a) l.q l.f l.fn.b l.b (64 * l.round + 16 * l.step)

abbrev pub invariant-loop-block : goal.invariant-loop-block
invariant-loop-block g l = IsBlendedBefore (blended g.M.BlendMode.number l.a) l.q l.f l.fn.b l.b (16 * l.block)

abbrev pub invariant-loop-i : goal.invariant-loop-i
invariant-loop-i g l = IsBlendedBefore (blended g.M.BlendMode.number l.a) l.q l.f l.fn.b l.b l.i
