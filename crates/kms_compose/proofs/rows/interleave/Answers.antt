use Rattle.std.proofs.Common.{◌≡◌, ◌≤◌, ℕ, ◌+◌, ◌*◌, List, [], ◌∷◌, ◌++◌, length, take, slice_set, ap, sym, ◌∙◌, append_assoc, arith}
use Rattle.std.proofs.lemmas.Grind.{take-set_at}
use Rattle.std.proofs.lemmas.List.{length-set}
use Rattle.kms_model.specs.Frames.FrameBytes.{channels}
use Rattle.kms_model.proofs.Spans.{flat_map-range_more}
use Rattle.kms_compose.specs.Parts.{colour_at}
use Rattle.kms_compose.proofs.rows.interleave.Goals as goal

-- three writes, one behind the other
take-three : (p : List ℕ) (i r g b n : ℕ) → i + 3 ≤ length p → n ≡ i + 3 →
    take n (slice_set (slice_set (slice_set p i r) (i + 1) g) (i + 2) b) ≡ take i p ++ (r ∷ g ∷ b ∷ [])
take-three p i r g b n room e =
    let one = take-set_at p i (i + 1) r (omega arith) (omega arith) in
    let two = take-set_at (slice_set p i r) (i + 1) (i + 2) g (omega arith) (omega (arith, length-set p i r)) in
    let three = take-set_at (slice_set (slice_set p i r) (i + 1) g) (i + 2) n b (omega arith)
    (omega (arith, length-set (slice_set p i r) (i + 1) g, length-set p i r)) in
    rw (three, two, one) (simp append_assoc)

pub loop-x-preserved : goal.loop-x-preserved
loop-x-preserved c =
    let f = λ (x : ℕ). channels (colour_at c.args.red.now c.args.green.now c.args.blue.now x) in
    let more = flat_map-range_more f 0 c.loop-x.x c.loop-x.x (omega arith) in
    take-three _ (3 * c.loop-x.x) _ _ _ _ (omega arith) (omega arith)
    ∙ ap (λ (xs : List ℕ). xs ++ f c.loop-x.x) c.loop-x.invariant ∙ sym more
