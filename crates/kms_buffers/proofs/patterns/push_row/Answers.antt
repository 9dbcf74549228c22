use Rattle.std.proofs.Common.{◌≡◌, ◌++◌, ◌∷◌, [], ℕ, List, ap, sym, ◌∙◌, append_assoc, arith, rules}
use Rattle.std.specs.Prelude.{map}
use Rattle.std.specs.List.{range_with_len}
use Rattle.std.proofs.lemmas.List.FromFn.{map-range_with_len_more}
use Rattle.kms_model.specs.Frames.FrameBytes.{word_in}
use Rattle.kms_buffers.proofs.patterns.push_row.Goals as goal

pub loop-x-preserved : goal.loop-x-preserved
loop-x-preserved c =
    let f = λ (x : ℕ). word_in c.args.pattern.now c.args.format c.args.width x c.args.y in
    let more = map-range_with_len_more f 0 c.loop-x.x c.loop-x.x (omega arith) in
    let now : c.push.new.self.items ≡ c.loop-x.all.items ++ f c.loop-x.x ∷ [] = search rules in
    now ∙ ap (λ (xs : List ℕ). xs ++ f c.loop-x.x ∷ []) c.loop-x.invariant ∙ append_assoc c.args.all.now.items
    (map f (range_with_len 0 c.loop-x.x)) (f c.loop-x.x ∷ []) ∙ ap (λ (xs : List ℕ). c.args.all.now.items ++ xs) (sym more)
