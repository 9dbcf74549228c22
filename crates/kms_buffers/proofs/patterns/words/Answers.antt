use Rattle.std.proofs.Common.{◌≡◌, ◌++◌, ℕ, List, ap, sym, ◌∙◌, arith, rules}
use Rattle.kms_model.specs.Things.Kept.{row_words}
use Rattle.kms_model.proofs.Spans.{flat_map-range_more}
use Rattle.kms_buffers.proofs.patterns.words.Goals as goal

pub loop-y-preserved : goal.loop-y-preserved
loop-y-preserved c =
    let f = row_words c.args.pattern.now c.args.format c.args.width in
    let more = flat_map-range_more f 0 c.loop-y.y c.loop-y.y (omega arith) in
    let now : c.push_row.new.all.items ≡ c.loop-y.all.items ++ f c.loop-y.y = search rules in
    now ∙ ap (λ (xs : List ℕ). xs ++ f c.loop-y.y) c.loop-y.invariant ∙ sym more
