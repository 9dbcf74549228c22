use Rattle.std.proofs.Common.{◌≡◌, ◌<◌, ℕ, ◌+◌, ◌-◌, max, min, sym, ap, ◌∙◌, arith, rules}
use Rattle.std.proofs.lemmas.List.{length-take-le}
use Rattle.kms_model.specs.Frames.FrameBytes.{mixed}
use Rattle.kms_compose.specs.Parts.{colour_at}
use Rattle.kms_compose.proofs.Clipped.{run_there}
use Rattle.kms_compose.proofs.rows.put_part.Goals as goal

pub returns : goal.returns
returns c = λ x below.
    let start : ℕ = c.args.piece.left in
    let first : c.max-from.result ≡ max c.args.part.now.left start = search rules in
    let last : c.min-end.result ≡ min (c.args.part.now.left + c.args.part.now.width) (start + c.args.piece.count) = search rules in
    let some : c.max-from.result < c.min-end.result = omega (arith, c.if-from-end.false) in
    let room = length-take-le (c.min-end.result - c.max-from.result) c.args.shown.now
    (omega (arith, first, last, c.requires.few, c.requires.shown)) in
    let run = run_there c.args.part.now c.in-Some.row.now c.words_of-words.result.now start c.max-from.result c.min-end.result
    c.args.piece.count x first last some below
    (omega (arith, c.words_of-words.ensures.count, room)) (λ k within. c.words_of-words.ensures.words k (omega (arith, within, room))) in
    c.put_words.ensures x (omega (arith, below, c.requires.few))
    ∙ ap (mixed c.args.part.now.layer (colour_at c.args.pixels.now.red c.args.pixels.now.green c.args.pixels.now.blue x))
    (run ∙ sym (c.in-Some.ensures.colours (start + x)))
