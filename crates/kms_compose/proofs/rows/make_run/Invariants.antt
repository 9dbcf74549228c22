-- The pixels have the parts so far, so the rest over them are all parts over black.
use Rattle.std.proofs.Common.{◌≡◌, ◌<◌, ◌+◌, ℕ, drop}
use Rattle.kms_model.specs.Frames.FrameBytes.{black}
use Rattle.kms_compose.specs.Parts.{colour_at, parts_over}
use Rattle.kms_compose.proofs.rows.make_run.Given as goal

abbrev pub invariant-loop-part : goal.invariant-loop-part
invariant-loop-part l =
    (x : ℕ) → x < l.piece.count → parts_over (l.piece.left + x) l.piece.y (colour_at l.pixels.red l.pixels.green l.pixels.blue x)
    (drop l.part-index l.parts) ≡ parts_over (l.piece.left + x) l.piece.y black l.parts
