-- The pixels before x stand at their places.
use Rattle.std.proofs.Common.{◌≡◌, ◌*◌, take}
use Rattle.std.specs.List.{flat_map, range_with_len}
use Rattle.kms_model.specs.Frames.FrameBytes.{channels}
use Rattle.kms_compose.specs.Parts.{colour_at}
use Rattle.kms_compose.proofs.rows.interleave.Given as goal

abbrev pub invariant-loop-x : goal.invariant-loop-x
invariant-loop-x l = take (3 * l.x) l.pixels ≡ flat_map (λ x. channels (colour_at l.red l.green l.blue x)) (range_with_len 0 l.x)
