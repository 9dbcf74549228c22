use Rattle.std.proofs.Common.{◌≡◌, ◌++◌}
use Rattle.std.specs.Prelude.{map}
use Rattle.std.specs.List.{range_with_len}
use Rattle.kms_model.specs.Frames.FrameBytes.{word_in}
use Rattle.kms_buffers.proofs.patterns.push_row.Given as goal

abbrev pub invariant-loop-x : goal.invariant-loop-x
invariant-loop-x l = l.all.items ≡ l.initial.all.items ++ map (λ x. word_in l.pattern l.format l.width x l.y) (range_with_len 0 l.x)
