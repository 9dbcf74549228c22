use Rattle.std.proofs.Common.{◌≡◌}
use Rattle.std.specs.List.{flat_map, range_with_len}
use Rattle.kms_model.specs.Things.Kept.{row_words}
use Rattle.kms_buffers.proofs.patterns.words.Given as goal

abbrev pub invariant-loop-y : goal.invariant-loop-y
invariant-loop-y l = l.all.items ≡ flat_map (row_words l.pattern l.format l.width) (range_with_len 0 l.y)
