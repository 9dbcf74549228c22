-- The pixels before `at` were added.
use Rattle.std.proofs.Common.{◌≡◌, ◌-◌, map}
use Rattle.std.specs.List.{range_with_len}
use Rattle.kms_compose.specs.Sources.{source_place}
use Rattle.kms_compose.proofs.sources.places.Given as goal

abbrev pub invariant-loop-at : goal.invariant-loop-at
invariant-loop-at l = l.places.items ≡ map (source_place l.reach) (range_with_len l.start (l.at - l.start))
