use Rattle.std.proofs.Common.{◌≡◌, length}
use Rattle.kms_kept_frames.proofs.strands.strands_of.Given as goal

abbrev pub invariant-loop-place : goal.invariant-loop-place
invariant-loop-place l = length l.strands.items ≡ l.place
