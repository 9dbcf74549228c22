use Rattle.std.proofs.Common.{◌≡◌, length, take}
use Rattle.kms_kept_frames.proofs.kept.are_same_layers.Given as goal

abbrev pub invariant-loop-place : goal.invariant-loop-place
invariant-loop-place l = record {
  long : length l.one ≡ length l.other;
  same : take l.place l.one ≡ take l.place l.other;
}
