-- The values before a place went through the list, and those from it on did not.
use Rattle.std.proofs.Common.{◌≡◌, ◌<◌, ◌≤◌, ℕ, length, slice_index}
use Rattle.kms_compose.proofs.tables.take_through.Given as goal

abbrev pub invariant-loop-value : goal.invariant-loop-value
invariant-loop-value l = record {
  through : (k : ℕ) → k < l.value-index → slice_index l.channel k ≡ slice_index l.list (slice_index l.fn.channel k);
  kept : (k : ℕ) → l.value-index ≤ k → slice_index l.channel k ≡ slice_index l.fn.channel k;
  size : length l.channel ≡ length l.fn.channel;
}
