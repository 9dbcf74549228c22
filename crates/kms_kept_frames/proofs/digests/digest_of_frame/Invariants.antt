use Rattle.std.proofs.Common.{◌≡◌, length}
use Rattle.kms_kept_frames.proofs.FrontLemmas.{IsAt}
use Rattle.kms_kept_frames.proofs.digests.digest_of_frame.Given as goal

abbrev pub invariant-loop-place : goal.invariant-loop-place
invariant-loop-place l = record {
  at : IsAt l.fronts l.hasher l.rest l.frame;
  count : length l.fronts.states.items ≡ l._place;
}
