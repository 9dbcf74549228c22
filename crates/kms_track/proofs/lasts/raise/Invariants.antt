use Rattle.std.proofs.Common.{◌≡◌, ℕ, ◌<◌, ◌≤◌, get_or, length}
use Rattle.kms_track.specs.Places.{mask_has}
use Rattle.kms_track.specs.Tracking.{no_last, raised}
use Rattle.kms_track.proofs.lasts.raise.Given as goal

abbrev pub invariant-loop-place : goal.invariant-loop-place
invariant-loop-place l = record {
  size : length l.last ≡ 28;
  done : (p : ℕ) → p < l.place → get_or l.last p no_last ≡ raised (get_or l.initial.last p no_last) (mask_has l.touched p) l.commit;
  left : (p : ℕ) → l.place ≤ p → get_or l.last p no_last ≡ get_or l.initial.last p no_last;
}
