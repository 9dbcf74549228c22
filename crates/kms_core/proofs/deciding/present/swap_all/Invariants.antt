use Rattle.std.proofs.Common.{◌≡◌, ℕ, ◌<◌, ◌≤◌, None, get_or, length}
use Rattle.kms_core.specs.SwappedIn.{swapped_in}
use Rattle.kms_core.proofs.deciding.present.swap_all.Given as goal

abbrev pub invariant-loop-index : goal.invariant-loop-index
invariant-loop-index g l = record {
  size : length l.states ≡ length l.initial.states;
  done : (p : ℕ) → p < l.index → get_or l.states p None ≡ swapped_in (get_or l.initial.states p None) (get_or l.checked p None);
  left : (p : ℕ) → l.index ≤ p → get_or l.states p None ≡ get_or l.initial.states p None;
}
