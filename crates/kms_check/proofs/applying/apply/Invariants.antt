use Rattle.std.proofs.Common.{◌≡◌, ℕ}
use Rattle.kms_state.specs.Places.{old_states}
use Rattle.kms_check.specs.Applying.{HasPlanesInRange}
use Rattle.kms_check.proofs.ApplyingLemmas.{SetsFirst}
use Rattle.kms_check.proofs.applying.apply.Given as goal

abbrev pub invariant-loop-one : goal.invariant-loop-one
invariant-loop-one l = record {
  new : SetsFirst l.initial.states l.sets l.one-index l.states;
  old : old_states l.states
      ≡ old_states l.initial.states;
  in_range : (n : ℕ) → HasPlanesInRange n l.initial.states → HasPlanesInRange n l.states;
}
