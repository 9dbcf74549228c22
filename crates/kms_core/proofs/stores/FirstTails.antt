-- The least commit at which something is found that no commit has which is cleaned.
use Rattle.std.proofs.Common.{◌≡◌, ℕ, ◌+◌, ◌<◌, true, List, length, Option, Some, None, inl, inr, sym, subst, arith}
use Rattle.std.proofs.lemmas.Bool.{cases_lt}
use Rattle.kms_model.specs.declared.objects.Topology.{Topology}
use Rattle.kms_model.specs.declared.runs.Latch.{Latch}
use Rattle.kms_model.specs.Firsts.{first_some}
use Rattle.kms_model.specs.Machine.Commits.{has_number}
use Rattle.kms_model.specs.Machine.Histories.{commit_numbers}
use Rattle.kms_model.specs.Machine.State.{Commit, Marks}
use Rattle.kms_track.specs.InStep.{IsTrackerOf}
use Rattle.kms_track.specs.MachineLaws.{FindsFirst}
use Rattle.kms_track.specs.Tracking.{Tracking}
use Rattle.kms_core.specs.Run.{Run, machine}
use Rattle.kms_core.specs.Stands.{Stores, Stands}
use Rattle.kms_core.proofs.stores.Ranges.{none_some, one_some}

-- What holds of commits that are cleaned and of those before a number holds of those up to the first that is found from there.
module _ (t : Topology) (commits : List Commit) (marks : Marks) (latches : List Latch) (v : Tracking)
    (stand : IsTrackerOf t commits marks latches v) (P : ℕ → Type 0) (over : (j : ℕ) → has_number marks.cleaned j ≡ true → P j) where
  pub before_first : (from k : ℕ) → FindsFirst v from (Some k) → ((j : ℕ) → j < from → P j) → (j : ℕ) → j < k → P j
  before_first from k first before j low =
      let found = first t commits marks latches stand in
      elim (cases_lt j from) [
        | inl below ↦ before j below
        | inr above ↦ over j (found.3 j above low)
      ]

  pub up_to_first : (from k : ℕ) → FindsFirst v from (Some k) → P k → ((j : ℕ) → j < from → P j) → (j : ℕ) → j < k + 1 → P j
  up_to_first from k first here before j low =
      elim (cases_lt j k) [
        | inl earlier ↦ before_first from k first before j earlier
        | inr behind ↦ (let e : k ≡ j = omega (arith, low, behind) in subst P e here)
      ]

  -- where none is found, it holds of all
  pub of_all : (from : ℕ) → FindsFirst v from None → ((j : ℕ) → j < from → P j) → (j : ℕ) → j < length commits → P j
  of_all from first before j within =
      elim (cases_lt j from) [
        | inl below ↦ before j below
        | inr above ↦ over j (first t commits marks latches stand j above within)
      ]

pub tail_within : {r : Run} {st : Stores} → Stands r st → (from k : ℕ) → FindsFirst st.tracker from (Some k)
    → k < length (machine r).device.commits
tail_within {r} stands from k first =
    (first r.script.topology (machine r).device.commits (machine r).device.marks (machine r).records.latches stands.stores.tracker).1

module _ (A : Type 0) {r : Run} {st : Stores} (stands : Stands r st) (f : ℕ → Option A)
    (over : (k : ℕ) → has_number (machine r).device.marks.cleaned k ≡ true → f k ≡ None) where
  pub nothing_further : (from k : ℕ) → FindsFirst st.tracker from (Some k) → None ≡ f k → ((j : ℕ) → j < from → f j ≡ None)
      → (j : ℕ) → j < k + 1 → f j ≡ None
  nothing_further from k first none before =
      up_to_first r.script.topology (machine r).device.commits (machine r).device.marks
      (machine r).records.latches st.tracker stands.stores.tracker (λ j. f j ≡ None) over from k first (sym none) before

  pub something_found : (from k : ℕ) (x : A) → FindsFirst st.tracker from (Some k) → Some x ≡ f k → ((j : ℕ) → j < from → f j ≡ None)
      → Some x ≡ first_some f (commit_numbers (machine r))
  something_found from k x first is before =
      let within = tail_within stands from k first in
      sym
      (one_some f 0 (length (machine r).device.commits) k (omega arith) (omega (arith, within)) (sym is)
      (λ j low high. before_first r.script.topology (machine r).device.commits (machine r).device.marks
      (machine r).records.latches st.tracker stands.stores.tracker (λ i. f i ≡ None) over from k first before j high))

  pub nothing_found : (from : ℕ) → FindsFirst st.tracker from None → ((j : ℕ) → j < from → f j ≡ None)
      → None ≡ first_some f (commit_numbers (machine r))
  nothing_found from first before =
      sym
      (none_some f 0 (length (machine r).device.commits)
      (λ j low high. of_all r.script.topology (machine r).device.commits (machine r).device.marks
      (machine r).records.latches st.tracker stands.stores.tracker (λ i. f i ≡ None) over from first before j (omega (arith, high))))
