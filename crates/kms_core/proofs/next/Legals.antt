-- Legal steps, and histories that are dead.
use Rattle.std.proofs.Common.{◌≡◌, Bool, refl, sym, ap, ◌∙◌}
use Rattle.std.specs.Prelude.{◌&&◌, ◌||◌, not}
use Rattle.std.specs.List.{flat_map, list_any}
use Rattle.std.proofs.lemmas.List.Folds.{list_any-append}
use Rattle.kms_model.specs.declared.replies.Step.{Step}
use Rattle.kms_model.specs.declared.replies.Step.TheVariants as step
use Rattle.kms_model.specs.Machine.Histories.{client_numbers, commit_numbers, is_dead, is_drained, is_enabled, legal, steps_of_client}
use Rattle.kms_model.specs.Machine.Histories.{steps_of_commit, steps_with_go}
use Rattle.kms_model.specs.Machine.Steps.{may}
use Rattle.kms_core.specs.Next.{moves}
use Rattle.kms_core.specs.Run.{Run, machine}
use Rattle.kms_core.specs.Stands.{Stores, Stands}

pub ended_told : {r : Run} {st : Stores} → Stands r st → st.stalled ≡ (machine r).stalled
ended_told stands = sym stands.stores.ended

module _ (v : Run) where
  pub enabled_told : (ended b : Bool) → ended ≡ (machine v).stalled → b ≡ moves v.script (machine v) → (not ended && b)
      ≡ is_enabled v.script (machine v)
  unfolding is_enabled
  enabled_told ended b is told =
      let able = may v.script (machine v) in
      let clients = flat_map (steps_of_client v.script.topology) (client_numbers v.script) in
      let commits = flat_map (steps_of_commit v.script.topology) (commit_numbers (machine v)) in
      let crtcs = steps_with_go v.script.topology (machine v) in
      ap (λ x. not x && b) is
      ∙ ap (λ x. not (machine v).stalled && x) (told ∙ ap (λ x. list_any able clients || x) (sym (list_any-append able commits crtcs)) ∙ sym
      (list_any-append able clients _))

  pub dead_told : {ended : Bool} (drained enabled : Bool) → ended ≡ (machine v).stalled → drained ≡ is_drained v.script (machine v) →
      enabled
      ≡ is_enabled v.script (machine v) → (ended || (not drained && not enabled)) ≡ is_dead v.script (machine v)
  unfolding is_dead
  dead_told drained enabled a b c = rw (a, b, c) refl

  pub stall_told : {x : Step} {ended : Bool} (dead : Bool) → x ≡ step.Stall → ended ≡ (machine v).stalled → dead ≡ is_dead v.script (machine
      v)
      → (not ended && dead) ≡ legal v.script (machine v) x
  unfolding legal
  stall_told dead is a b = rw is (rw (a, b) refl)

  legal_is : (x : Step) → (x ≡ step.Stall → ⊥) → (not (machine v).stalled && may v.script (machine v) x) ≡ legal v.script (machine v) x
  unfolding legal
  legal_is (step.Begin client) other = refl
  legal_is (step.Lock client kind index) other = refl
  legal_is (step.BackOff client) other = refl
  legal_is (step.Relock client) other = refl
  legal_is (step.Refuse client) other = refl
  legal_is (step.Test client) other = refl
  legal_is (step.Swap client) other = refl
  legal_is (step.Make client) other = refl
  legal_is (step.Signal client) other = refl
  legal_is (step.Claim k) other = refl
  legal_is (step.Write k kind index) other = refl
  legal_is (step.Flush k kind index) other = refl
  legal_is (step.HwDone k) other = refl
  legal_is (step.Vblank kind index) other = refl
  legal_is (step.Cleanup k) other = refl
  legal_is (step.Read client) other = refl
  legal_is (step.Return client) other = refl
  legal_is step.Stall other = absurd (other refl)

  pub legal_told : (x : Step) (ended b : Bool) → (x ≡ step.Stall → ⊥) → ended ≡ (machine v).stalled → b ≡ may v.script (machine v) x
      → (not ended && b) ≡ legal v.script (machine v) x
  legal_told x ended b other a told = rw (a, told) (legal_is x other)
