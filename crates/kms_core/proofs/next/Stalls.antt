-- The end of a dead history, and the fence that it waits for.
use Rattle.std.proofs.Common.{◌≡◌, ℕ, ◌+◌, ◌<◌, true, [], ◌∷◌, Option, Some, None, refl, sym, ◌∙◌}
use Rattle.std.proofs.lemmas.Bool.{cond-true}
use Rattle.kms_model.specs.declared.replies.Step.TheVariants as step
use Rattle.kms_model.specs.Device.World.{thing_with_id}
use Rattle.kms_model.specs.Firsts.{first_some}
use Rattle.kms_model.specs.Machine.Commits.{has_number, is_claimed}
use Rattle.kms_model.specs.Machine.Effects.{next}
use Rattle.kms_model.specs.Machine.Histories.{awaited_by, awaited_label, commit_numbers, is_dead, label_of_thing, legal, stalled_on}
use Rattle.kms_track.specs.MachineLaws.{FindsFirst}
use Rattle.kms_core.specs.Run.{Run, gains, machine}
use Rattle.kms_core.specs.Stands.{Stores, Stands}
use Rattle.kms_core.proofs.stores.CommitStates.{facts}
use Rattle.kms_core.proofs.stores.Histories.{goes_on, told_anew}
use Rattle.kms_core.proofs.stores.FirstTails.{nothing_found, nothing_further, something_found}

-- the history is ended
pub stalls : {r w : Run} {st : Stores} → Stands r st → legal r.script (machine r) step.Stall ≡ true
    → w ≡ gains r (step.Stall ∷ []) → Stands w (record st { stalled = true })
unfolding next
stalls {r} {st = st} stands asked more =
    goes_on step.Stall refl refl refl stands more asked
    (told_anew (machine r).records.replies true st.replies st.latches st.freed true
    stands.stores.clients stands.stores.recorded refl stands.stores)

-- Commits

module _ {r : Run} {st : Stores} (stands : Stands r st) where
  abbrev awaited : ℕ → Option ℕ
  awaited k = awaited_by r.script.topology (machine r) k

  claimed_awaits : (k : ℕ) → is_claimed (machine r).device k ≡ true → awaited k ≡ None
  claimed_awaits k claimed = cond-true (is_claimed (machine r).device k) None _ claimed

  cleaned_awaits : (k : ℕ) → has_number (machine r).device.marks.cleaned k ≡ true → awaited k ≡ None
  cleaned_awaits k clean = (let marks = (facts stands).holds.tail.marks
      in claimed_awaits k (marks.done k (marks.clean_done k clean)).0)

  -- The least commit

  pub awaits_further : (from k : ℕ) → FindsFirst st.tracker from (Some k) → None ≡ awaited k → ((j : ℕ) → j < from → awaited j ≡ None)
      → (j : ℕ) → j < k + 1 → awaited j ≡ None
  awaits_further = nothing_further ℕ stands awaited cleaned_awaits

  pub awaits_found : (from k fence : ℕ) → FindsFirst st.tracker from (Some k) → Some fence ≡ awaited k
      → ((j : ℕ) → j < from → awaited j ≡ None) → Some fence ≡ first_some awaited (commit_numbers (machine r))
  awaits_found = something_found ℕ stands awaited cleaned_awaits

  pub awaits_none : (from : ℕ) → FindsFirst st.tracker from None → ((j : ℕ) → j < from → awaited j ≡ None)
      → None ≡ first_some awaited (commit_numbers (machine r))
  awaits_none = nothing_found ℕ stands awaited cleaned_awaits

module _ (v : Run) where
  pub told_label : {fence : ℕ} → is_dead v.script (machine v) ≡ true → Some fence
      ≡ first_some (awaited_by v.script.topology (machine v)) (commit_numbers (machine v))
      → label_of_thing (thing_with_id (machine v).device.world.things fence) ≡ stalled_on v.script (machine v)
  unfolding awaited_label
  told_label dead is = sym (cond-true (is_dead v.script (machine v)) (awaited_label v.script.topology (machine v)) None dead ∙
      (rw (sym is) refl))

  pub told_none : is_dead v.script (machine v) ≡ true → None
      ≡ first_some (awaited_by v.script.topology (machine v)) (commit_numbers (machine v)) → None ≡ stalled_on v.script (machine v)
  unfolding awaited_label
  told_none dead is = sym (cond-true (is_dead v.script (machine v)) (awaited_label v.script.topology (machine v)) None dead ∙
      (rw (sym is) refl))
