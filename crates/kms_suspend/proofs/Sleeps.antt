-- A history that goes on behind one that is drained, with both requests: it is drained, and both are done. `Known` is what laws of
-- histories say of the first one.
use Rattle.std.proofs.Common.{◌≡◌, ℕ, zero, suc, ◌+◌, ◌<◌, ◌≤◌, true, false, List, [], ◌∷◌, length, Some, None, inl, inr, refl, sym, ap}
use Rattle.std.proofs.Common.{◌∙◌, subst, arith}
use Rattle.std.specs.Prelude.{find}
use Rattle.std.specs.List.{All}
use Rattle.std.proofs.lemmas.Bool.{cases_lt, false≢true}
use Rattle.std.proofs.lemmas.Bool.Decides.{eqb_tells}
use Rattle.kms_model.specs.declared.replies.Step.{Step}
use Rattle.kms_model.specs.declared.scripts.Command.TheVariants as command
use Rattle.kms_model.specs.declared.scripts.Script.{Script}
use Rattle.kms_model.specs.declared.worlds.World.{World}
use Rattle.kms_model.specs.Device.Serial.{command_of}
use Rattle.kms_model.specs.Device.Sound.{IsLawful}
use Rattle.kms_model.specs.Device.World.{thing_labelled}
use Rattle.kms_model.specs.Frames.Shown.{AreFramed}
use Rattle.kms_model.specs.Machine.Commits.{is_cleaned, no_commit, waited_fences}
use Rattle.kms_model.specs.Machine.Histories.{at, is_awaited, is_dead, is_drained, is_history}
use Rattle.kms_model.specs.Machine.State.{Machine, command_at, doing_at, place_at}
use Rattle.kms_model.specs.Machine.Steps.{is_idle}
use Rattle.kms_model.specs.Order.Suspending.{off_request, on_request}
use Rattle.kms_model.specs.Promises.{DeadNamesAFence}
use Rattle.kms_model.specs.Request.Verdict.{verdict}
use Rattle.kms_model.specs.Script.Longer.{IsSlept, commands_of_last, extended_after, last_client, world_after}
use Rattle.kms_model.specs.Script.WellFormed.{IsWellFormed}
use Rattle.kms_model.proofs.Guards.{IsAtEnd, drained_guards}
use Rattle.kms_model.proofs.Items.{or_else-nones}
use Rattle.kms_laws.specs.Ends.{EndsOver}
use Rattle.kms_laws.specs.Longer.{StaysHistory}
use Rattle.kms_laws.specs.TailsLeft.{CleanedTailsAreOver, TailsGetShorter}
use Rattle.kms_laws.proofs.Fitting.{idle-busy}
use Rattle.kms_laws.proofs.Headlines.{range-in}
use Rattle.kms_laws.proofs.Sizes.{ended_at}
use Rattle.kms_suspend.proofs.Asleep.{IsPlain, asleep, off_accepted}
use Rattle.kms_suspend.proofs.Awake.{awake, early_on}
use Rattle.kms_suspend.proofs.AwakeLate.{late-awake}
use Rattle.kms_suspend.proofs.BothRequests.{further_at, none_at, quiet_at, request_at, shown_at, there_at, world_at}
use Rattle.kms_suspend.proofs.Going.{each_new, goes_further}
use Rattle.kms_suspend.proofs.LastClient.{clients_more, other_command}
use Rattle.kms_suspend.proofs.Plain.{no_waited, on-shown, waited_by}
use Rattle.kms_suspend.proofs.Stages.{Given, Goes, Stage, commits_of}

on_plain : (s : Script) (w : World) → IsPlain (on_request s.topology w)
unfolding on_request
on_plain s w = record { event = refl; modeset = refl; shown = on-shown s.topology w }

-- what holds of a history of one thread that is drained
pub record Known (s : Script) (h : List Step) : Type 0 where
  -- `one_is_over`, and no drained history was ended (`Apart` of kms_one_thread)
  pub history : is_history s h ≡ true
  pub going : (at s h).stalled ≡ false
  -- `history_kept`: its world is lawful, framebuffers have their ids, commits are counted
  pub lawful : IsLawful s.topology (world_after s h)
  pub framed : AreFramed (world_after s h).things
  pub count : (world_after s h).commits ≡ length (at s h).device.commits
  -- `things_have_their_labels`
  pub labelled : All (λ thing. thing_labelled (world_after s h).things thing.label ≡ Some thing) (world_after s h).things
  -- drained; and `PlacesStand` (`low`, `bound`) of `Sizes` for who is no client, and for the number of the last client's command
  pub cleaned : (j : ℕ) → j < length (at s h).device.commits → is_cleaned (at s h).device j ≡ true
  pub ended : (d : ℕ) → command_at s (at s h) d ≡ None
  pub idle : (d : ℕ) → is_idle (doing_at (at s h) d) ≡ true
  pub stands : ended_at (place_at (at s h) (last_client s)) ≡ length (commands_of_last s.clients) + 1 + 0

module _ (s : Script) (h slept : List Step) (formed : IsWellFormed s) (is : IsSlept s h slept) (known : Known s h)
    (longer_formed : IsWellFormed (extended_after s h)) (stay : StaysHistory s (extended_after s h) h)
    (ends : EndsOver (extended_after s h) h slept)
    (shorter : TailsGetShorter) (over : CleanedTailsAreOver) (dies : DeadNamesAFence) where
  abbrev longer : Script
  longer = extended_after s h

  abbrev w : World
  w = world_after s h

  abbrev m0 : Machine
  m0 = at s h

  abbrev n : ℕ
  n = length (commands_of_last s.clients)

  abbrev k : ℕ
  k = length m0.device.commits

  pub accepted : (i : ℕ) → i < 2 → verdict s.topology (world_at s.topology w i) (request_at s.topology w i) ≡ None
  unfolding verdict
  accepted zero low = off_accepted s.topology w formed.device known.lawful
  accepted (suc zero) low =
      or_else-nones _ _ (early_on s.topology w formed.device known.lawful known.framed known.labelled is.none_closed)
      (late-awake s.topology w known.lawful.sound _ _ (asleep s.topology w formed.device known.lawful)
      (awake s.topology w formed.device known.lawful known.framed known.labelled is.none_closed) (on_request s.topology w) (on_plain s w))
  accepted (suc (suc i)) low = absurd (omega (arith, low))

  given : Given longer (last_client s) n k (request_at s.topology w) (world_at s.topology w) m0
  given = record {
    there = there_at s w;
    no_more = none_at s w;
    quiet = λ i low. quiet_at s.topology w i;
    accepted = accepted;
    further = further_at s.topology w (last_client s);
    ended = λ d apart. other_command s _ d (place_at m0 d).command apart ∙ known.ended d;
    idle = λ d apart. known.idle d;
  }

  abbrev Going : Machine → Type 0
  Going m = Goes longer (last_client s) n k (request_at s.topology w) (world_at s.topology w) m0 m

  first : Going m0
  first = record {
    done = 0;
    few = omega arith;
    stage = record {
      world = refl;
      commits = refl;
      journal = refl;
      replies = refl;
      events = refl;
      cleaned = known.cleaned;
      others = λ d apart. refl;
      stands = known.stands;
    };
  }

  -- the longer history is at a stage
  pub stage_at_end : Going (at longer slept)
  stage_at_end =
      let more = ends.more in
      subst (λ hs. Going (at longer hs)) (sym ends.goes_on)
      (goes_further longer (last_client s) n (request_at s.topology w) (world_at s.topology w) m0 longer_formed given shorter over h more
      (subst (λ hs. is_history longer hs ≡ true) ends.goes_on ends.is_history) (subst Going (sym stay.machine) first))

  -- neither of the new commits waits for a fence
  none_waited : (i : ℕ) → i ≤ 2 → (j : ℕ) → k ≤ j
      → waited_fences s.topology (commits_of longer (last_client s) n k (request_at s.topology w) (world_at s.topology w) m0 i) j ≡ []
  unfolding waited_fences
  none_waited i few j new =
      each_new longer (last_client s) n (request_at s.topology w) (world_at s.topology w) m0 longer_formed given shorter over
      (λ x. waited_by s.topology x ≡ []) (no_waited s.topology (no_commit s.topology) refl) (λ i low. no_waited s.topology
      (record { client = last_client s; command = n + 1 + i; request = request_at s.topology w i; world = world_at s.topology w i })
      (shown_at s.topology w i)) i few j new

  -- no commit that is not cleaned waits for a fence
  not_dead : is_dead longer (at longer slept) ≡ true → ⊥
  not_dead dead =
      let waits = (dies longer slept longer_formed ends.is_history dead).2 in
      elim (cases_lt waits.commit k) [
        | inl old ↦ false≢true (sym waits.not_cleaned ∙ stage_at_end.stage.cleaned waits.commit old)
        | inr new ↦ (
            let cs = stage_at_end.stage.commits in
            let none = ap (λ x. waited_fences s.topology x waits.commit) cs
            ∙ none_waited stage_at_end.done stage_at_end.few waits.commit new in
            let nobody : None ≡ Some waits.fence = sym (ap (find (is_awaited (at longer slept))) none) ∙ waits.awaited in
            absurd cc)
      ]

  pub drained : is_drained longer (at longer slept) ≡ true
  drained = elim ends.is_over [ inl is ↦ is | inr dead ↦ absurd (not_dead dead) ]

  is_last : is_drained longer (at longer slept) ≡ true → IsAtEnd longer (at longer slept) (last_client s)
  is_last is =
      let count = clients_more (command.Atomic (off_request s.topology w) ∷ command.Atomic (on_request s.topology w) ∷ []) s.clients in
      (drained_guards longer (at longer slept) is).at_end (last_client s)
      (range-in 1 (length longer.clients) (last_client s) (omega arith) (omega (arith, count)))

  -- the last client is at its end, so both are done
  pub all_done : stage_at_end.done ≡ 2
  all_done = elim (eqb_tells stage_at_end.done 2) [
    | inl both ↦ both.1
    | inr some ↦ absurd (one_left (let few = stage_at_end.few in grind (arith, few, some.1)))
  ] where
    one_left : stage_at_end.done < 2 → ⊥
    one_left low =
        let end = is_last drained in
        let idle = (idle-busy (doing_at (at longer slept) (last_client s)) end.idle).1 in
        let stands = stage_at_end.stage.stands in
        let number : (place_at (at longer slept) (last_client s)).command ≡ n + 1 + stage_at_end.done = omega (arith, idle, stands) in
        let there = ap (λ i. command_of longer (record { client = last_client s; command = i })) number
        ∙ there_at s w stage_at_end.done low in
        let one = sym end.ended ∙ there in absurd cc

  pub both_done : Stage longer (last_client s) n k (request_at s.topology w) (world_at s.topology w) m0 2 (at longer slept)
  both_done = subst (λ i. Stage longer (last_client s) n k (request_at s.topology w) (world_at s.topology w) m0 i (at longer slept))
      all_done stage_at_end.stage
