-- What came of an attempt whose turn made a call that decides the request.
use Rattle.std.proofs.Common.{◌≡◌, ℕ, List, [], ◌∷◌, length, Bool, true, false, is_some, Option, Some, None, refl, sym, ap, ◌∙◌, subst, All}
use Rattle.std.proofs.Common.{inl, inr}
use Rattle.std.specs.Prelude.{⊤, not, ◌&&◌, if◌then◌else◌}
use Rattle.std.proofs.lemmas.List.Elements.{All-cons, All-nil}
use Rattle.std.proofs.lemmas.Bool.{and_parts}
use Rattle.std.specs.Global.{Box}
use Rattle.kms_model.specs.declared.objects.ObjId.{ObjId}
use Rattle.kms_model.specs.declared.objects.Ticket.{Ticket}
use Rattle.kms_model.specs.declared.objects.Topology.{Topology}
use Rattle.kms_model.specs.declared.replies.Refusal.{Refusal}
use Rattle.kms_model.specs.declared.replies.Reply.{Reply}
use Rattle.kms_model.specs.declared.replies.Reply.TheVariants as reply
use Rattle.kms_model.specs.declared.replies.Step.{Step}
use Rattle.kms_model.specs.declared.replies.Step.TheVariants as step
use Rattle.kms_model.specs.declared.scripts.Request.{Request}
use Rattle.kms_model.specs.declared.scripts.Script.{Script}
use Rattle.kms_model.specs.declared.sets.Resolved.{Resolved}
use Rattle.kms_model.specs.declared.states.Checked.{Checked}
use Rattle.kms_model.specs.declared.worlds.Look.{Look}
use Rattle.kms_model.specs.Machine.Commits.{if_there, is_cleaned, is_hw_done, previous, second_previous}
use Rattle.kms_model.specs.Machine.Effects.{decided, next, swapped_state}
use Rattle.kms_model.specs.Machine.Histories.{legal}
use Rattle.kms_model.specs.Machine.State.{Machine, doing_at, place_at, request_at}
use Rattle.kms_model.specs.Machine.Steps.{is_taking, holds_touched, is_accepted_at, is_ready, is_refused_late, may, may_swap, taking_at}
use Rattle.kms_model.specs.Request.Flags.{is_test}
use Rattle.kms_model.specs.Request.Lookups.{look_up}
use Rattle.kms_model.specs.Request.Named.{named}
use Rattle.kms_model.proofs.Items.{first_some-none, list_all-at}
use Rattle.kms_track.specs.MachineLaws.{awaited_answer, awaited_commit}
use Rattle.kms_track.specs.Tracking.{unless, with_object}
use Rattle.kms_check.specs.declared.moving.Move.{Move}
use Rattle.kms_check.specs.declared.moving.Move.TheVariants as move
use Rattle.kms_check.specs.Moves.{AcceptedAs, IsMove, RefusedBy}
use Rattle.kms_core.specs.declared.stores.looking.Decided.{Decided}
use Rattle.kms_core.specs.declared.stores.looking.Decided.TheVariants as answer
use Rattle.kms_core.specs.Decisions.{Decides, IsDecided, steps_of, world}
use Rattle.kms_core.specs.Run.{Run, machine}
use Rattle.kms_core.specs.Swaps.{IsReadyToCommit, late_reply, refused_or, swap_answer, swap_answer_of, waits_or_commits}
use Rattle.kms_core.proofs.Lates.{late_refuses}
use Rattle.kms_core.proofs.Swapped.{ready_now}
use Rattle.kms_core.proofs.Verdicts.{refuses}
use Rattle.kms_device.specs.declared.attempt.Findings.{Findings}
use Rattle.kms_device.specs.declared.attempt.Attempted.{Attempted}
use Rattle.kms_device.specs.declared.attempt.Attempted.TheVariants as attempted
use Rattle.kms_device.specs.Attempts.{ComesNext, IsLastReply, WaitsAt, is_lock, no_findings, step_of_move}
use Rattle.kms_device.specs.Asking.{MayBeRefused, MayBeSwapped}
use Rattle.kms_device.specs.Steps.{owner}
use Rattle.kms_device.specs.Trying.{Concludes, DidAndKeeps, DidNothing, IsTold, LooksAnew, LooksInVain}
use Rattle.kms_device.specs.Turns.{DevicePass, DeviceTurn, run_seen}
use Rattle.kms_device.proofs.Deciding as at_turn
use Rattle.kms_device.proofs.Deciding.{may_refuse, request-found, the_taker}
use Rattle.kms_device.proofs.DecidedTries.{answered_by, in_vain, looked_again, recorded, swap_recorded}
use Rattle.kms_device.proofs.Moved.{may_refuse_by, may_swap_by}
use Rattle.kms_device.proofs.TakingTries.{TakesFor, comes_found, waits_found}
use Rattle.kms_device.proofs.TurnsTried.{waits_for}

-- What a swap's answer tells

-- it commits: nothing hinders it
pub record Commits (late : Option Reply) (awaited : Option (ObjId × ℕ)) (k : ℕ) (r : Reply) : Type 0 where
  pub none_late : late ≡ None
  pub is_number : r ≡ reply.Commit k

done_of : (late : Option Reply) (awaited : Option (ObjId × ℕ)) (k : ℕ) (r : Reply) → answer.Done r
    ≡ refused_or late (waits_or_commits awaited k) → Commits late awaited k r
done_of None None k r e = record { none_late = refl; is_number = cc }
done_of None (Some p) k r e = absurd cc
done_of (Some given) awaited k r e = absurd cc

refused_of : (late : Option Reply) (awaited : Option (ObjId × ℕ)) (k : ℕ) (r : Reply) → answer.Refused r
    ≡ refused_or late (waits_or_commits awaited k) → late ≡ Some r
refused_of None None k r e = absurd cc
refused_of None (Some p) k r e = absurd cc
refused_of (Some given) awaited k r e = cc

-- it waits for a commit
pub record Awaits (late : Option Reply) (awaited : Option (ObjId × ℕ)) : Type 0 where
  pub none_late : late ≡ None
  pub pair : ObjId × ℕ
  pub is_awaited : awaited ≡ Some pair

not_yet_of : (late : Option Reply) (awaited : Option (ObjId × ℕ)) (k : ℕ) (object : ObjId) (commit : ℕ) → answer.NotYet object commit
    ≡ refused_or late (waits_or_commits awaited k) → Awaits late awaited
not_yet_of None None k object commit e = absurd cc
not_yet_of None (Some p) k object commit e = record { none_late = refl; pair = p; is_awaited = refl }
not_yet_of (Some given) awaited k object commit e = absurd cc

-- where a commit is awaited, the swap is not ready

none_unmarked : (marked : ℕ → Bool) (o : Option ℕ) → if_there marked o ≡ true → unless marked o ≡ None
none_unmarked marked None is = refl
none_unmarked marked (Some k) is = rw is refl

not_ready : (t : Topology) (m : Machine) (r : Request) (pair : ObjId × ℕ) → awaited_answer t m r ≡ Some pair → is_ready t m r ≡ false
unfolding is_ready
not_ready t m r pair awaited = by (is_ready t m r) refl
  where
    none_at : (crtc : ℕ) → (if_there (is_hw_done m.device) (previous t m.device.commits (length m.device.commits) crtc)
        && if_there (is_cleaned m.device) (second_previous t m.device.commits (length m.device.commits) crtc)) ≡ true
        → with_object crtc (awaited_commit t m crtc) ≡ None
    none_at crtc both =
        let parts = and_parts (if_there (is_hw_done m.device) (previous t m.device.commits (length m.device.commits) crtc)) _ both in
        rw (
          none_unmarked (is_hw_done m.device) (previous t m.device.commits (length m.device.commits) crtc) parts.0,
          none_unmarked (is_cleaned m.device) (second_previous t m.device.commits (length m.device.commits) crtc) parts.1,
        ) refl

    by : (b : Bool) → is_ready t m r ≡ b → b ≡ false
    by false is = refl
    by true is =
        (let none : awaited_answer t m r ≡ None = first_some-none (λ crtc. with_object crtc (awaited_commit t m crtc))
        (named t m.device.world r) (λ crtc is_in. none_at crtc (list_all-at _ (named t m.device.world r) crtc is is_in)) in
        let both : None ≡ Some pair = sym none ∙ awaited in absurd cc)

and_no : (a b : Bool) → b ≡ false → (a && b) ≡ false
and_no true b e = e
and_no false b e = refl

taking_no : (s : Script) (m : Machine) (client : ℕ) (test : Request → Bool) (r : Request) → request_at s m client ≡ Some r → test r ≡ false
    → taking_at s m client test ≡ false
taking_no s m client test r stands fails = and_no (is_taking (doing_at m client)) _ (rw stands fails)

-- a swap that is not ready is not legal
no_swap : (s : Script) (m : Machine) (client : ℕ) (r : Request) → request_at s m client ≡ Some r → is_ready s.topology m r ≡ false
    → legal s m (step.Swap client) ≡ false
unfolding legal may may_swap
no_swap s m client r stands not_yet =
    and_no (not m.stalled) _
    (taking_no s m client (may_swap s.topology m client) r stands
    (and_no (not (is_test r.flags)) _ (and_no (holds_touched s.topology m client r) _
    (and_no (is_accepted_at s.topology m r) _ (and_no (not (is_refused_late s.topology m client r)) _ not_yet)))))

-- look-ups of which none is old, where a swap is told to wait
all_fresh : (now : ℕ → Look) (used : List (ℕ × Look)) (object : ObjId) (commit : ℕ) (decision : Decided)
    → IsDecided now used decision (answer.NotYet object commit) → All (λ told. told.1 ≡ now told.0) used
all_fresh now [] object commit decision is = All-nil (λ told. told.1 ≡ now told.0)
all_fresh now (l ∷ ls) object commit decision (inl same, told) = All-cons (λ told. told.1 ≡ now told.0) l ls same.0
    (all_fresh now ls object commit decision (same.1, told))
all_fresh now (l ∷ ls) object commit decision (inr other, told) = absurd cc

-- What was told stands

as_told : (script : Script) (p : DevicePass) (kept : Findings) (m q : DevicePass) (told did : Attempted) (given keeps : Findings)
    → IsTold m q did told keeps given → DidAndKeeps script p kept m told given → DidAndKeeps script p kept q did keeps
as_told script p kept m q told did given keeps is did_so =
    subst (λ (x : DevicePass). DidAndKeeps script p kept x did keeps) (sym is.same)
    (subst (λ x. DidAndKeeps script p kept m x keeps) (sym is.did_is)
    (subst (λ x. DidAndKeeps script p kept m told x) (sym is.keeps_is) did_so))

module _ (script : Script) (p m q : DevicePass) (kept : Findings) (ticket : Ticket) (request : Request) (used : List (ℕ × Look))
    (c : TakesFor script p kept ticket request used) (did : Attempted) (keeps : Findings) where
  -- a decision with a reply, by the lemma of the core
  by_decision : (says : Run → Type 0) (x : Step) (own : owner x ≡ p.rank) (t : DeviceTurn script says (x ∷ []) p m) (r : Reply)
      → ComesNext p.seen t.found p.rank kept used x → next script (machine t.found) x ≡ decided (machine t.found) p.rank r
      → IsTold m q did (attempted.Answered r) keeps no_findings → DidAndKeeps script p kept q did keeps
  by_decision says x own t r comes does told =
      as_told script p kept m q (attempted.Answered r) did no_findings keeps told
      (answered_by script p m kept ticket request used c says x own t r comes
      (subst (λ (z : Machine). IsLastReply z p.rank (place_at (machine t.found) p.rank).command r) (sym does)
      (recorded (machine t.found) p.rank r)))

  -- look-ups that grew old
  again : (asks : Move) → IsMove script.topology request used kept.states asks → is_lock asks ≡ false
      → (says : Run → Type 0) (t : DeviceTurn script says [] p m) (label : ℕ) (was now : Look) (decision : Decided)
      → IsDecided (look_up (world t.found)) used decision (answer.Again label was now)
      → LooksAnew script request kept m q did keeps → DidAndKeeps script p kept q did keeps
  again asks is_move no_lock says t label was now decision stale anew =
      subst (λ x. DidAndKeeps script p kept q x keeps) (sym anew.did_is)
      (subst (λ x. DidAndKeeps script p kept q attempted.Did x) (sym anew.keeps_is)
      (looked_again script p m kept ticket request used c q says t anew.told anew.turn asks is_move no_lock label was now decision stale))

  -- `refuse`
  module _ (why : Refusal) (refused : RefusedBy script.topology request used kept.states why) where
    pub refuses_so : (a : Decided) → DeviceTurn script (λ found. IsDecided (look_up (world found)) used (answer.Done (reply.Refused why)) a)
        (steps_of p.rank (step.Refuse p.rank) a) p m
        → Concludes script request kept m a q did keeps → DidAndKeeps script p kept q did keeps
    refuses_so (answer.Done r) t told =
        by_decision (λ found. IsDecided (look_up (world found)) used (answer.Done (reply.Refused why)) (answer.Done r)) (step.Refuse p.rank)
        refl t r
        (comes_found script p m kept ticket request used c _ (step.Refuse p.rank ∷ []) t (move.Refuse why) refused)
        (ap (λ s. next s (machine t.found) (step.Refuse p.rank)) (sym t.finds.same) ∙
        (does ∙ ap (decided (machine t.found) p.rank) (sym same))) told
      where
        same : r ≡ reply.Refused why
        same = (let e = t.said.1 in cc)

        may_be : MayBeRefused (run_seen script p) p.rank ticket used why
        may_be = may_refuse_by script p kept ticket request used c why refused

        does : next t.found.script (machine t.found) (step.Refuse p.rank) ≡ decided (machine t.found) p.rank (reply.Refused why)
        does =
            (subst (λ n. Decides t.found n (step.Refuse n) (reply.Refused why))
            (the_taker script p t.found t.finds ticket used may_be.request may_be.deciding)
            (refuses t.found ticket.0 used why t.finds.is_open.formed t.finds.is_open.history t.said.0
            (may_refuse script p t.found t.finds ticket used why may_be))).does
    refuses_so (answer.Refused r) t told = (let e = t.said.1 in absurd cc)
    refuses_so (answer.NotYet object commit) t told = (let e = t.said.1 in absurd cc)
    refuses_so (answer.Again label was now) t told = again (move.Refuse why) refused refl _ t label was now
        (answer.Done (reply.Refused why)) t.said told

  -- `test` and `swap`
  module _ (checked : Box Checked) (resolved : Resolved)
      (accepted : AcceptedAs script.topology request used kept.states checked.value resolved) where
    abbrev asks : Move
    asks = move.Accept checked resolved

    pub tests_so : is_test request.flags ≡ true → (a : Decided)
        → DeviceTurn script (λ found. IsDecided (look_up (world found)) used (answer.Done reply.Tested) a)
        (steps_of p.rank (step.Test p.rank) a) p m
        → Concludes script request kept m a q did keeps → DidAndKeeps script p kept q did keeps
    unfolding next
    tests_so test (answer.Done r) t told =
        by_decision (λ found. IsDecided (look_up (world found)) used (answer.Done reply.Tested) (answer.Done r)) (step.Test p.rank) refl t r
        (subst (λ x. ComesNext p.seen t.found p.rank kept used x)
        (ap (λ b. if b then step.Test p.rank else (if is_some (late_reply t.found.script.topology (machine t.found) p.rank request)
        then step.Refuse p.rank else step.Swap p.rank)) test)
        (comes_found script p m kept ticket request used c _ (step.Test p.rank ∷ []) t asks accepted))
        (ap (decided (machine t.found) p.rank) (sym same)) told
      where
        same : r ≡ reply.Tested
        same = (let e = t.said.1 in cc)
    tests_so test (answer.Refused r) t told = (let e = t.said.1 in absurd cc)
    tests_so test (answer.NotYet object commit) t told = (let e = t.said.1 in absurd cc)
    tests_so test (answer.Again label was now) t told = again asks accepted refl _ t label was now (answer.Done reply.Tested) t.said told

    -- what a swap finds
    module _ (no_test : is_test request.flags ≡ false) (a : Decided) where
      abbrev Swaps : Run → Type 0
      Swaps found = IsDecided (look_up (world found)) used (swap_answer found p.rank) a

      at_found : (xs : List Step) (t : DeviceTurn script Swaps xs p m) → request_at t.found.script (machine t.found) p.rank ≡ Some request
      at_found xs t = request-found script p t.found t.finds ∙ c.at

      -- what it answers, in the machine's words
      answer_is : (xs : List Step) (t : DeviceTurn script Swaps xs p m) → swap_answer t.found p.rank
          ≡ refused_or (late_reply t.found.script.topology (machine t.found) p.rank request)
          (waits_or_commits (awaited_answer t.found.script.topology (machine t.found) request)
          (length (machine t.found).device.commits))
      answer_is xs t = ap (swap_answer_of t.found.script.topology (machine t.found) p.rank) (at_found xs t)

      -- the step of the move
      step_is : (r : Run) (late : Option Reply) → late_reply r.script.topology (machine r) p.rank request ≡ late
          → step_of_move r p.rank request asks ≡ (if is_some late then step.Refuse p.rank else step.Swap p.rank)
      step_is r late is =
          ap (λ b. if b then step.Test p.rank else (if is_some (late_reply r.script.topology (machine r) p.rank request)
          then step.Refuse p.rank else step.Swap p.rank)) no_test
          ∙ ap (λ o. if is_some o then step.Refuse p.rank else step.Swap p.rank) is

    pub swaps_so : is_test request.flags ≡ false → (a : Decided)
        → DeviceTurn script (λ found. IsDecided (look_up (world found)) used (swap_answer found p.rank) a)
        (steps_of p.rank (step.Swap p.rank) a) p m
        → Concludes script request kept m a q did keeps → DidAndKeeps script p kept q did keeps
    unfolding next
    swaps_so no_test (answer.Done r) t told =
        as_told script p kept m q (attempted.Answered r) did no_findings keeps told
        (answered_by script p m kept ticket request used c _ (step.Swap p.rank) refl t r
        (subst (λ x. ComesNext p.seen t.found p.rank kept used x) (step_is no_test (answer.Done r) t.found None commits.none_late)
        (comes_found script p m kept ticket request used c _ (step.Swap p.rank ∷ []) t asks accepted))
        (subst (λ (z : Machine). IsLastReply z p.rank (place_at (machine t.found) p.rank).command r) (sym swapped)
        (subst (λ x. IsLastReply (swapped_state script.topology (machine t.found) p.rank (Some request)) p.rank
        (place_at (machine t.found) p.rank).command x) (sym commits.is_number)
        (swap_recorded script.topology (machine t.found) p.rank request))))
      where
        commits : Commits (late_reply t.found.script.topology (machine t.found) p.rank request)
            (awaited_answer t.found.script.topology (machine t.found) request) (length (machine t.found).device.commits) r
        commits = done_of (late_reply t.found.script.topology (machine t.found) p.rank request)
            (awaited_answer t.found.script.topology (machine t.found) request) (length (machine t.found).device.commits) r
            (t.said.1 ∙ answer_is no_test (answer.Done r) _ t)

        swapped : next script (machine t.found) (step.Swap p.rank) ≡ swapped_state script.topology (machine t.found) p.rank (Some request)
        swapped = ap (swapped_state script.topology (machine t.found) p.rank)
            (ap (λ s. request_at s (machine t.found) p.rank) (sym t.finds.same) ∙ at_found no_test (answer.Done r) _ t)
    swaps_so no_test (answer.Refused r) t told =
        by_decision _ (step.Refuse p.rank) refl t r
        (subst (λ x. ComesNext p.seen t.found p.rank kept used x) (step_is no_test (answer.Refused r) t.found (Some r) late)
        (comes_found script p m kept ticket request used c _ (step.Refuse p.rank ∷ []) t asks accepted))
        (ap (λ s. next s (machine t.found) (step.Refuse p.rank)) (sym t.finds.same) ∙ does) told
      where
        late : late_reply t.found.script.topology (machine t.found) p.rank request ≡ Some r
        late = refused_of (late_reply t.found.script.topology (machine t.found) p.rank request)
            (awaited_answer t.found.script.topology (machine t.found) request) (length (machine t.found).device.commits) r
            (t.said.1 ∙ answer_is no_test (answer.Refused r) _ t)

        may_be : MayBeSwapped (run_seen script p) p.rank ticket used checked.value resolved
        may_be = may_swap_by script p kept ticket request used c checked.value resolved accepted no_test

        ready : IsReadyToCommit t.found p.rank checked.value resolved.flags
        ready =
            subst (λ n. IsReadyToCommit t.found n checked.value resolved.flags)
            (the_taker script p t.found t.finds ticket used may_be.request may_be.deciding)
            (ready_now t.found ticket.0 used checked.value resolved t.finds.is_open.formed t.finds.is_open.history t.said.0
            (at_turn.may_swap script p t.found t.finds ticket used checked.value resolved may_be))

        its_request : ready.request ≡ request
        its_request = (let both : Some ready.request ≡ Some request = sym ready.at ∙ at_found no_test (answer.Refused r) _ t in cc)

        does : next t.found.script (machine t.found) (step.Refuse p.rank) ≡ decided (machine t.found) p.rank r
        does =
            (late_refuses t.found p.rank checked.value resolved.flags r ready
            (ap (late_reply t.found.script.topology (machine t.found) p.rank) its_request ∙ late)).does
    swaps_so no_test (answer.NotYet object commit) t told =
        as_told script p kept m q (attempted.NotYet (length m.seen)) did kept keeps told
        (waits_for script _ p m kept c.ready t used (step.Swap p.rank) c.has
        (subst (λ x. WaitsAt (doing_at (machine t.found) p.rank) p.seen t.found p.rank kept used x)
        (step_is no_test (answer.NotYet object commit) t.found None awaits.none_late)
        (waits_found script p m kept ticket request used c _ [] t asks accepted
        (all_fresh (look_up (world t.found)) used object commit (swap_answer t.found p.rank) t.said)))
        (no_swap t.found.script (machine t.found) p.rank request (at_found no_test (answer.NotYet object commit) _ t)
        (not_ready t.found.script.topology (machine t.found) request awaits.pair awaits.is_awaited)))
      where
        awaits : Awaits (late_reply t.found.script.topology (machine t.found) p.rank request)
            (awaited_answer t.found.script.topology (machine t.found) request)
        awaits = not_yet_of (late_reply t.found.script.topology (machine t.found) p.rank request)
            (awaited_answer t.found.script.topology (machine t.found) request) (length (machine t.found).device.commits) object commit
            (t.said.1 ∙ answer_is no_test (answer.NotYet object commit) _ t)
    swaps_so no_test (answer.Again label was now) t told = again asks accepted refl _ t label was now (swap_answer t.found p.rank) t.said
        told

-- no memory for new look-ups: nothing was done
pub vain_so : (script : Script) (p m q : DevicePass) (kept : Findings) (ticket : Ticket) (request : Request) (used : List (ℕ × Look))
    (c : TakesFor script p kept ticket request used) (says : Run → Type 0) (x : Step) (a : Decided)
    → DeviceTurn script says (steps_of p.rank x a) p m → LooksInVain script a m q → DidNothing script p q
vain_so script p m q kept ticket request used c says x (answer.Again label was now) t vain = in_vain script says (λ found. ⊤) p m q kept
    c.ready t vain.turn
vain_so script p m q kept ticket request used c says x (answer.Done r) t vain = (let e = vain.again in absurd cc)
vain_so script p m q kept ticket request used c says x (answer.Refused r) t vain = (let e = vain.again in absurd cc)
vain_so script p m q kept ticket request used c says x (answer.NotYet object commit) t vain = in_vain script says (λ found. ⊤) p m q kept
    c.ready t vain.turn
