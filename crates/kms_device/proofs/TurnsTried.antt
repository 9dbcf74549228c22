-- What came of one turn of an attempt, by where the client stands.
use Rattle.std.proofs.Common.{append-nil, ◌≡◌, ℕ, List, [], ◌∷◌, length, true, false, None, refl, sym, ap, ◌∙◌, subst, inl}
use Rattle.kms_model.specs.declared.objects.ObjId.{ObjId}
use Rattle.kms_model.specs.declared.objects.Ticket.{Ticket}
use Rattle.kms_model.specs.declared.replies.Step.{Step}
use Rattle.kms_model.specs.declared.replies.Step.TheVariants as step
use Rattle.kms_model.specs.declared.runs.Doing.{Doing}
use Rattle.kms_model.specs.declared.runs.Doing.TheVariants as doing
use Rattle.kms_model.specs.declared.runs.Place.{Place}
use Rattle.kms_model.specs.declared.scripts.Script.{Script}
use Rattle.kms_model.specs.declared.worlds.Look.{Look}
use Rattle.kms_model.specs.Machine.Effects.{backed_off, next, now_doing}
use Rattle.kms_model.specs.Machine.Histories.{legal}
use Rattle.kms_model.specs.Machine.State.{Machine, doing_at, holds, place_at}
use Rattle.kms_model.specs.Machine.Steps.{returning_of}
use Rattle.kms_laws.proofs.Basics.{read_same}
use Rattle.kms_histlock.specs.Rules.{IsStart}
use Rattle.kms_core.specs.Run.{Run, machine}
use Rattle.kms_device.specs.declared.attempt.Findings.{Findings}
use Rattle.kms_device.specs.declared.attempt.Attempted.TheVariants as attempted
use Rattle.kms_device.specs.Attempts.{ComesNext, ComesNextAt, FindsRequest, MayAttempt, Serves, StaysAt, Stepped, WaitsAt, looks_after}
use Rattle.kms_device.specs.Attempts.{states_after, Went, no_findings}
use Rattle.kms_device.specs.Steps.{owner}
use Rattle.kms_device.specs.Trying.{DidAndKeeps, DidNothing, IsReady}
use Rattle.kms_device.specs.Turns.{DevicePass, DeviceTurn, run_seen}
use Rattle.kms_device.proofs.Serving.{none_fresh, none_of_locks, looked_later, serves_found, serves_later, serves_new}
use Rattle.kms_device.proofs.Stepping.{found-is, found-place, legal-found, may_again, next-after, open-after, seen-after}
use Rattle.kms_device.proofs.Went.{one_own, went_turn}

-- what a turn finds: the client stands where it stood
pub finds_request : (script : Script) (says : Run → Type 0) (xs : List Step) (p q : DevicePass) (t : DeviceTurn script says xs p q)
    → FindsRequest script p.rank p t.found
finds_request script says xs p q t = record {
  same = t.finds.same;
  is_open = t.finds.is_open;
  begins = (t.finds.history.begins.0, t.finds.history.begins.1);
  place = found-place script says xs p q t;
}

-- where a client stands after it began something else at its command
pub place-now : (m : Machine) (client : ℕ) (d : Doing) → place_at (now_doing m client d) client
    ≡ record { command = (place_at m client).command; doing = d }
place-now m client d = read_same _ m.contexts.places client _

module _ (script : Script) (says : Run → Type 0) (p q : DevicePass) (kept : Findings) (ready : IsReady script p kept) where
  -- A turn that added nothing.
  module _ (t : DeviceTurn script says [] p q) where
    pub went_on : Went [] p q
    went_on = went_turn script says [] p q refl t

    pub doing-after : doing_at (machine (run_seen script q)) p.rank ≡ doing_at (machine (run_seen script p)) p.rank
    doing-after = ap (λ (r : Run). doing_at (machine r) p.rank) (found-is script says p q t) ∙ ap (λ (x : Place). x.doing)
        (found-place script says [] p q t)

    pub command-after : (place_at (machine (run_seen script q)) p.rank).command ≡ (place_at (machine (run_seen script p)) p.rank).command
    command-after = ap (λ (r : Run). (place_at (machine r) p.rank).command) (found-is script says p q t) ∙ ap (λ (x : Place). x.command)
        (found-place script says [] p q t)

    pub may_after : MayAttempt (run_seen script q) p.rank
    may_after = may_again (run_seen script p) (run_seen script q) p.rank refl command-after (ap returning_of doing-after ∙ ready.may.awake)
        ready.may

    pub stays_after : StaysAt (run_seen script p) (run_seen script q) p.rank
    stays_after = record { may = may_after; command = command-after }

    pub serves_after : Serves (run_seen script q) p.rank kept
    serves_after = subst (λ r. Serves r p.rank kept) (sym (found-is script says p q t))
        (serves_found script p t.found t.finds kept ready.serves)

    pub nothing_done : DidNothing script p q
    nothing_done = record { went = went_on; stays = record { may = may_after; command = command-after } }

    -- where the client stands is known, and what was kept serves
    pub ready_after : IsReady script q kept
    ready_after = record {
      is_open = open-after script says [] p q t;
      may = subst (MayAttempt (run_seen script q)) (sym rank) may_after;
      serves = subst (λ n. Serves (run_seen script q) n kept) (sym rank) serves_after;
    }
      where
        rank : q.rank ≡ p.rank
        rank = ap (λ (z : DevicePass). z.rank) t.now

    -- the step that comes next is not legal in what was found
    pub waits_for : (used : List (ℕ × Look)) (x : Step) → kept.looks ≡ looks_after kept used x
        → WaitsAt (doing_at (machine t.found) p.rank) p.seen t.found p.rank kept used x
        → legal t.found.script (machine t.found) x ≡ false → DidAndKeeps script p kept q (attempted.NotYet (length q.seen)) kept
    waits_for used x looks waits illegal = record {
      is_attempt = record {
        went = went_on;
        found = t.found;
        finds = finds_request script says [] p q t;
        is_length = ap length left;
        used = used;
        next = x;
        waits = waits;
        illegal = ap (λ s. legal s (machine t.found) x) (sym t.finds.same) ∙ illegal;
        left = left;
        looks = looks;
        states = refl;
      };
      goes_on = stays_after;
      serves = serves_after;
    }
      where
        left : q.seen ≡ t.found.steps
        left = seen-after script says [] p q t ∙ append-nil t.found.steps

  -- A turn that added one step of the client's.
  module _ (x : Step) (own : owner x ≡ p.rank) (t : DeviceTurn script says (x ∷ []) p q) where
    pub doing-found : doing_at (machine t.found) p.rank ≡ doing_at (machine (run_seen script p)) p.rank
    doing-found = ap (λ (z : Place). z.doing) (found-place script says (x ∷ []) p q t)

    pub command-found : (place_at (machine t.found) p.rank).command ≡ (place_at (machine (run_seen script p)) p.rank).command
    command-found = ap (λ (z : Place). z.command) (found-place script says (x ∷ []) p q t)

    pub serves-found : Serves t.found p.rank kept
    serves-found = serves_found script p t.found t.finds kept ready.serves

    abbrev pub stepped : (used : List (ℕ × Look)) → ComesNext p.seen t.found p.rank kept used x → Stepped script p.rank p q kept
    stepped used comes = record {
      found = t.found;
      finds = finds_request script says (x ∷ []) p q t;
      used = used;
      next = x;
      comes = comes;
      legal = legal-found script says x p q t;
      left = seen-after script says (x ∷ []) p q t;
      went = went_turn script says (x ∷ []) p q (one_own p.rank x own) t;
    }

    pub begins : IsStart t.found.steps (run_seen script q).steps
    begins = (x ∷ [], seen-after script says (x ∷ []) p q t)

    -- it goes on at its command
    pub stepped_on : (keeps : Findings) (used : List (ℕ × Look)) → keeps.looks ≡ looks_after kept used x → keeps.states
        ≡ states_after t.found p.rank kept.states x → ComesNext p.seen t.found p.rank kept used x
        → (next script (machine t.found) x).records.replies ≡ (machine t.found).records.replies
        → (place_at (next script (machine t.found) x) p.rank).command ≡ (place_at (machine t.found) p.rank).command
        → returning_of (doing_at (next script (machine t.found) x) p.rank) ≡ None
        → Serves (run_seen script q) p.rank keeps → DidAndKeeps script p kept q attempted.Did keeps
    stepped_on keeps used looks states comes silent command awake serves = record {
      is_attempt = inl (record {
        stepped = stepped used comes;
        looks = looks;
        states = states;
        silent = ap
            (λ (m : Machine). m.records.replies) now ∙ silent;
      });
      goes_on = record {
        may = may_again (run_seen script p) (run_seen script q) p.rank refl same_command
            (ap (λ m. returning_of (doing_at m p.rank)) now ∙ awake) ready.may;
        command = same_command;
      };
      serves = serves;
    }
      where
        now : machine (run_seen script q) ≡ next script (machine t.found) x
        now = next-after script says x p q t

        same_command : (place_at (machine (run_seen script q)) p.rank).command ≡ (place_at (machine (run_seen script p)) p.rank).command
        same_command = ap (λ m. (place_at m p.rank).command) now ∙ (command ∙ command-found)

    -- what was kept serves after a step that changes no state and drops no lock
    pub serves-next : (next script (machine t.found) x).device.world ≡ (machine t.found).device.world
        → ((object : ℕ) → holds (machine t.found) p.rank object ≡ true → holds (next script (machine t.found) x) p.rank object ≡ true)
        → (place_at (next script (machine t.found) x) p.rank).command ≡ (place_at (machine t.found) p.rank).command
        → Serves (run_seen script q) p.rank kept
    serves-next same keeps command =
        serves_later t.found (run_seen script q) p.rank kept (sym t.finds.same) begins (ap (λ m. (place_at m p.rank).command) now ∙ command)
        (ap (λ (m : Machine). m.device.world) now ∙ same)
        (λ object held. ap (λ m. holds m p.rank object) now ∙ keeps object held) serves-found
      where
        now : machine (run_seen script q) ≡ next script (machine t.found) x
        now = next-after script says x p q t

  -- A context begins.
  pub began : doing_at (machine (run_seen script p)) p.rank ≡ doing.Idle → DeviceTurn script says (step.Begin p.rank ∷ []) p q
      → DidAndKeeps script p kept q attempted.Did no_findings
  unfolding next
  began idle t =
      stepped_on (step.Begin p.rank) refl t no_findings [] refl refl
      (subst (λ d. ComesNextAt d p.seen t.found p.rank kept [] (step.Begin p.rank)) (sym (doing-found (step.Begin p.rank) refl t ∙ idle))
      refl)
      refl
      (ap (λ (z : Place). z.command) (place-now (machine t.found) p.rank
      (doing.Taking (record { 0 = (machine t.found).contexts.tickets }))))
      (ap (λ (z : Place). returning_of z.doing) (place-now (machine t.found) p.rank
      (doing.Taking (record { 0 = (machine t.found).contexts.tickets }))))
      (serves_new (run_seen script q) p.rank)

  -- It gives way.
  pub gave_way : (ticket : Ticket) (object : ObjId) → doing_at (machine (run_seen script p)) p.rank ≡ doing.MustBackOff ticket object
      → DeviceTurn script says (step.BackOff p.rank ∷ []) p q
      → DidAndKeeps script p kept q attempted.Did (record kept { states = no_findings.states })
  unfolding next
  gave_way ticket object must t =
      stepped_on (step.BackOff p.rank) refl t (record kept { states = no_findings.states }) [] refl refl
      (subst (λ d. ComesNextAt d p.seen t.found p.rank kept [] (step.BackOff p.rank)) (sym there) refl)
      refl command
      (ap (λ (z : Place). returning_of z.doing) place ∙ ap (λ d. returning_of (backed_off d)) there)
      (record {
        looks = λ used is. looked_later t.found (run_seen script q) p.rank used (sym t.finds.same) (begins (step.BackOff p.rank) refl t)
            (ap (λ m. (place_at m p.rank).command) (next-after script says (step.BackOff p.rank) p q t) ∙ command)
            ((serves-found (step.BackOff p.rank) refl t).looks used is);
        states = none_of_locks (run_seen script q) p.rank;
        fresh = none_fresh;
      })
    where
      there : doing_at (machine t.found) p.rank ≡ doing.MustBackOff ticket object
      there = doing-found (step.BackOff p.rank) refl t ∙ must

      place : place_at (now_doing (machine t.found) p.rank (backed_off (doing_at (machine t.found) p.rank))) p.rank
          ≡ record { command = (place_at (machine t.found) p.rank).command; doing = backed_off (doing_at (machine t.found) p.rank) }
      place = place-now (machine t.found) p.rank (backed_off (doing_at (machine t.found) p.rank))

      command : (place_at (next script (machine t.found) (step.BackOff p.rank)) p.rank).command
          ≡ (place_at (machine t.found) p.rank).command
      command = ap (λ (z : Place). z.command) place
