-- What came of a turn of an attempt that decided the request, or did not yet.
use Rattle.std.proofs.Common.{◌≡◌, ◌≢◌, ℕ, suc, List, [], ◌∷◌, ◌++◌, append-nil, length, Bool, true, false, Some, refl, sym, ap, ◌∙◌, subst}
use Rattle.std.proofs.Common.{arith, inl, inr, Any}
use Rattle.kms_model.specs.declared.objects.Ticket.{Ticket}
use Rattle.kms_model.specs.declared.objects.Topology.{Topology}
use Rattle.kms_model.specs.declared.replies.Reply.{Reply}
use Rattle.kms_model.specs.declared.replies.Reply.TheVariants as reply
use Rattle.kms_model.specs.declared.replies.Step.{Step}
use Rattle.kms_model.specs.declared.scripts.Request.{Request}
use Rattle.kms_model.specs.declared.scripts.Script.{Script}
use Rattle.kms_model.specs.declared.worlds.Look.{Look}
use Rattle.kms_model.specs.Machine.Effects.{answers, decided, drops_locks, goes_on_or_waits, joins_journal, next, reserves, sets_up}
use Rattle.kms_model.specs.Machine.Effects.{swapped_state}
use Rattle.kms_model.specs.Machine.State.{Machine, place_at, request_at}
use Rattle.kms_model.specs.Request.Flags.{is_nonblock, wants_event}
use Rattle.kms_model.specs.Request.Lookups.{look_up, lookups}
use Rattle.kms_check.specs.declared.moving.Move.{Move}
use Rattle.kms_check.specs.Moves.{IsMove}
use Rattle.kms_core.specs.Calls.{answered}
use Rattle.kms_core.specs.Decisions.{IsDecided, world}
use Rattle.kms_core.specs.declared.stores.looking.Decided.{Decided}
use Rattle.kms_core.specs.declared.stores.looking.Decided.TheVariants as answer
use Rattle.kms_core.specs.Run.{Run, machine}
use Rattle.kms_device.specs.declared.attempt.Findings.{Findings}
use Rattle.kms_device.specs.declared.attempt.Attempted.TheVariants as attempted
use Rattle.kms_device.specs.Attempts.{ComesNext, MayAttempt, IsLastReply, Serves, is_lock, no_findings}
use Rattle.kms_device.specs.Steps.{owner}
use Rattle.kms_device.specs.Trying.{DidAndKeeps, DidNothing, IsReady}
use Rattle.kms_device.specs.Turns.{DevicePass, DeviceTurn, run_seen}
use Rattle.kms_device.proofs.Deciding.{request-found}
use Rattle.kms_device.proofs.Stepping.{found-is, next-after, rank-after, seen-after, start_refl}
use Rattle.kms_device.proofs.Serving.{serves_new}
use Rattle.kms_device.proofs.TakingTries.{TakesFor, asks_found, some_in}
use Rattle.kms_device.proofs.TurnsTried.{command-after, command-found, finds_request, may_after, ready_after, serves_after, stepped}
use Rattle.kms_device.proofs.TurnsTried.{went_on}
use Rattle.kms_device.proofs.Went.{went_later}

-- What is recorded

-- a decision records its reply
pub recorded : (m : Machine) (client : ℕ) (r : Reply) → IsLastReply (decided m client r) client (place_at m client).command r
recorded m client r = record { place = length m.records.journal; before = m.records.replies; last = refl }

reserved_same : (t : Topology) (m : Machine) (client : ℕ) (r : Request) (b : Bool) → wants_event r.flags ≡ b
    → (reserves t m client r).records ≡ m.records
reserved_same t m client r true is = rw is refl
reserved_same t m client r false is = rw is refl

waits_same : (m : Machine) (client k : ℕ) (r : Request) (b : Bool) → is_nonblock r.flags ≡ b → (goes_on_or_waits m client r k).records
    ≡ m.records
waits_same m client k r true is = rw is refl
waits_same m client k r false is = rw is refl

-- a swap records the commit's number
pub swap_recorded : (t : Topology) (m : Machine) (client : ℕ) (r : Request)
    → IsLastReply (swapped_state t m client (Some r)) client (place_at m client).command (reply.Commit (length m.device.commits))
unfolding swapped_state
swap_recorded t m client r = record {
  place = length m.records.journal;
  before = m.records.replies;
  last =
      let k : ℕ = length m.device.commits in
      let accepted : Machine = joins_journal (answers m client (reply.Commit k)) client in
      ap (λ x. x.replies)
      (waits_same (drops_locks (sets_up t (reserves t accepted client r) client r) client) client k r (is_nonblock r.flags) refl
      ∙ reserved_same t accepted client r (wants_event r.flags) refl);
}

-- Look-ups that tell something else

any_later : (P : (ℕ × Look) → Type 0) (x : ℕ × Look) (xs : List (ℕ × Look)) → Any P xs → Any P (x ∷ xs)
any_later P x xs a = (suc a.0, a.1, omega (arith, a.2), a.3, a.4)

-- the first that differs is one that differs
pub stale_one : (now : ℕ → Look) (used : List (ℕ × Look)) (label : ℕ) (was current : Look) (decision : Decided)
    → IsDecided now used decision (answer.Again label was current) → Any (λ told. told.1 ≢ now told.0) used
stale_one now [] label was current decision e = absurd cc
stale_one now (l ∷ ls) label was current decision (inl same) = any_later (λ told. told.1 ≢ now told.0) l ls
    (stale_one now ls label was current decision same.1)
stale_one now (l ∷ ls) label was current decision (inr other) = (0, l, omega arith, refl, other.0)

module _ (script : Script) (p m : DevicePass) (kept : Findings) (ticket : Ticket) (request : Request) (used : List (ℕ × Look))
    (c : TakesFor script p kept ticket request used) where
  -- the step that comes next was made, and recorded a reply
  pub answered_by : (says : Run → Type 0) (x : Step) (own : owner x ≡ p.rank) (t : DeviceTurn script says (x ∷ []) p m) (r : Reply)
      → ComesNext p.seen t.found p.rank kept used x
      → IsLastReply (next script (machine t.found) x) p.rank (place_at (machine t.found) p.rank).command r
      → DidAndKeeps script p kept m (attempted.Answered r) no_findings
  answered_by says x own t r comes records = record {
    is_attempt = record {
      stepped = stepped script says p m kept c.ready x own t used comes;
      records = record {
        place = records.place;
        before = records.before;
        last =
            ap (λ (z : Machine). z.records.replies) (next-after script says x p m t)
            ∙ (records.last ∙ ap (λ n. answered p.rank n records.place r ∷ records.before)
            (command-found script says p m kept c.ready x own t));
      };
      anew = refl;
    };
    goes_on = tt;
    serves = serves_new (run_seen script m) p.rank;
  }

  -- a label named something else: all look-ups were made anew, in a turn of their own
  module _ (q : DevicePass) (says : Run → Type 0) (t : DeviceTurn script says [] p m) (told : List (ℕ × Look))
      (t2 : DeviceTurn script (λ found. told ≡ lookups (world found) request) [] m q) where
    abbrev Says2 : Run → Type 0
    Says2 found = told ≡ lookups (world found) request

    rank : m.rank ≡ p.rank
    rank = rank-after script says [] p m t

    ready2 : IsReady script m kept
    ready2 = ready_after script says p m kept c.ready t

    at2 : request_at script (machine (run_seen script q)) p.rank ≡ Some request
    at2 =
        subst (λ n. request_at script (machine (run_seen script q)) n ≡ Some request) rank
        (ap (λ (r : Run). request_at r.script (machine r) m.rank) (found-is script Says2 m q t2)
        ∙ (request-found script m t2.found t2.finds
        ∙ (ap (λ n. request_at script (machine (run_seen script m)) n) rank
        ∙ (ap (λ (r : Run). request_at r.script (machine r) p.rank) (found-is script says p m t) ∙
        (request-found script p t.found t.finds ∙ c.at)))))

    command2 : (place_at (machine (run_seen script q)) p.rank).command ≡ (place_at (machine (run_seen script p)) p.rank).command
    command2 =
        subst (λ n. (place_at (machine (run_seen script q)) n).command ≡ (place_at (machine (run_seen script m)) n).command) rank
        (command-after script Says2 m q kept ready2 t2)
        ∙ command-after script says p m kept c.ready t

    told2 : told ≡ lookups (world (run_seen script q)) request
    told2 = t2.said ∙ ap {B = List (ℕ × Look)} (λ (r : Run). lookups (world r) request) (sym (found-is script Says2 m q t2))

    serves2 : Serves (run_seen script q) p.rank kept
    serves2 = subst (λ n. Serves (run_seen script q) n kept) rank (serves_after script Says2 m q kept ready2 t2)

    pub looked_again : (asks : Move) → IsMove script.topology request used kept.states asks → is_lock asks ≡ false
        → (label : ℕ) (was current : Look) (decision : Decided)
        → IsDecided (look_up (world t.found)) used decision (answer.Again label was current)
        → DidAndKeeps script p kept q attempted.Did (record kept { looks = Some told })
    looked_again asks is_move no_lock label was current decision is_stale = record {
      is_attempt = inr (inr (record {
        went = went_later [] p m q (went_on script says p m kept c.ready t) (went_on script Says2 m q kept ready2 t2);
        found = t.found;
        finds = finds_request script says [] p m t;
        begins = (
          t2.finds.history.begins.0,
          seen-after script Says2 [] m q t2 ∙
              (append-nil t2.found.steps ∙ (t2.finds.history.begins.1 ∙ ap (λ xs. xs ++ t2.finds.history.begins.0)
              (seen-after script says [] p m t ∙ append-nil t.found.steps))),
        );
        used = used;
        move = asks_found script p m kept ticket request used c says [] t asks is_move;
        decides = no_lock;
        stale = stale_one (look_up (world t.found)) used label was current decision is_stale;
        request = request;
        at = at2;
        looks = ap Some told2;
        states = refl;
      }));
      goes_on = record {
        may = subst (MayAttempt (run_seen script q)) rank (may_after script Says2 m q kept ready2 t2);
        command = command2;
      };
      serves = record {
        looks = λ looks is. record {
          request = request;
          at = at2;
          early = (run_seen script q).steps;
          begins = start_refl
              (run_seen script q).steps;
          told = sym (some_in told looks is) ∙ told2;
        };
        states = serves2.states;
        fresh = serves2.fresh;
      };
    }

-- two turns that added nothing
pub in_vain : (script : Script) (says says2 : Run → Type 0) (p m q : DevicePass) (kept : Findings) → IsReady script p kept
    → DeviceTurn script says [] p m → DeviceTurn script says2 [] m q → DidNothing script p q
in_vain script says says2 p m q kept ready t t2 =
    let ready2 : IsReady script m kept = ready_after script says p m kept ready t in record {
      went = went_later [] p m q (went_on script says p m kept ready t) (went_on script says2 m q kept ready2 t2);
      stays = record {
        may = subst (MayAttempt (run_seen script q)) (rank-after script says [] p m t) (may_after script says2 m q kept ready2 t2);
        command =
            subst (λ n. (place_at (machine (run_seen script q)) n).command ≡ (place_at (machine (run_seen script m)) n).command)
            (rank-after script says [] p m t) (command-after script says2 m q kept ready2 t2)
            ∙ command-after script says p m kept ready t;
      };
    }
