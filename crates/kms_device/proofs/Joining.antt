-- An attempt of several turns: what its last part did, told of the whole.
use Rattle.std.proofs.Common.{◌≡◌, ℕ, List, [], ◌∷◌, Bool, true, false, Some, None, Result, Ok, Err, refl, sym, ap, ◌∙◌, subst, inl, inr}
use Rattle.std.specs.Prelude.{if◌then◌else◌, is_some}
use Rattle.kms_model.specs.Order.Turns.{lock_step}
use Rattle.kms_model.specs.declared.objects.Ticket.{Ticket}
use Rattle.kms_model.specs.declared.replies.Step.{Step}
use Rattle.kms_model.specs.declared.replies.Step.TheVariants as step
use Rattle.kms_model.specs.declared.runs.Doing.{Doing}
use Rattle.kms_model.specs.declared.runs.Doing.TheVariants as doing
use Rattle.kms_model.specs.declared.runs.Place.{Place}
use Rattle.kms_model.specs.declared.scripts.Request.{Request}
use Rattle.kms_model.specs.declared.scripts.Script.{Script}
use Rattle.kms_model.specs.declared.states.Duplicates.{Duplicates}
use Rattle.kms_model.specs.declared.worlds.Look.{Look}
use Rattle.kms_model.specs.Machine.State.{doing_at, place_at, request_at}
use Rattle.kms_model.specs.Request.Flags.{is_test}
use Rattle.kms_model.specs.Request.Lookups.{lookups}
use Rattle.kms_state.specs.Places.{duplicated, is_duplicated}
use Rattle.kms_check.specs.declared.moving.Move.{Move}
use Rattle.kms_check.specs.declared.moving.Move.TheVariants as move
use Rattle.kms_check.specs.Moves.{IsMove}
use Rattle.kms_histlock.specs.Rules.{IsStart}
use Rattle.kms_core.specs.Decisions.{world}
use Rattle.kms_core.specs.Locks.{present_state}
use Rattle.kms_core.specs.Run.{Run, machine}
use Rattle.kms_core.specs.Swaps.{late_reply}
use Rattle.kms_device.specs.declared.attempt.Findings.{Findings}
use Rattle.kms_device.specs.declared.attempt.Attempted.{Attempted}
use Rattle.kms_device.specs.declared.attempt.Attempted.TheVariants as attempted
use Rattle.kms_device.specs.Attempts.{AreLookedUp, AsksNext, ComesNext, ComesNextAt, ComesNextTaking, FindsRequest, GoesOnAt, IsAttempt}
use Rattle.kms_device.specs.Attempts.{IsLastReply, Serves, StaysAt, Stepped, Uses, WaitsAt, Went, looks_after, states_after, step_of_move}
use Rattle.kms_device.specs.Trying.{IsReady, TakesLocksFor, Tried, with_looks}
use Rattle.kms_device.specs.Turns.{DevicePass, DeviceTurn, run_seen}
use Rattle.kms_device.proofs.Deciding.{request-found}
use Rattle.kms_device.proofs.Stepping.{found-is, found-place, rank-after, request-same, start_refl, start_trans}
use Rattle.kms_device.proofs.TurnsTried.{ready_after, went_on}
use Rattle.kms_device.proofs.Went.{went_later}

-- What an attempt goes by, told otherwise

module _ (from from2 : List Step) (kept kept2 : Findings) (states : kept2.states ≡ kept.states) (r : Run) (client : ℕ)
    (used : List (ℕ × Look))
    (uses : Uses from r client kept.looks used → Uses from2 r client kept2.looks used) where
  abbrev asks_so : AsksNext from r client kept used → AsksNext from2 r client kept2 used
  asks_so a = record {
    request = a.request;
    at = a.at;
    uses = uses a.uses;
    asks = a.asks;
    is_move = subst (λ (d : Duplicates). IsMove r.script.topology a.request used d a.asks) (sym states) a.is_move;
  }

  comes_so : (d : Doing) (x : Step) → ComesNextAt d from r client kept used x → ComesNextAt d from2 r client kept2 used x
  comes_so doing.Idle x is = is
  comes_so (doing.Taking t) x is = record { move = asks_so is.move; next_is = is.next_is }
  comes_so (doing.MustBackOff t object) x is = is
  comes_so (doing.BackedOff t object) x is = is
  comes_so (doing.Returning k) x is = is

  waits_so : (d : Doing) (x : Step) → WaitsAt d from r client kept used x → WaitsAt d from2 r client kept2 used x
  waits_so (doing.Taking t) x is = record {
    comes = record { move = asks_so is.comes.move; next_is = is.comes.next_is };
    in_vain =
        is.in_vain;
  }
  waits_so (doing.BackedOff t object) x is = is
  waits_so doing.Idle x is = absurd is
  waits_so (doing.MustBackOff t object) x is = absurd is
  waits_so (doing.Returning k) x is = absurd is

-- what waits comes next
waits_comes : (from : List Step) (kept : Findings) (r : Run) (client : ℕ) (used : List (ℕ × Look)) (d : Doing) (x : Step)
    → WaitsAt d from r client kept used x → ComesNextAt d from r client kept used x
waits_comes from kept r client used (doing.Taking t) x is = is.comes
waits_comes from kept r client used (doing.BackedOff t object) x is = is
waits_comes from kept r client used doing.Idle x is = absurd is
waits_comes from kept r client used (doing.MustBackOff t object) x is = absurd is
waits_comes from kept r client used (doing.Returning k) x is = absurd is

-- what is asked for makes the client keep the look-ups that it used
looks_of_move : (r : Run) (client : ℕ) (request : Request) (kept : Findings) (used : List (ℕ × Look)) (asks : Move)
    → looks_after kept used (step_of_move r client request asks) ≡ Some used
looks_of_move r client request kept used (move.Refuse why) = refl
looks_of_move r client request kept used (move.Lock id) = refl
looks_of_move r client request kept used (move.Accept checked resolved) = by (is_test request.flags)
    (is_some (late_reply r.script.topology (machine r) client request))
  where
    by : (test late : Bool) → looks_after kept used
        (if test then step.Test client else (if late then step.Refuse client else step.Swap client)) ≡ Some used
    by true late = refl
    by false true = refl
    by false false = refl

-- A turn that added nothing, and then the rest of an attempt

module _ (script : Script) (says : Run → Type 0) (p m q : DevicePass) (first : Findings) (ready : IsReady script p first)
    (t : DeviceTurn script says [] p m) where
  went : Went [] p m
  went = went_on script says p m first ready t

  place : place_at (machine (run_seen script m)) p.rank ≡ place_at (machine (run_seen script p)) p.rank
  place = ap (λ (r : Run). place_at (machine r) p.rank) (found-is script says p m t) ∙ found-place script says [] p m t

  since : (xs : List Step) → IsStart m.seen xs → IsStart p.seen xs
  since xs begins = start_trans p.seen m.seen xs (went.more, went.grows) begins

  finds_earlier : (found : Run) → FindsRequest script p.rank m found → FindsRequest script p.rank p found
  finds_earlier found f = record { same = f.same; is_open = f.is_open; begins = since found.steps f.begins; place = f.place ∙ place }

  -- what was kept at first, and what the rest went by
  module _ (kept kept2 : Findings) (states : kept2.states ≡ kept.states)
      (uses : (r : Run) (used : List (ℕ × Look)) → FindsRequest script p.rank m r → Uses m.seen r p.rank kept.looks used
      → Uses p.seen r p.rank kept2.looks used)
      (looks : (r : Run) (used : List (ℕ × Look)) (x : Step) → FindsRequest script p.rank m r → ComesNext m.seen r p.rank kept used x
      → looks_after kept used x ≡ looks_after kept2 used x) where
    comes_earlier : (r : Run) (used : List (ℕ × Look)) (x : Step) → FindsRequest script p.rank m r → ComesNext m.seen r p.rank kept used x
        → ComesNext p.seen r p.rank kept2 used x
    comes_earlier r used x f is = comes_so m.seen p.seen kept kept2 states r p.rank used (uses r used f) (doing_at (machine r) p.rank) x is

    stepped_earlier : Stepped script p.rank m q kept → Stepped script p.rank p q kept2
    stepped_earlier s = record {
      found = s.found;
      finds = finds_earlier s.found s.finds;
      used = s.used;
      next = s.next;
      comes = comes_earlier s.found s.used s.next s.finds s.comes;
      legal = s.legal;
      left = s.left;
      went = went_later (s.next ∷ []) p m q went s.went;
    }

    attempt_earlier : (new : Findings) (did : Attempted) → IsAttempt script p.rank m kept q new did
        → IsAttempt script p.rank p kept2 q new did
    unfolding stepped_earlier
    attempt_earlier new attempted.Did is = elim is [
      | inl on ↦ inl (record {
        stepped = stepped_earlier on.stepped;
        looks = on.looks ∙ looks on.stepped.found on.stepped.used on.stepped.next on.stepped.finds on.stepped.comes;
        states = on.states ∙ ap (λ d. states_after on.stepped.found p.rank d on.stepped.next) (sym states);
        silent = on.silent;
      })
      | inr other ↦ inr (elim other [
        | inl took ↦ inl (record {
          went = went_later [] p m q went took.went;
          object = took.object;
          finds = finds_earlier (run_seen script q) took.finds;
          used = took.used;
          comes = comes_earlier (run_seen script q) took.used (lock_step p.rank took.object.0) took.finds took.comes;
          held = took.held;
          lacked = ap (λ d. is_duplicated d took.object.0) states ∙ took.lacked;
          looks = took.looks;
          has = took.has ∙ ap (λ d. duplicated d took.object.0 (present_state (run_seen script q) took.object)) (sym states);
        })
        | inr looked ↦ inr (record {
          went = went_later [] p m q went looked.went;
          found = looked.found;
          finds = finds_earlier looked.found looked.finds;
          begins = looked.begins;
          used = looked.used;
          move = asks_so m.seen p.seen kept kept2 states looked.found p.rank looked.used (uses looked.found looked.used looked.finds)
              looked.move;
          decides = looked.decides;
          stale = looked.stale;
          request = looked.request;
          at = looked.at;
          looks = looked.looks;
          states = looked.states ∙ sym states;
        })
      ])
    ]
    attempt_earlier new (attempted.NotYet n) is = record {
      went = went_later [] p m q went is.went;
      found = is.found;
      finds = finds_earlier is.found is.finds;
      is_length = is.is_length;
      used = is.used;
      next = is.next;
      waits = waits_so m.seen p.seen kept kept2 states is.found p.rank is.used (uses is.found is.used is.finds)
          (doing_at (machine is.found) p.rank) is.next is.waits;
      illegal = is.illegal;
      left = is.left;
      looks = is.looks ∙ looks is.found is.used is.next is.finds
          (waits_comes m.seen kept is.found p.rank is.used (doing_at (machine is.found) p.rank) is.next is.waits);
      states = is.states ∙ sym states;
    }
    attempt_earlier new (attempted.Answered r) is = record {
      stepped = stepped_earlier is.stepped;
      records = subst (λ n. IsLastReply (machine (run_seen script q)) p.rank n r) (ap (λ (x : Place). x.command) place) is.records;
      anew = is.anew;
    }

    stays_earlier : StaysAt (run_seen script m) (run_seen script q) p.rank → StaysAt (run_seen script p) (run_seen script q) p.rank
    stays_earlier stays = record { may = stays.may; command = stays.command ∙ ap (λ (x : Place). x.command) place }

    goes_earlier : (did : Attempted) → GoesOnAt (run_seen script m) (run_seen script q) p.rank did
        → GoesOnAt (run_seen script p) (run_seen script q) p.rank did
    goes_earlier attempted.Did on = stays_earlier on
    goes_earlier (attempted.NotYet n) on = stays_earlier on
    goes_earlier (attempted.Answered r) on = tt

    rank : m.rank ≡ p.rank
    rank = rank-after script says [] p m t

    tried_earlier : {E : Type 0} (keeps : Findings) (r : Result Attempted E) → Tried script m kept q keeps r
        → Tried script p kept2 q keeps r
    tried_earlier keeps (Ok did) is = record {
      is_attempt = attempt_earlier keeps did (subst (λ n. IsAttempt script n m kept q keeps did) rank is.is_attempt);
      goes_on = goes_earlier did (subst (λ n. GoesOnAt (run_seen script m) (run_seen script q) n did) rank is.goes_on);
      serves = subst (λ n. Serves (run_seen script q) n keeps) rank is.serves;
    }
    tried_earlier keeps (Err e) is = record {
      went = went_later [] p m q went is.went;
      stays = stays_earlier (subst (StaysAt (run_seen script m) (run_seen script q)) rank is.stays);
    }

  -- with the same that was kept
  pub tried_later : {E : Type 0} (kept keeps : Findings) (r : Result Attempted E) → Tried script m kept q keeps r → Tried script p kept q
      keeps r
  tried_later kept keeps r is =
      tried_earlier kept kept refl
      (λ r used f u. record { looked = u.looked; same = u.same; made = λ none. since u.looked.early (u.made none) })
      (λ r used x f comes. refl) keeps r is

  -- where the client takes locks still
  pub takes_later : (ticket : Ticket) (request : Request) → TakesLocksFor script p ticket request → TakesLocksFor script m ticket request
  takes_later ticket request takes =
      let rank : m.rank ≡ p.rank = rank-after script says [] p m t in record {
        taking = subst (λ n. doing_at (machine (run_seen script m)) n ≡ doing.Taking ticket) (sym rank)
            (ap (λ (x : Place). x.doing) place ∙ takes.taking);
        at = subst (λ n. request_at script (machine (run_seen script m)) n ≡ Some request) (sym rank)
            (ap (λ (r : Run). request_at r.script (machine r) p.rank) (found-is script says p m t) ∙
            (request-found script p t.found t.finds ∙ takes.at));
      }

-- Look-ups that were made in a turn of their own serve.
module _ (script : Script) (p m q : DevicePass) (kept : Findings) (ready : IsReady script p kept) (none : kept.looks ≡ None)
    (ticket : Ticket) (request : Request) (takes : TakesLocksFor script p ticket request)
    (told : List (ℕ × Look)) (t : DeviceTurn script (λ found. told ≡ lookups (world found) request) [] p m) where
  abbrev Says : Run → Type 0
  Says found = told ≡ lookups (world found) request

  takes_with : TakesLocksFor script m ticket request
  takes_with = takes_later script Says p m q kept ready t ticket request takes

  ready2 : IsReady script m kept
  ready2 = ready_after script Says p m kept ready t

  told_then : told ≡ lookups (world (run_seen script m)) request
  told_then = t.said ∙ ap {B = List (ℕ × Look)} (λ (r : Run). lookups (world r) request) (sym (found-is script Says p m t))

  -- they are of what the pass has seen since
  abbrev looked_then : (r : Run) (client : ℕ) → r.script ≡ script → IsStart m.seen r.steps → request_at r.script (machine r) client
      ≡ Some request → AreLookedUp r client told
  looked_then r client same begins at = record {
    request = request;
    at = at;
    early = m.seen;
    begins = begins;
    told = told_then ∙ ap {B = List (ℕ × Look)} (λ s. lookups (world (record { script = s; steps = m.seen })) request) (sym same);
  }

  pub ready_with : IsReady script m (with_looks told kept.states) × TakesLocksFor script m ticket request
  ready_with = (
    record {
      is_open = ready2.is_open;
      may = ready2.may;
      serves = record {
        looks = λ looks is. subst (AreLookedUp (run_seen script m) m.rank) (told_in looks is)
            (looked_then (run_seen script m) m.rank refl (start_refl m.seen) takes_with.at);
        states = ready2.serves.states;
        fresh = ready2.serves.fresh;
      };
    },
    takes_with,
  )
    where
      told_in : (looks : List (ℕ × Look)) → Some told ≡ Some looks → told ≡ looks
      told_in looks e = cc

  uses_then : (r : Run) (used : List (ℕ × Look)) → FindsRequest script p.rank m r → Uses m.seen r p.rank (Some told) used
      → Uses p.seen r p.rank kept.looks used
  unfolding looked_then
  uses_then r used f u =
      subst (Uses p.seen r p.rank kept.looks) (sym (u.same told refl))
      (record {
        looked = looked_then r p.rank f.same f.begins at;
        same = λ looks is. (let both : None ≡ Some looks = sym none ∙ is in absurd cc);
        made = λ is. ((went script Says p m q kept ready t).more, (went script Says p m q kept ready t).grows);
      })
    where
      at : request_at r.script (machine r) p.rank ≡ Some request
      at =
          ap (λ s. request_at s (machine r) p.rank) f.same
          ∙ (request-same script (machine (run_seen script m)) (machine r) p.rank (ap (λ (x : Place). x.command) f.place)
          ∙ subst (λ n. request_at script (machine (run_seen script m)) n ≡ Some request) (rank-after script Says [] p m t) takes_with.at)

  -- while it takes locks, it keeps what it used
  looks_then : (r : Run) (used : List (ℕ × Look)) (x : Step) → FindsRequest script p.rank m r
      → ComesNext m.seen r p.rank (with_looks told kept.states) used x
      → looks_after (with_looks told kept.states) used x ≡ looks_after kept used x
  looks_then r used x f comes =
      ap (looks_after (with_looks told kept.states) used) here.next_is
      ∙ (looks_of_move r p.rank here.move.request (with_looks told kept.states) used here.move.asks
      ∙ sym (ap (looks_after kept used) here.next_is ∙ looks_of_move r p.rank here.move.request kept used here.move.asks))
    where
      here : ComesNextTaking m.seen r p.rank (with_looks told kept.states) used x
      here =
          subst (λ d. ComesNextAt d m.seen r p.rank (with_looks told kept.states) used x)
          (ap (λ (z : Place). z.doing) f.place
          ∙ subst (λ n. doing_at (machine (run_seen script m)) n ≡ doing.Taking ticket) (rank-after script Says [] p m t) takes_with.taking)
          comes

  pub tried_with : {E : Type 0} (keeps : Findings) (r : Result Attempted E) → Tried script m (with_looks told kept.states) q keeps r →
      Tried script p kept q keeps r
  tried_with keeps r is = tried_earlier script Says p m q kept ready t (with_looks told kept.states) kept refl uses_then looks_then
      keeps r is
