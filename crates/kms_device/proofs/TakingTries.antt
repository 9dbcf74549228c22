-- What came of a turn of an attempt in which a client that takes locks asked for one.
use Rattle.std.proofs.Common.{◌≡◌, ℕ, ◌≤◌, List, [], ◌∷◌, length, Bool, true, false, Option, Some, None, refl, sym, ap, ◌∙◌, subst, arith}
use Rattle.std.proofs.Common.{inl, inr}
use Rattle.std.specs.Prelude.{is_none, not, ◌&&◌, nat_lt, ◌==◌, if◌then◌else◌}
use Rattle.kms_model.specs.Order.Turns.{lock_step}
use Rattle.kms_model.specs.declared.objects.ObjId.{ObjId}
use Rattle.kms_model.specs.declared.objects.Ticket.{Ticket}
use Rattle.kms_model.specs.declared.replies.Step.{Step}
use Rattle.kms_model.specs.declared.runs.Doing.TheVariants as doing
use Rattle.kms_model.specs.declared.runs.Place.{Place}
use Rattle.kms_model.specs.declared.scripts.Request.{Request}
use Rattle.kms_model.specs.declared.scripts.Script.{Script}
use Rattle.kms_model.specs.declared.states.ObjState.{ObjState}
use Rattle.kms_model.specs.declared.worlds.Look.{Look}
use Rattle.kms_model.specs.Device.Objects.{first_id, index_of, kind_of, object_id}
use Rattle.kms_model.specs.Machine.Effects as effects
use Rattle.kms_model.specs.Machine.Effects.{next, now_doing, put_lock}
use Rattle.kms_model.specs.Machine.Histories.{at, legal}
use Rattle.kms_model.specs.Machine.State.{Machine, doing_at, has_value, holder_at, holds, place_at, request_at}
use Rattle.kms_model.specs.Machine.Steps.{is_free_or_older, is_lockable, may, may_lock, returning_of, taking_at, ticket_of}
use Rattle.kms_model.specs.Request.Reach.{reaches}
use Rattle.kms_model.specs.Request.Sets.{obj_id}
use Rattle.kms_state.specs.Places.{duplicated, is_duplicated, may_duplicate}
use Rattle.kms_wwlock.specs.InStep.{lock_answer, ticket_at}
use Rattle.kms_wwlock.specs.declared.table.Lock.{Lock as TableLock}
use Rattle.kms_wwlock.specs.declared.table.Lock.TheVariants as table
use Rattle.kms_check.specs.declared.moving.Move.{Move}
use Rattle.kms_check.specs.declared.moving.Move.TheVariants as move
use Rattle.kms_check.specs.Moves.{AsksFor, IsMove}
use Rattle.kms_core.specs.declared.calls.contexts.Locked.{Locked}
use Rattle.kms_core.specs.declared.calls.contexts.Locked.TheVariants as answer
use Rattle.kms_core.specs.Locks.{lock_steps, locked_answer, locked_as, present_state}
use Rattle.kms_core.specs.Run.{Run, machine}
use Rattle.kms_device.specs.declared.attempt.Findings.{Findings}
use Rattle.kms_device.specs.declared.attempt.Attempted.TheVariants as attempted
use Rattle.kms_device.specs.Attempts.{AreLookedUp, AsksNext, ComesNext, ComesNextAt, FindsRequest, IsInVain, StandsAt, WaitsAt}
use Rattle.kms_device.specs.Attempts.{states_after, step_of_move, taken_in}
use Rattle.kms_device.specs.Trying.{DidAndKeeps, IsReady, attempted_of, doing_of, kept_of, with_state}
use Rattle.kms_device.specs.Turns.{DevicePass, DeviceTurn, run_seen}
use Rattle.kms_device.proofs.Deciding.{request-found}
use Rattle.kms_device.proofs.LockTries.{now_held, serves-taken, still_held}
use Rattle.kms_device.proofs.Serving.{serves_found, serves_more}
use Rattle.kms_device.proofs.HeldObjects.{IsLockableId, held_object}
use Rattle.kms_device.proofs.Places.{stands_next, stands_still}
use Rattle.kms_device.proofs.Stepping.{found-is, found-place, open-after}
use Rattle.kms_device.proofs.TurnsTried.{doing-found, finds_request, place-now, serves-next, serves_after, stepped_on, stays_after}
use Rattle.kms_device.proofs.TurnsTried.{waits_for, went_on}

pub some_in : (used looks : List (ℕ × Look)) → Some used ≡ Some looks → used ≡ looks
some_in used looks e = cc

-- What an answer to a lock tells of who holds the object

-- an object is held by a client
abbrev OneOf : Option ℕ → (ℕ → Type 0) → Type 0
OneOf h P = (holder : ℕ) × (h ≡ Some holder) × P holder

module _ (m : Machine) (client : ℕ) (s : ObjState) where
  abbrev told : Bool → Bool → Ticket → TableLock
  told own older holder = if own then table.Own else (if older then table.Older holder else table.Younger holder)

  got_told : (x : ObjState) (own older : Bool) (holder : Ticket) → answer.Got x ≡ locked_as s (told own older holder) → ⊥
  got_told x true older holder e = absurd cc
  got_told x false true holder e = absurd cc
  got_told x false false holder e = absurd cc

  own_told : (x : ObjState) (own older : Bool) (holder : Ticket) → answer.Own x ≡ locked_as s (told own older holder) → (own ≡ true)
      × (x ≡ s)
  own_told x true older holder e = (refl, cc)
  own_told x false true holder e = absurd cc
  own_told x false false holder e = absurd cc

  older_told : (t : Ticket) (own older : Bool) (holder : Ticket) → answer.Older t ≡ locked_as s (told own older holder) → older ≡ true
  older_told t true older holder e = absurd cc
  older_told t false true holder e = refl
  older_told t false false holder e = absurd cc

  younger_told : (t : Ticket) (own older : Bool) (holder : Ticket) → answer.Younger t ≡ locked_as s (told own older holder) → (own ≡ false)
      × (older ≡ false)
  younger_told t true older holder e = absurd cc
  younger_told t false true holder e = absurd cc
  younger_told t false false holder e = (refl, refl)

  held_told : (t : Ticket) (own older : Bool) (holder : Ticket) → answer.Held t ≡ locked_as s (told own older holder) → ⊥
  held_told t true older holder e = absurd cc
  held_told t false true holder e = absurd cc
  held_told t false false holder e = absurd cc

  abbrev older_than : ℕ → Bool
  older_than holder = nat_lt (ticket_at m holder).0 (ticket_at m client).0

  pub got-of : (x : ObjState) (h : Option ℕ) → answer.Got x ≡ locked_as s (lock_answer m client h) → (h ≡ None) × (x ≡ s)
  got-of x None e = (refl, cc)
  got-of x (Some holder) e = absurd (got_told x (holder == client) (older_than holder) (ticket_at m holder) e)

  pub own-of : (x : ObjState) (h : Option ℕ) → answer.Own x ≡ locked_as s (lock_answer m client h) → (has_value client h ≡ true) × (x ≡ s)
  own-of x None e = absurd cc
  own-of x (Some holder) e = own_told x (holder == client) (older_than holder) (ticket_at m holder) e

  pub older-of : (t : Ticket) (h : Option ℕ) → answer.Older t ≡ locked_as s (lock_answer m client h)
      → OneOf h (λ holder. older_than holder ≡ true)
  older-of t None e = absurd cc
  older-of t (Some holder) e = (holder, refl, older_told t (holder == client) (older_than holder) (ticket_at m holder) e)

  pub younger-of : (t : Ticket) (h : Option ℕ) → answer.Younger t ≡ locked_as s (lock_answer m client h)
      → OneOf h (λ holder. ((holder == client) ≡ false) × (older_than holder ≡ false))
  younger-of t None e = absurd cc
  younger-of t (Some holder) e = (holder, refl, younger_told t (holder == client) (older_than holder) (ticket_at m holder) e)

  pub held-of : (t : Ticket) (h : Option ℕ) → answer.Held t ≡ locked_as s (lock_answer m client h) → ⊥
  held-of t None e = absurd cc
  held-of t (Some holder) e = held_told t (holder == client) (older_than holder) (ticket_at m holder) e

and-no : (b : Bool) → (b && false) ≡ false
and-no true = refl
and-no false = refl

-- A client that takes locks for a request, with look-ups of its labels

pub record TakesFor (script : Script) (p : DevicePass) (kept : Findings) (ticket : Ticket) (request : Request) (used : List (ℕ × Look)) :
    Type 0 where
  pub ready : IsReady script p kept
  pub taking : doing_at (machine (run_seen script p)) p.rank ≡ doing.Taking ticket
  pub at : request_at script (machine (run_seen script p)) p.rank ≡ Some request
  pub has : kept.looks ≡ Some used

module _ (script : Script) (p q : DevicePass) (kept : Findings) (ticket : Ticket) (request : Request) (used : List (ℕ × Look))
    (c : TakesFor script p kept ticket request used) where
  -- what it asks for, where the client is found so
  abbrev pub asks_at : (r : Run) (asks : Move) → r.script ≡ script → request_at r.script (machine r) p.rank ≡ Some request
      → AreLookedUp r p.rank used
      → IsMove script.topology request used kept.states asks → AsksNext p.seen r p.rank kept used
  asks_at r asks same at looked is_move = record {
    request = request;
    at = at;
    uses = record {
      looked = looked;
      same = λ looks is. some_in used looks (sym c.has ∙ is);
      made = λ none. (let both : Some used ≡ None = sym c.has ∙ none in absurd cc);
    };
    asks = asks;
    is_move = subst (λ (s : Script). IsMove s.topology request used kept.states asks) (sym same) is_move;
  }

  -- in what a turn found
  module _ (says : Run → Type 0) (xs : List Step) (t : DeviceTurn script says xs p q) where
    pub looked_found : AreLookedUp t.found p.rank used
    looked_found = (serves_found script p t.found t.finds kept c.ready.serves).looks used c.has

    pub taking_found : doing_at (machine t.found) p.rank ≡ doing.Taking ticket
    taking_found = ap (λ (z : Place). z.doing) (found-place script says xs p q t) ∙ c.taking

    abbrev pub asks_found : (asks : Move) → IsMove script.topology request used kept.states asks → AsksNext p.seen t.found p.rank kept used
    asks_found asks is_move = asks_at t.found asks t.finds.same (request-found script p t.found t.finds ∙ c.at) looked_found is_move

    -- the step of a move comes next
    pub comes_found : (asks : Move) → IsMove script.topology request used kept.states asks
        → ComesNext p.seen t.found p.rank kept used (step_of_move t.found p.rank request asks)
    comes_found asks is_move =
        subst (λ d. ComesNextAt d p.seen t.found p.rank kept used (step_of_move t.found p.rank request asks)) (sym taking_found)
        (record { move = asks_found asks is_move; next_is = refl })

    -- what is asked for in vain
    pub waits_found : (asks : Move) → IsMove script.topology request used kept.states asks → IsInVain t.found p.rank used asks
        → WaitsAt (doing_at (machine t.found) p.rank) p.seen t.found p.rank kept used (step_of_move t.found p.rank request asks)
    waits_found asks is_move in_vain =
        subst (λ d. WaitsAt d p.seen t.found p.rank kept used (step_of_move t.found p.rank request asks)) (sym taking_found)
        (record { comes = record { move = asks_found asks is_move; next_is = refl }; in_vain = in_vain })

  -- after a turn that added nothing
  pub comes_after : (says : Run → Type 0) (asks : Move) (t : DeviceTurn script says [] p q)
      → IsMove script.topology request used kept.states asks
      → ComesNext p.seen (run_seen script q) p.rank kept used (step_of_move (run_seen script q) p.rank request asks)
  comes_after says asks t is_move =
      subst (λ r. ComesNext p.seen r p.rank kept used (step_of_move r p.rank request asks)) (sym (found-is script says p q t))
      (comes_found says [] t asks is_move)

  module _ (id : ObjId) (asks : AsksFor script.topology request used kept.states id) (is_id : first_id (kind_of id.0) ≤ id.0)
      (absent : is_duplicated kept.states id.0 ≡ false)
      (room : (r : Run) → may_duplicate kept.states id.0 (present_state r id) ≡ true) where
    object-is : object_id (kind_of id.0) (index_of id.0) ≡ id.0
    object-is = omega (arith, is_id)

    -- what is kept behind the step, by the object's id
    lock_states : (r : Run) → states_after r p.rank kept.states (lock_step p.rank id.0)
        ≡ (if is_none (holder_at (machine r) id.0) then taken_in kept.states id.0 (present_state r id) else kept.states)
    lock_states r = ap (λ o. if is_none (holder_at (machine r) o) then taken_in kept.states o (present_state r (record { 0 = o }))
        else kept.states) object-is

    module _ (a : Locked) where
      abbrev Says : Run → Type 0
      Says found = a ≡ locked_answer found p.rank id

      -- one that a younger context holds cannot be had
      no_lock : (t : DeviceTurn script Says [] p q)
          → OneOf (holder_at (machine t.found) id.0)
          (λ holder. ((holder == p.rank) ≡ false) × (nat_lt (ticket_at (machine t.found) holder).0 (ticket_at (machine t.found) p.rank).0
          ≡ false))
          → legal t.found.script (machine t.found) (lock_step p.rank id.0) ≡ false
      unfolding legal may may_lock
      no_lock t younger =
          ap (λ s. legal s (machine t.found) (lock_step p.rank id.0)) t.finds.same
          ∙ (ap (λ b. not (machine t.found).stalled && (is_lockable script.topology (kind_of id.0) (index_of id.0)
          && (taking_at script (machine t.found) p.rank
          (λ r. reaches script.topology (machine t.found).device.world r (object_id (kind_of id.0) (index_of id.0))) && b)))
          (ap (λ o. is_free_or_older (machine t.found) (ticket_of (doing_at (machine t.found) p.rank)) (holder_at (machine t.found) o))
          object-is
          ∙ (ap (is_free_or_older (machine t.found) (ticket_of (doing_at (machine t.found) p.rank))) younger.1 ∙ younger.2.1))
          ∙ (ap (λ b. not (machine t.found).stalled && (is_lockable script.topology (kind_of id.0) (index_of id.0) && b)) (and-no _)
          ∙ (ap (λ b. not (machine t.found).stalled && b) (and-no _) ∙ and-no _)))

    pub locked : (a : Locked) → DeviceTurn script (λ found. a ≡ locked_answer found p.rank id) (lock_steps p.rank id a) p q
        → DidAndKeeps script p kept q (attempted_of (length q.seen) a) (kept_of id a kept)
    unfolding next
    locked (answer.Got s) t =
        subst (λ x. DidAndKeeps script p kept q attempted.Did (with_state kept id x)) (sym got.1)
        (stepped_on script (Says (answer.Got s)) p q kept c.ready (lock_step p.rank id.0) refl t
        (with_state kept id (present_state t.found id)) used c.has
        (sym (lock_states t.found ∙ ap (λ o. if is_none o then taken_in kept.states id.0 (present_state t.found id) else kept.states)
        got.0))
        (comes_found (Says (answer.Got s)) (lock_step p.rank id.0 ∷ []) t (move.Lock id) asks)
        (ap (λ (m : Machine). m.records.replies) taken) (ap (λ m. (place_at m p.rank).command) taken)
        (ap (λ m. returning_of (doing_at m p.rank)) taken ∙ ap returning_of there)
        (serves-taken script p q kept c.ready (Says (answer.Got s)) (lock_step p.rank id.0) refl t id
        (ap (λ (m : Machine). m.device.world) taken)
        (λ other held. ap (λ m. holds m p.rank other) taken ∙ still_held (machine t.found) p.rank id.0 other held)
        (ap (λ m. (place_at m p.rank).command) taken)
        (ap (λ m. holds m p.rank id.0) taken ∙ now_held (machine t.found) p.rank id.0)))
      where
        there : doing_at (machine t.found) p.rank ≡ doing.Taking ticket
        there = doing-found script (Says (answer.Got s)) p q kept c.ready (lock_step p.rank id.0) refl t ∙ c.taking

        got : (holder_at (machine t.found) id.0 ≡ None) × (s ≡ present_state t.found id)
        got = got-of (machine t.found) p.rank (present_state t.found id) s (holder_at (machine t.found) id.0) t.said

        taken : next script (machine t.found) (lock_step p.rank id.0) ≡ put_lock (machine t.found) id.0 (Some p.rank)
        taken = ap (λ o. effects.locked (machine t.found) p.rank o (holder_at (machine t.found) o)) object-is ∙ ap
            (effects.locked (machine t.found) p.rank id.0) got.0
    locked (answer.Older h) t =
        stepped_on script (Says (answer.Older h)) p q kept c.ready (lock_step p.rank id.0) refl t kept used c.has
        (sym (lock_states t.found ∙ ap (λ o. if is_none o then taken_in kept.states id.0 (present_state t.found id) else kept.states)
        older.1))
        (comes_found (Says (answer.Older h)) (lock_step p.rank id.0 ∷ []) t (move.Lock id) asks)
        (ap (λ (m : Machine). m.records.replies) meets) command
        (ap (λ m. returning_of (doing_at m p.rank)) meets ∙ ap (λ (z : Place). returning_of z.doing) place)
        (serves-next script (Says (answer.Older h)) p q kept c.ready (lock_step p.rank id.0) refl t
        (ap (λ (m : Machine). m.device.world) meets) (λ other held. ap (λ m. holds m p.rank other) meets ∙ held) command)
      where
        older : OneOf (holder_at (machine t.found) id.0)
            (λ holder. nat_lt (ticket_at (machine t.found) holder).0 (ticket_at (machine t.found) p.rank).0 ≡ true)
        older = older-of (machine t.found) p.rank (present_state t.found id) h (holder_at (machine t.found) id.0) t.said

        meets : next script (machine t.found) (lock_step p.rank id.0)
            ≡ now_doing (machine t.found) p.rank (doing.MustBackOff (record { 0 = ticket_of (doing_at (machine t.found) p.rank) })
            (obj_id id.0))
        meets = ap (λ o. effects.locked (machine t.found) p.rank o (holder_at (machine t.found) o)) object-is ∙ ap
            (effects.locked (machine t.found) p.rank id.0) older.1

        place : place_at (now_doing (machine t.found) p.rank
            (doing.MustBackOff (record { 0 = ticket_of (doing_at (machine t.found) p.rank) }) (obj_id id.0))) p.rank
            ≡ record {
              command = (place_at (machine t.found) p.rank).command;
              doing = doing.MustBackOff
                  (record { 0 = ticket_of (doing_at (machine t.found) p.rank) }) (obj_id id.0);
            }
        place = place-now (machine t.found) p.rank (doing.MustBackOff (record { 0 = ticket_of (doing_at (machine t.found) p.rank) })
            (obj_id id.0))

        command : (place_at (next script (machine t.found) (lock_step p.rank id.0)) p.rank).command
            ≡ (place_at (machine t.found) p.rank).command
        command = ap (λ m. (place_at m p.rank).command) meets ∙ ap (λ (z : Place). z.command) place
    locked (answer.Younger h) t =
        waits_for script (Says (answer.Younger h)) p q kept c.ready t used (lock_step p.rank id.0) c.has
        (waits_found (Says (answer.Younger h)) [] t (move.Lock id) asks (ap (has_value p.rank) younger.1 ∙ younger.2.0))
        (no_lock (answer.Younger h) t younger)
      where
        younger : OneOf (holder_at (machine t.found) id.0)
            (λ holder. ((holder == p.rank) ≡ false) × (nat_lt (ticket_at (machine t.found) holder).0 (ticket_at (machine t.found) p.rank).0
            ≡ false))
        younger = younger-of (machine t.found) p.rank (present_state t.found id) h (holder_at (machine t.found) id.0) t.said
    locked (answer.Own s) t =
        subst (λ x. DidAndKeeps script p kept q attempted.Did (with_state kept id x))
        (sym (own.1 ∙ ap (λ (r : Run). present_state r id) (sym same)))
        (record {
          is_attempt = inr (inl (record {
            went = went_on script (Says (answer.Own s)) p q kept c.ready t;
            object = id;
            finds = subst (FindsRequest script p.rank p) (sym same) (finds_request script (Says (answer.Own s)) [] p q t);
            used = used;
            looks = c.has;
            comes = comes_after (Says (answer.Own s)) (move.Lock id) t asks;
            held = held;
            lacked = absent;
            has = ap (λ b. if b then duplicated kept.states id.0 (present_state (run_seen script q) id) else kept.states)
                (room (run_seen script q));
          }));
          goes_on = stays_after script (Says (answer.Own s)) p q kept c.ready t;
          serves = serves_more (run_seen script q) p.rank kept id held object.can_lock is_id
              (serves_after script (Says (answer.Own s)) p q kept c.ready t);
        })
      where
        same : run_seen script q ≡ t.found
        same = found-is script (Says (answer.Own s)) p q t

        own : (has_value p.rank (holder_at (machine t.found) id.0) ≡ true) × (s ≡ present_state t.found id)
        own = own-of (machine t.found) p.rank (present_state t.found id) s (holder_at (machine t.found) id.0) t.said

        held : holds (machine (run_seen script q)) p.rank id.0 ≡ true
        held = ap (λ (r : Run). holds (machine r) p.rank id.0) same ∙ own.0

        object : IsLockableId script.topology id.0
        object = held_object (run_seen script q) p.rank id.0 (open-after script (Says (answer.Own s)) [] p q t) held
    locked (answer.Held h) t = absurd (held-of (machine t.found) p.rank (present_state t.found id) h (holder_at (machine t.found) id.0)
        t.said)

    -- where the client stands then
    pub locked_at : (place : Place) → StandsAt (run_seen script p) p.rank place → (a : Locked)
        → DeviceTurn script (λ found. a ≡ locked_answer found p.rank id) (lock_steps p.rank id a) p q
        → StandsAt (run_seen script q) p.rank (record place { doing = doing_of ticket id a place.doing })
    unfolding next
    locked_at place stands (answer.Got s) t =
        stands_next script (Says (answer.Got s)) p q place stands (lock_step p.rank id.0) t (doing.Taking ticket)
        (ap (λ m. place_at m p.rank) taken ∙ ap {B = Place}
        (λ d. record { command = (place_at (machine t.found) p.rank).command; doing = d }) there)
      where
        there : doing_at (machine t.found) p.rank ≡ doing.Taking ticket
        there = doing-found script (Says (answer.Got s)) p q kept c.ready (lock_step p.rank id.0) refl t ∙ c.taking

        got : (holder_at (machine t.found) id.0 ≡ None) × (s ≡ present_state t.found id)
        got = got-of (machine t.found) p.rank (present_state t.found id) s (holder_at (machine t.found) id.0) t.said

        taken : next script (machine t.found) (lock_step p.rank id.0) ≡ put_lock (machine t.found) id.0 (Some p.rank)
        taken = ap (λ o. effects.locked (machine t.found) p.rank o (holder_at (machine t.found) o)) object-is ∙ ap
            (effects.locked (machine t.found) p.rank id.0) got.0
    locked_at place stands (answer.Older h) t =
        stands_next script (Says (answer.Older h)) p q place stands (lock_step p.rank id.0) t (doing.MustBackOff ticket id)
        (ap (λ m. place_at m p.rank) meets
        ∙ (place-now (machine t.found) p.rank (doing.MustBackOff (record { 0 = ticket_of (doing_at (machine t.found) p.rank) })
        (obj_id id.0))
        ∙ ap {B = Place} (λ d. record {
          command = (place_at (machine t.found) p.rank).command;
          doing = doing.MustBackOff
              (record { 0 = ticket_of d }) id;
        }) there))
      where
        there : doing_at (machine t.found) p.rank ≡ doing.Taking ticket
        there = doing-found script (Says (answer.Older h)) p q kept c.ready (lock_step p.rank id.0) refl t ∙ c.taking

        older : OneOf (holder_at (machine t.found) id.0)
            (λ holder. nat_lt (ticket_at (machine t.found) holder).0 (ticket_at (machine t.found) p.rank).0 ≡ true)
        older = older-of (machine t.found) p.rank (present_state t.found id) h (holder_at (machine t.found) id.0) t.said

        meets : next script (machine t.found) (lock_step p.rank id.0)
            ≡ now_doing (machine t.found) p.rank (doing.MustBackOff (record { 0 = ticket_of (doing_at (machine t.found) p.rank) })
            (obj_id id.0))
        meets = ap (λ o. effects.locked (machine t.found) p.rank o (holder_at (machine t.found) o)) object-is ∙ ap
            (effects.locked (machine t.found) p.rank id.0) older.1
    locked_at place stands (answer.Own s) t = stands_still script (Says (answer.Own s)) p q place stands t
    locked_at place stands (answer.Younger h) t = stands_still script (Says (answer.Younger h)) p q place stands t
    locked_at place stands (answer.Held h) t = stands_still script (Says (answer.Held h)) p q place stands t
