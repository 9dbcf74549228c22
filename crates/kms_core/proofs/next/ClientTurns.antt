-- The next step of a client in the order of one thread.
use Rattle.std.proofs.Common.{◌≡◌, ℕ, ◌≤◌, Bool, true, false, List, length, cond, Option, Some, None, refl, sym, ap, ◌∙◌, arith, ⊎_elim}
use Rattle.std.specs.Prelude.{◌&&◌, find, not}
use Rattle.std.specs.Option.{option_and_then, option_map}
use Rattle.std.proofs.lemmas.Bool.{and_left, cases_Bool, false≢true}
use Rattle.kms_model.specs.declared.replies.Step.{Step}
use Rattle.kms_model.specs.declared.replies.Step.TheVariants as step
use Rattle.kms_model.specs.declared.runs.Doing.{Doing}
use Rattle.kms_model.specs.declared.runs.Doing.TheVariants as doing
use Rattle.kms_model.specs.declared.scripts.Command.{Command}
use Rattle.kms_model.specs.declared.scripts.Request.{Request}
use Rattle.kms_model.specs.declared.scripts.Script.{Script}
use Rattle.kms_model.specs.Firsts.{or_else}
use Rattle.kms_model.specs.Machine.Histories.{is_at_end, legal}
use Rattle.kms_model.specs.Machine.State.{Machine, doing_at, request_at, request_in}
use Rattle.kms_model.specs.Machine.Steps.{contended, idle_at, is_atomic, is_free_for, is_idle, is_making, is_signal, is_taking, is_wait}
use Rattle.kms_model.specs.Machine.Steps.{may, may_lock, must_back_off, taking_at}
use Rattle.kms_model.specs.Order.Turns.{client_step, first_missing, lock_step, next_lock}
use Rattle.kms_model.specs.Request.Reach.{reaches}
use Rattle.kms_model.proofs.Guards.{end_guards}
use Rattle.kms_model.proofs.Items.{or_else-nones}
use Rattle.kms_laws.proofs.Headlines.{range-in}
use Rattle.kms_laws.proofs.Quiet.{find-none, unable-quiet}
use Rattle.kms_core.specs.Judging.{request_taken}
use Rattle.kms_core.specs.Calls.{only_if}
use Rattle.kms_core.specs.Run.{Run, machine}
use Rattle.kms_core.specs.Stands.{Stores, Stands}
use Rattle.kms_core.proofs.next.JudgedRequests.{no_refuse, no_swap, no_test}
use Rattle.kms_core.proofs.next.Movers.{able}
use Rattle.kms_core.proofs.next.TailTurns.{ended_unable}
use Rattle.kms_core.proofs.next.Taken.{taken_parts}

-- the first of the steps of a client but for its locks, by what may be done
abbrev tried_by : ℕ → (refuse test swap begin make signal read back relock : Bool) → Option Step
tried_by client refuse test swap begin make signal read back relock =
    cond refuse (Some (step.Refuse client))
    (cond test (Some (step.Test client))
    (cond swap (Some (step.Swap client))
    (cond begin (Some (step.Begin client))
    (cond make (Some (step.Make client))
    (cond signal (Some (step.Signal client)) (cond read (Some (step.Read client))
    (cond back (Some (step.BackOff client)) (cond relock (Some (step.Relock client)) None))))))))

-- What a client does

taking_others : (d : Doing) → is_taking d ≡ true → ((is_idle d ≡ false) × (must_back_off d ≡ false)) × (contended d ≡ None)
taking_others doing.Idle is = absurd (false≢true is)
taking_others (doing.Taking ticket) is = ((refl, refl), refl)
taking_others (doing.MustBackOff ticket object) is = absurd (false≢true is)
taking_others (doing.BackedOff ticket object) is = absurd (false≢true is)
taking_others (doing.Returning k) is = absurd (false≢true is)

module _ (v : Run) (client : ℕ) where
  -- the lock that a client takes next
  abbrev pub lock : Option Step
  lock = option_map (lock_step client) (option_and_then (next_lock v.script (machine v) client) (request_at v.script (machine v) client))

  -- A client that takes no locks

  taking_off : (test : Request → Bool) → is_taking (doing_at (machine v) client) ≡ false → taking_at v.script (machine v) client test
      ≡ false
  taking_off test off = rw off refl

  no_find : (xs : List ℕ) → is_taking (doing_at (machine v) client) ≡ false → find (may_lock v.script (machine v) client) xs ≡ None
  unfolding may_lock
  no_find xs off =
      find-none (may_lock v.script (machine v) client) xs
      (λ object is. and_left _ _ (taking_off (λ q. reaches v.script.topology (machine v).device.world q object) off))

  no_lock : is_taking (doing_at (machine v) client) ≡ false → None ≡ lock
  unfolding next_lock
  no_lock off = sym (by_request (request_at v.script (machine v) client)) where
    by_request : (o : Option Request) → option_map (lock_step client) (option_and_then (next_lock v.script (machine v) client) o) ≡ None
    by_request None = refl
    by_request (Some r) = ap (option_map (lock_step client))
        (or_else-nones (find (may_lock v.script (machine v) client) (first_missing v.script.topology (machine v) client r)) _
        (no_find _ off) (no_find _ off))

  -- by whether the history was ended
  abbrev by_end : Bool → Option Step
  by_end ended =
      or_else
      (tried_by client (not ended && able v (step.Refuse client)) (not ended && able v (step.Test client))
      (not ended && able v (step.Swap client)) (not ended && able v (step.Begin client)) (not ended && able v (step.Make client))
      (not ended && able v (step.Signal client)) (not ended && able v (step.Read client)) (not ended && able v (step.BackOff client))
      (not ended && able v (step.Relock client)))
      lock

  end_told : (ended : Bool) → (machine v).stalled ≡ ended → client_step v.script (machine v) client ≡ by_end ended
  unfolding client_step legal
  end_told ended is = ap by_end is

  module _ (going : (machine v).stalled ≡ false) where
    steps_told : {refuse test swap begin make signal read back relock : Bool} → refuse ≡ able v (step.Refuse client) → test
        ≡ able v (step.Test client) → swap ≡ able v (step.Swap client)
        → begin ≡ able v (step.Begin client) → make ≡ able v (step.Make client) → signal ≡ able v (step.Signal client) → read
        ≡ able v (step.Read client) → back ≡ able v (step.BackOff client) → relock ≡ able v (step.Relock client)
        → or_else (tried_by client refuse test swap begin make signal read back relock) lock ≡ client_step v.script (machine v) client
    steps_told a b c d e f g h k =
        (λ i. or_else (tried_by client (a i) (b i) (c i) (d i) (e i) (f i) (g i) (h i) (k i)) lock) ∙ sym (end_told false going)

    -- A client that takes locks for no request

    pub other_told : None ≡ request_taken v.script (machine v) client → {begin : Bool} (make signal read back relock : Bool)
        → begin ≡ able v (step.Begin client) → make ≡ able v (step.Make client) → signal ≡ able v (step.Signal client) → read
        ≡ able v (step.Read client) → back ≡ able v (step.BackOff client) → relock ≡ able v (step.Relock client)
        → or_else (tried_by client false false false begin make signal read back relock) lock ≡ client_step v.script (machine v) client
    other_told none {begin} make signal read back relock =
        steps_told (no_refuse v.script (machine v) client none)
        (no_test v.script (machine v) client none) (no_swap v.script (machine v) client none)

    -- A client that takes locks for one

    idle_off : (test : Command → Bool) → is_idle (doing_at (machine v) client) ≡ false → idle_at v.script (machine v) client test ≡ false
    idle_off test off = rw off refl

    pub taking_told : {request : Request} → Some request ≡ request_taken v.script (machine v) client → {refuse : Bool} (test swap : Bool) →
        refuse
        ≡ able v (step.Refuse client) → test ≡ able v (step.Test client) → swap ≡ able v (step.Swap client)
        → or_else (tried_by client refuse test swap false false false false false false) lock ≡ client_step v.script (machine v) client
    unfolding may
    taking_told taken {refuse} test swap a b c =
        let others = taking_others (doing_at (machine v) client) (taken_parts v.script (machine v) client taken).taking in
        let idle = others.0.0 in
        steps_told a b c (sym (idle_off is_atomic idle))
        (sym (idle_off is_making idle)) (sym (idle_off is_signal idle))
        (sym (and_left (idle_at v.script (machine v) client is_wait) _ (idle_off is_wait idle))) (sym others.0.1)
        (sym (ap (is_free_for (machine v)) others.1))

  -- the request for which it takes them
  pub lock_none : None ≡ request_taken v.script (machine v) client → None ≡ lock
  lock_none none = by (is_taking (doing_at (machine v) client)) refl none where
    by : (b : Bool) → is_taking (doing_at (machine v) client) ≡ b → None ≡ only_if b (request_at v.script (machine v) client) → None ≡ lock
    by true taking is = ap (λ (o : Option Request). option_map (lock_step client)
        (option_and_then (next_lock v.script (machine v) client) o)) is
    by false off is = no_lock off

  pub lock_some : {request : Request} → Some request ≡ request_taken v.script (machine v) client
      → option_map (lock_step client) (next_lock v.script (machine v) client request) ≡ lock
  lock_some is =
      ap (λ (o : Option Request). option_map (lock_step client) (option_and_then (next_lock v.script (machine v) client) o))
      (sym (taken_parts v.script (machine v) client is).at)

-- Where the history was ended

no_request : (s : Script) (m : Machine) (client : ℕ) → is_at_end s m client ≡ true → request_at s m client ≡ None
no_request s m client ends = ap request_in (end_guards s m client ends).ended

pub client_ended : {r : Run} {st : Stores} (client : ℕ) → Stands r st → st.stalled ≡ true → 1 ≤ client → client
    ≤ length r.script.clients → None ≡ client_step r.script (machine r) client
client_ended {r} {st} client stands is low high =
    let ended : (machine r).stalled ≡ true = stands.stores.ended ∙ is in
    sym
    (⊎_elim
    (λ ends. end_told r client true ended ∙ ap (λ (o : Option Request). option_map (lock_step client)
    (option_and_then (next_lock r.script (machine r) client) o)) (no_request r.script (machine r) client ends))
    (λ running. (unable-quiet r.script (machine r) (ended_unable stands ended)).clients client
    (range-in 1 (length r.script.clients) client low (omega (arith, high))) running)
    (cases_Bool (is_at_end r.script (machine r) client)))
