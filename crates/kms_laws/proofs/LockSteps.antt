-- What each step leaves of contexts.
use Rattle.std.proofs.Common.{◌≡◌, ℕ, suc, ◌+◌, ◌<◌, ◌≤◌, List, ◌∷◌, length, Bool, true, false, Option, Some, None, refl, sym, ap, ◌∙◌}
use Rattle.std.proofs.Common.{subst, arith, ⊎_elim}
use Rattle.std.specs.Prelude.{is_some}
use Rattle.std.proofs.lemmas.Bool.{cases_eq, false≢true, ltb-true}
use Rattle.kms_model.specs.declared.objects.Kind.{Kind}
use Rattle.kms_model.specs.declared.objects.Kind.TheVariants.{Crtc, Plane, Conn, Enc}
use Rattle.kms_model.specs.declared.objects.Topology.{Topology}
use Rattle.kms_model.specs.declared.replies.Step.{Step}
use Rattle.kms_model.specs.declared.runs.Doing.{Doing}
use Rattle.kms_model.specs.declared.runs.Doing.TheVariants as doing
use Rattle.kms_model.specs.declared.runs.Place.{Place}
use Rattle.kms_model.specs.declared.scripts.Command.{Command}
use Rattle.kms_model.specs.declared.scripts.Command.TheVariants as command
use Rattle.kms_model.specs.declared.scripts.Request.{Request}
use Rattle.kms_model.specs.declared.scripts.Script.{Script}
use Rattle.kms_model.specs.Device.Execution.{execute}
use Rattle.kms_model.specs.Device.Objects.{count_of, ids_of, object_id}
use Rattle.kms_model.specs.Machine.Commits.{lockable}
use Rattle.kms_model.specs.Machine.Effects.{answers, backed_off, dropped, drops_locks, goes_on, next, now_doing, relocked, signals}
use Rattle.kms_model.specs.Machine.Histories.{legal}
use Rattle.kms_model.specs.Machine.Registers.{read}
use Rattle.kms_model.specs.Machine.State.{Contexts, Machine, command_at, doing_at, first_machine, place_at, request_in}
use Rattle.kms_model.specs.Machine.Steps.{contended, is_atomic, is_idle, is_lockable, is_taking, may_lock, must_back_off, returning_of}
use Rattle.kms_model.specs.Machine.Steps.{ticket_of}
use Rattle.kms_model.specs.Request.Sets.{obj_id}
use Rattle.kms_model.proofs.Guards.{lock_guards}
use Rattle.kms_model.proofs.Items.{IsIn, ids-has}
use Rattle.kms_laws.specs.Laws.{has_context}
use Rattle.kms_laws.proofs.Basics.{both_bools, in_left, in_right, read_other, read_same}
use Rattle.kms_laws.proofs.Contexts.{asked_of, HasRequest, LocksStand, doing_in, dropped-other, dropped-own, holder_in, may_hold, moved}
use Rattle.kms_laws.proofs.Contexts.{place_in}
use Rattle.kms_laws.proofs.EachStep.{Carries, by_bool, by_fence, by_two, each_step, made_as, swapped_as, tails_leave}

abbrev pub HasLocks : Script → Machine → Type 0
HasLocks s m = LocksStand s m.contexts (length m.device.commits)

asked-ticket : (d : Doing) (object : ℕ) → asked_of d ≡ Some object → has_context d ≡ true
asked-ticket (doing.MustBackOff ticket o) object e = refl
asked-ticket (doing.BackedOff ticket o) object e = refl
asked-ticket (doing.Taking ticket) object e = absurd cc
asked-ticket doing.Idle object e = absurd cc
asked-ticket (doing.Returning k) object e = absurd cc

-- an object that a step may lock has a lock
pub lockable-has : (t : Topology) (kind : Kind) (index : ℕ) → is_lockable t kind index ≡ true → IsIn (object_id kind index) (lockable t)
lockable-has t Crtc index h = in_left (ids_of t Crtc) _ (object_id Crtc index) (ids-has t Crtc index (ltb-true index (count_of t Crtc) h))
lockable-has t Plane index h = in_right (ids_of t Crtc) _ (object_id Plane index)
    (in_left (ids_of t Plane) (ids_of t Conn) (object_id Plane index) (ids-has t Plane index (ltb-true index (count_of t Plane) h)))
lockable-has t Conn index h = in_right (ids_of t Crtc) _ (object_id Conn index)
    (in_right (ids_of t Plane) (ids_of t Conn) (object_id Conn index) (ids-has t Conn index (ltb-true index (count_of t Conn) h)))
lockable-has t Enc index h = absurd (false≢true h)

module _ (s : Script) (x : Contexts) (n : ℕ) (L : LocksStand s x n) (client : ℕ) where
  -- a client that drops its locks and goes where it has no ticket
  leaves : (place : Place) (m : ℕ) → n ≤ m → has_context place.doing ≡ false → ((k : ℕ) → place.doing ≡ doing.Returning k → k < m)
      → LocksStand s (record { places = (client, place) ∷ x.places; locks = dropped client x.locks; tickets = x.tickets }) m
  leaves place m l none back =
      moved s x n L client place (dropped client x.locks) x.tickets m (omega arith) l
      (λ object e. absurd (dropped-own client x.locks object e))
      (λ object a ne e. dropped-other client x.locks object a e)
      (λ t. absurd (both_bools _ t none)) back
      (λ object e. absurd (dropped-own client x.locks object e))
      (λ object e. absurd (both_bools _ (asked-ticket place.doing object e) none))

  -- a client that holds nothing goes where it has no ticket
  goes : (place : Place) → may_hold (doing_in x client) ≡ false → has_context place.doing ≡ false
      → ((k : ℕ) → place.doing ≡ doing.Returning k → k < n)
      → LocksStand s (record { places = (client, place) ∷ x.places; locks = x.locks; tickets = x.tickets }) n
  goes place free none back =
      moved s x n L client place x.locks x.tickets n (omega arith) (omega arith)
      (λ object e. absurd (both_bools _ (L.holders object client e) free))
      (λ object a ne e. e)
      (λ t. absurd (both_bools _ t none)) back
      (λ object e. L.held_there object client e)
      (λ object e. absurd (both_bools _ (asked-ticket place.doing object e) none))

  -- a client with a ticket stays at its command and keeps its ticket
  stays : (d : Doing) (locks : List (ℕ × Option ℕ)) → has_context (doing_in x client) ≡ true → ticket_of d ≡ ticket_of (doing_in x client)
      → ((k : ℕ) → d ≡ doing.Returning k → k < n)
      → ((object : ℕ) → read None locks object ≡ Some client → may_hold d ≡ true)
      → ((object a : ℕ) → (client ≡ a → ⊥) → read None locks object ≡ Some a → holder_in x object ≡ Some a)
      → ((object : ℕ) → read None locks object ≡ Some client → IsIn object (lockable s.topology))
      → ((object : ℕ) → asked_of d ≡ Some object → IsIn object (lockable s.topology))
      → LocksStand s (record {
        places = (client, record { command = (place_in x client).command; doing = d })
            ∷ x.places;
        locks = locks;
        tickets = x.tickets;
      }) n
  stays d locks t same back here there held_own asked_own =
      moved s x n L client (record { command = (place_in x client).command; doing = d }) locks x.tickets n (omega arith) (omega arith) here
      there
      (λ td. record {
        low = (let l = L.below client t in let e : ticket_of d ≡ ticket_of (doing_in x client) = same in omega arith);
        own = λ a ne ta e. ne (sym (L.unique a client ta t (e ∙ same)));
        request = (let q = L.atomic client t in record { request = q.request; at = q.at });
      })
      back held_own asked_own

  -- a client begins
  begins : may_hold (doing_in x client) ≡ false → HasRequest s client (place_in x client)
      → LocksStand s (record {
        places = (
          client,
          record {
            command = (place_in x client).command;
            doing = doing.Taking
                (record { 0 = x.tickets });
          },
        ) ∷ x.places;
        locks = x.locks;
        tickets = x.tickets + 1;
      }) n
  begins free q =
      moved s x n L client (record { command = (place_in x client).command; doing = doing.Taking (record { 0 = x.tickets }) }) x.locks
      (x.tickets + 1) n (omega arith) (omega arith)
      (λ object e. absurd (both_bools _ (L.holders object client e) free))
      (λ object a ne e. e)
      (λ t. record {
        low = omega arith;
        own = λ a ne ta e.
            (let l = L.below a ta in let e2 : ticket_of (doing_in x a) ≡ x.tickets = e in absurd (omega arith));
        request =
            record { request = q.request; at = q.at };
      })
      (λ k e. absurd cc)
      (λ object e. L.held_there object client e)
      (λ object e. absurd cc)

  -- a client that may hold locks takes one more
  takes : (object : ℕ) → may_hold (doing_in x client) ≡ true → IsIn object (lockable s.topology)
      → LocksStand s (record x { locks = (object, Some client) ∷ x.locks }) n
  takes object free is_there = record {
    holders = λ o a e.
        ⊎_elim
        (λ (same : object ≡ o).
        let is : Some client ≡ Some a = sym (read_same None x.locks object (Some client)) ∙ ap (read None ((object, Some client) ∷ x.locks))
        same ∙ e in
        let ca : client ≡ a = cc in
        ap (λ z. may_hold (doing_in x z)) (sym ca) ∙ free)
        (λ ne. L.holders o a (sym (read_other None x.locks object o (Some client) ne) ∙ e))
        (cases_eq object o);
    unique = L.unique;
    below = L.below;
    atomic = L.atomic;
    returning = L.returning;
    held_there = λ o a e.
        ⊎_elim
        (λ (same : object ≡ o). subst (λ z. IsIn z (lockable s.topology)) same is_there)
        (λ ne. L.held_there o a (sym (read_other None x.locks object o (Some client) ne) ∙ e))
        (cases_eq object o);
    asked_there = L.asked_there;
  }

idle-free : (d : Doing) → is_idle d ≡ true → may_hold d ≡ false
idle-free doing.Idle h = refl
idle-free (doing.Taking ticket) h = absurd (false≢true h)
idle-free (doing.MustBackOff ticket object) h = absurd (false≢true h)
idle-free (doing.BackedOff ticket object) h = absurd (false≢true h)
idle-free (doing.Returning k) h = absurd (false≢true h)

returning-free : (d : Doing) → is_some (returning_of d) ≡ true → may_hold d ≡ false
returning-free (doing.Returning k) h = refl
returning-free doing.Idle h = absurd (false≢true h)
returning-free (doing.Taking ticket) h = absurd (false≢true h)
returning-free (doing.MustBackOff ticket object) h = absurd (false≢true h)
returning-free (doing.BackedOff ticket object) h = absurd (false≢true h)

taking-holds : (d : Doing) → is_taking d ≡ true → (may_hold d ≡ true) × (has_context d ≡ true)
taking-holds (doing.Taking ticket) h = (refl, refl)
taking-holds doing.Idle h = absurd (false≢true h)
taking-holds (doing.MustBackOff ticket object) h = absurd (false≢true h)
taking-holds (doing.BackedOff ticket object) h = absurd (false≢true h)
taking-holds (doing.Returning k) h = absurd (false≢true h)

back-asked : (d : Doing) → must_back_off d ≡ true → asked_of (backed_off d) ≡ asked_of d
back-asked (doing.MustBackOff ticket object) h = refl
back-asked doing.Idle h = absurd (false≢true h)
back-asked (doing.Taking ticket) h = absurd (false≢true h)
back-asked (doing.BackedOff ticket object) h = absurd (false≢true h)
back-asked (doing.Returning k) h = absurd (false≢true h)

pub contended-asked : (d : Doing) (object : ℕ) → contended d ≡ Some object → asked_of d ≡ Some object
contended-asked (doing.BackedOff ticket o) object e = e
contended-asked doing.Idle object e = absurd cc
contended-asked (doing.Taking ticket) object e = absurd cc
contended-asked (doing.MustBackOff ticket o) object e = absurd cc
contended-asked (doing.Returning k) object e = absurd cc

back-facts : (d : Doing) → must_back_off d ≡ true → (has_context d ≡ true)
    × ((ticket_of (backed_off d) ≡ ticket_of d) × ((k : ℕ) → backed_off d ≡ doing.Returning k → ⊥))
back-facts (doing.MustBackOff ticket object) h = (refl, (refl, λ k e. absurd cc))
back-facts doing.Idle h = absurd (false≢true h)
back-facts (doing.Taking ticket) h = absurd (false≢true h)
back-facts (doing.BackedOff ticket object) h = absurd (false≢true h)
back-facts (doing.Returning k) h = absurd (false≢true h)

contended-ticket : (d : Doing) (object : ℕ) → contended d ≡ Some object → has_context d ≡ true
contended-ticket (doing.BackedOff ticket object) o e = refl
contended-ticket doing.Idle o e = absurd cc
contended-ticket (doing.Taking ticket) o e = absurd cc
contended-ticket (doing.MustBackOff ticket object) o e = absurd cc
contended-ticket (doing.Returning k) o e = absurd cc

atomic-request : (o : Option Command) (c : Command) → o ≡ Some c → is_atomic c ≡ true → (r : Request) × (request_in o ≡ Some r)
atomic-request o (command.Atomic r) e h = (r, ap request_in e)
atomic-request o (command.Buffer label width height format pattern) e h = absurd (false≢true h)
atomic-request o (command.AddFb label buffer) e h = absurd (false≢true h)
atomic-request o (command.Mode label m) e h = absurd (false≢true h)
atomic-request o (command.Blob label bytes) e h = absurd (false≢true h)
atomic-request o (command.Destroy label) e h = absurd (false≢true h)
atomic-request o (command.CloseFb label) e h = absurd (false≢true h)
atomic-request o (command.Fence label) e h = absurd (false≢true h)
atomic-request o (command.Signal label) e h = absurd (false≢true h)
atomic-request o command.Wait e h = absurd (false≢true h)

module _ (s : Script) (m : Machine) (L : HasLocks s m) where
  on_from : (client : ℕ) → may_hold (doing_at m client) ≡ false
      → LocksStand s (record {
        places = (client, record { command = (place_at m client).command + 1; doing = doing.Idle })
            ∷ m.contexts.places;
        locks = m.contexts.locks;
        tickets = m.contexts.tickets;
      }) (length m.device.commits)
  on_from client free = goes s m.contexts (length m.device.commits) L client
      (record { command = (place_at m client).command + 1; doing = doing.Idle }) free refl (λ k e. absurd cc)

  decided_from : (client : ℕ)
      → LocksStand s (record {
        places = (client, record { command = (place_at m client).command + 1; doing = doing.Idle })
            ∷ m.contexts.places;
        locks = dropped client m.contexts.locks;
        tickets = m.contexts.tickets;
      }) (length m.device.commits)
  decided_from client = leaves s m.contexts (length m.device.commits) L client
      (record { command = (place_at m client).command + 1; doing = doing.Idle }) (length m.device.commits) (omega arith) refl
      (λ k e. absurd cc)

  pub lock-taking : (client object : ℕ) → may_lock s m client object ≡ true → (may_hold (doing_at m client) ≡ true)
      × (has_context (doing_at m client) ≡ true)
  lock-taking client object h = taking-holds (doing_at m client) (lock_guards s m client object h).reaching.taking

  meet_locks : (client object : ℕ) → IsIn object (lockable s.topology) → may_lock s m client object ≡ true
      → HasLocks s (now_doing m client (doing.MustBackOff (record { 0 = ticket_of (doing_at m client) }) (obj_id object)))
  meet_locks client object is_there h =
      stays s m.contexts (length m.device.commits) L client
      (doing.MustBackOff (record { 0 = ticket_of (doing_at m client) }) (obj_id object)) m.contexts.locks
      (lock-taking client object h).1 refl
      (λ k e. absurd cc) (λ object2 e. refl) (λ object2 a ne e. e)
      (λ object2 e. L.held_there object2 client e)
      (λ object2 e. let same : object ≡ object2 = cc in subst (λ z. IsIn z (lockable s.topology)) same is_there)

  back_locks : (client : ℕ) → must_back_off (doing_at m client) ≡ true
      → HasLocks s (drops_locks (now_doing m client (backed_off (doing_at m client))) client)
  back_locks client h =
      let f = back-facts (doing_at m client) h in
      stays s m.contexts (length m.device.commits) L client (backed_off (doing_at m client)) (dropped client m.contexts.locks) f.0 f.1.0
      (λ k e. absurd (f.1.1 k e)) (λ object e. absurd (dropped-own client m.contexts.locks object e))
      (λ object a ne e. dropped-other client m.contexts.locks object a e)
      (λ object e. absurd (dropped-own client m.contexts.locks object e))
      (λ object e. L.asked_there client object (sym (back-asked (doing_at m client) h) ∙ e))

  relock_locks : (client : ℕ) → (o : Option ℕ) → contended (doing_at m client) ≡ o → HasLocks s (relocked m client o)
  relock_locks client None e = L
  relock_locks client (Some object) e =
      stays s m.contexts (length m.device.commits) L client (doing.Taking (record { 0 = ticket_of (doing_at m client) }))
      ((object, Some client) ∷ m.contexts.locks) (contended-ticket (doing_at m client) object e) refl
      (λ k e2. absurd cc) (λ object2 e2. refl)
      (λ object2 a ne e2.
      ⊎_elim
      (λ (same : object ≡ object2).
      let is : Some client ≡ Some a = sym (read_same None m.contexts.locks object (Some client)) ∙ ap
      (read None ((object, Some client) ∷ m.contexts.locks)) same ∙ e2 in
      absurd (ne cc))
      (λ apart. sym (read_other None m.contexts.locks object object2 (Some client) apart) ∙ e2)
      (cases_eq object object2))
      (λ object2 e2.
      ⊎_elim
      (λ (same : object ≡ object2). subst (λ z. IsIn z (lockable s.topology)) same
      (L.asked_there client object (contended-asked (doing_at m client) object e)))
      (λ apart. L.held_there object2 client (sym (read_other None m.contexts.locks object object2 (Some client) apart) ∙ e2))
      (cases_eq object object2))
      (λ object2 e2. absurd cc)

  -- a client that is idle goes on
  act_locks : (client : ℕ) → is_idle (doing_at m client) ≡ true
      → LocksStand s (record {
        places = (client, record { command = (place_at m client).command + 1; doing = doing.Idle })
            ∷ m.contexts.places;
        locks = m.contexts.locks;
        tickets = m.contexts.tickets;
      }) (length m.device.commits)
  act_locks client idle = on_from client (idle-free (doing_at m client) idle)

  swap_locks : (client : ℕ) (r : Request) (b w : Bool) → HasLocks s (swapped_as s.topology b w m client r)
  swap_locks client r = by_two (λ b w. HasLocks s (swapped_as s.topology b w m client r)) idle waits idle waits
    where
      idle : LocksStand s (record {
        places = (client, record { command = (place_at m client).command + 1; doing = doing.Idle })
            ∷ m.contexts.places;
        locks = dropped client m.contexts.locks;
        tickets = m.contexts.tickets;
      }) (suc (length m.device.commits))
      idle = leaves s m.contexts (length m.device.commits) L client
          (record { command = (place_at m client).command + 1; doing = doing.Idle }) (suc (length m.device.commits)) (omega arith) refl
          (λ k e. absurd cc)

      waits : LocksStand s (record {
        places = (
          client,
          record { command = (place_at m client).command; doing = doing.Returning (length m.device.commits) },
        )
            ∷ m.contexts.places;
        locks = dropped client m.contexts.locks;
        tickets = m.contexts.tickets;
      }) (suc (length m.device.commits))
      waits = leaves s m.contexts (length m.device.commits) L client
          (record { command = (place_at m client).command; doing = doing.Returning (length m.device.commits) })
          (suc (length m.device.commits)) (omega arith) refl
          (λ k e. let nk : length m.device.commits ≡ k = cc in omega arith)

  carries_locks : Carries s m (λ step m2. HasLocks s m2)
  carries_locks = record {
    locks = record {
      begins = λ client c e atomic idle.
          let r = atomic-request (command_at s m client) c e atomic in
          begins s m.contexts (length m.device.commits) L client (idle-free (doing_at m client) idle) (record { request = r.0; at = r.1 });
      takes = λ client kind index is_lock lock free. takes s m.contexts (length m.device.commits) L client (object_id kind index)
          (lock-taking client (object_id kind index) lock).0 (lockable-has s.topology kind index is_lock);
      meets = λ client kind index holder is_lock lock held. meet_locks client (object_id kind index)
          (lockable-has s.topology kind index is_lock) lock;
      backs = λ client back. back_locks client back;
      relocks = λ client object asked free. relock_locks client (Some object) asked;
      returned = λ client k e clean. on_from client (returning-free (doing_at m client) (ap is_some e));
    };
    answers = record {
      refuses = λ client r e taking may. decided_from client;
      tests = λ client r e taking may. decided_from client;
      swaps = λ client r e taking may b w eb ew. swap_locks client r b w;
      makes = λ client c e making idle b eb. by_bool (λ b. HasLocks s (made_as b m client (execute s.topology m.device.world client c)))
          (act_locks client idle) (act_locks client idle) b;
      signalled = λ client c e is_signal idle o. by_fence
          (λ o. HasLocks s (goes_on (signals (answers m client (execute s.topology m.device.world client c).reply) o) client))
          (act_locks client idle) (λ fence. act_locks client idle) o;
      read_none = λ client c e is_wait idle none. act_locks client idle;
      read_one = λ client c e is_wait idle event events some. act_locks client idle;
    };
    tails = tails_leave s m (λ step left. LocksStand s left.contexts (length left.commits)) (λ step. L);
    stalled = λ h. L;
  }

  pub step_locks : (step : Step) → legal s m step ≡ true → HasLocks s (next s m step)
  step_locks step h = each_step s m (λ step m2. HasLocks s m2) carries_locks step h

pub first_locks : (s : Script) → HasLocks s (first_machine s.topology)
unfolding read
first_locks s = record {
  holders = λ object client e. absurd cc;
  unique = λ a b ta tb e. absurd (false≢true ta);
  below = λ a t. absurd (false≢true t);
  atomic = λ a t. absurd (false≢true t);
  returning = λ a k e. absurd cc;
  held_there = λ object client e. absurd cc;
  asked_there = λ a object e. absurd cc;
}
