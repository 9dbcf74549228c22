-- What legality tells of the calls that do a step.
use Rattle.std.proofs.Common.{◌≡◌, ℕ, ◌<◌, ◌≤◌, Bool, true, false, [], ◌∷◌, length, Option, Some, None, inl, inr, refl, sym, ap, ◌∙◌, subst}
use Rattle.std.proofs.Common.{arith}
use Rattle.std.specs.Prelude.{not, ◌==◌, is_some, nat_lt, if◌then◌else◌}
use Rattle.std.proofs.lemmas.Bool.{and_from, cases_lt, eqb-true, false≢true, ltb-true}
use Rattle.kms_model.specs.declared.objects.Kind.{Kind}
use Rattle.kms_model.specs.declared.objects.Kind.TheVariants.{Conn, Crtc, Enc, Plane}
use Rattle.kms_model.specs.declared.objects.ObjId.{ObjId}
use Rattle.kms_model.specs.declared.objects.Ticket.{Ticket}
use Rattle.kms_model.specs.declared.objects.Topology.{Topology}
use Rattle.kms_model.specs.declared.replies.Reply.{Reply}
use Rattle.kms_model.specs.declared.replies.Step.{Step}
use Rattle.kms_model.specs.declared.replies.Step.TheVariants as step
use Rattle.kms_model.specs.declared.runs.Doing.{Doing}
use Rattle.kms_model.specs.declared.runs.Doing.TheVariants as doing
use Rattle.kms_model.specs.declared.runs.Place.{Place}
use Rattle.kms_model.specs.Device.Objects.{count_of, exists, first_id, index_of, kind_of, object_id}
use Rattle.kms_model.specs.Machine.Commits.{is_hw_done}
use Rattle.kms_model.specs.Machine.Histories.{is_history, legal}
use Rattle.kms_model.specs.Machine.State.{doing_at, holder_at, reserved_at, unread_at}
use Rattle.kms_model.specs.Machine.Steps.{contended, is_free_or_older, is_lockable, is_taking, is_wait}
use Rattle.kms_model.specs.Machine.Steps.{must_back_off, returning_of, taking_at, ticket_of}
use Rattle.kms_model.specs.Request.Reach.{reaches}
use Rattle.kms_model.specs.Script.WellFormed.{IsWellFormed}
use Rattle.kms_model.proofs.Guards.{Guards, IsRelocking, idle_from, legal-going, legal_guards, taking_from}
use Rattle.kms_model.proofs.Items.{IsObject, ids-in}
use Rattle.kms_model.proofs.KindsOfIds.{index_of-object, kind_of-object}
use Rattle.kms_model.proofs.TouchedLemmas.{HasFewObjects, few_objects}
use Rattle.kms_wwlock.specs.InStep.{holder_of_contended, lock_answer, relock_answer}
use Rattle.kms_laws.proofs.Basics.{both_bools}
use Rattle.kms_laws.proofs.Modes.{plain-from}
use Rattle.kms_laws.proofs.NeverStuck.{history_facts}
use Rattle.kms_wwlock.specs.declared.table.Lock.TheVariants as table
use Rattle.kms_wwlock.specs.declared.table.Relock.TheVariants as again
use Rattle.kms_core.specs.Calls.{MayRead, MayReturn, is_over_at, read_reply_at, read_reply, read_step, unless_ended}
use Rattle.kms_core.specs.Locks.{MayBackOff, MayLock, MayRelock, is_step, lock_steps, locked_answer, object_or_zero, present_state}
use Rattle.kms_core.specs.Locks.{relock_steps, relocked_answer, relocked_as}
use Rattle.kms_core.specs.declared.calls.contexts.Locked.{Locked}
use Rattle.kms_core.specs.Next.{IsLegal}
use Rattle.kms_core.specs.Run.{Run, machine}
use Rattle.kms_core.specs.Work.{MayCleanUp, MayWrite, is_commit_over, write_step}
use Rattle.kms_core.proofs.next.ClientSteps.{answered_is, must_not}
use Rattle.kms_core.proofs.calls.Locking.{steps_of_lock}
use Rattle.kms_core.proofs.next.Outside.{outside}
use Rattle.kms_core.proofs.next.Taken.{lockable_exists}

-- Objects of the device

few_of : (t : Topology) (kind : Kind) (index : ℕ) → HasFewObjects t → index < count_of t kind → index < 100
few_of t Crtc index few there = omega (arith, there, few.crtcs)
few_of t Plane index few there = omega (arith, there, few.planes)
few_of t Conn index few there = omega (arith, there, few.conns)
few_of t Enc index few there = omega (arith, there, few.conns)

-- an id of an object by its kind and its index
pub record IsIdOf (id : ObjId) (kind : Kind) (index : ℕ) : Type 0 where
  pub kind_is : kind_of id.0 ≡ kind
  pub index_is : index_of id.0 ≡ index
  pub is_id : first_id (kind_of id.0) ≤ id.0

id_of : (t : Topology) (id : ObjId) (kind : Kind) (index : ℕ) → HasFewObjects t → exists t kind index ≡ true → id.0 ≡ object_id kind index
    → IsIdOf id kind index
id_of t id kind index few there is =
    let low = few_of t kind index few (ltb-true index (count_of t kind) there) in
    let k = ap kind_of is ∙ kind_of-object kind index low in
    record { kind_is = k; index_is = ap index_of is ∙ index_of-object kind index low; is_id = rw k (omega (arith, is)) }

module _ (v : Run) where
  guards : (x : Step) → IsLegal v x → Guards v.script (machine v) x
  guards x asked = legal_guards v.script (machine v) x asked

  -- Clients

  pub back_off_there : (client : ℕ) (d : Doing) → IsLegal v (step.BackOff client) → d ≡ doing_at (machine v) client
      → ((t : Ticket) (object : ObjId) → d ≡ doing.MustBackOff t object → ⊥) → ⊥
  back_off_there client d asked is other =
      both_bools (must_back_off d) (ap must_back_off is ∙ guards (step.BackOff client) asked) (must_not d other)

  pub back_off_asked : (client : ℕ) (d : Doing) (t : Ticket) (object : ObjId) → IsLegal v (step.BackOff client) → d
      ≡ doing_at (machine v) client → d ≡ doing.MustBackOff t object → MayBackOff v t
  back_off_asked client d t object asked is must =
      record {
        client = client;
        object = object;
        must = sym is ∙ must;
        goes_on = legal-going v.script (machine v) (step.BackOff client)
            asked;
      }

  contended_not : (d : Doing) → ((t : Ticket) (object : ObjId) → d ≡ doing.BackedOff t object → ⊥) → contended d ≡ None
  contended_not doing.Idle other = refl
  contended_not (doing.Taking t) other = refl
  contended_not (doing.MustBackOff t object) other = refl
  contended_not (doing.BackedOff t object) other = absurd (other t object refl)
  contended_not (doing.Returning k) other = refl

  pub relock_there : (client : ℕ) (d : Doing) → IsLegal v (step.Relock client) → d ≡ doing_at (machine v) client
      → ((t : Ticket) (object : ObjId) → d ≡ doing.BackedOff t object → ⊥) → ⊥
  relock_there client d asked is other =
      let one = sym (contended_not d other) ∙ ap contended is ∙ (guards (step.Relock client) asked).contends in absurd cc

  pub relock_asked : (client : ℕ) (d : Doing) (t : Ticket) (object : ObjId) → IsLegal v (step.Relock client) → d
      ≡ doing_at (machine v) client → d ≡ doing.BackedOff t object → MayRelock v t
  relock_asked client d t object asked is off = record {
    client = client;
    object = object;
    off = sym is ∙ off;
    goes_on = legal-going
        v.script (machine v) (step.Relock client) asked;
  }

  free_got : (client : ℕ) → IsRelocking (machine v) client
      → relock_answer (machine v) (holder_of_contended (machine v) (contended (doing_at (machine v) client))) ≡ again.Got
  free_got client g = ap (λ o. relock_answer (machine v) (holder_of_contended (machine v) o)) g.contends
      ∙ ap (relock_answer (machine v)) g.free

  pub relock_done : (client : ℕ) {answer : Locked} → IsLegal v (step.Relock client) → answer ≡ relocked_answer v client
      → relock_steps client answer ≡ step.Relock client ∷ []
  relock_done client asked is =
      ap (relock_steps client)
      (is ∙ ap (λ a. relocked_as (present_state v (object_or_zero (contended (doing_at (machine v) client)))) a)
      (free_got client (guards (step.Relock client) asked)))

  pub read_asked : (client : ℕ) → IsLegal v (step.Read client) → MayRead v client
  read_asked client asked = idle_from v.script (machine v) client is_wait (guards (step.Read client) asked).waits

  stepped : (client : ℕ) (o : Option Reply) → is_some o ≡ true → read_step client o ≡ step.Read client ∷ []
  stepped client None e = absurd (false≢true e)
  stepped client (Some r) e = refl

  pub read_done : (client : ℕ) (o : Option Reply) → IsLegal v (step.Read client) → o ≡ read_reply_at v client → read_step client o
      ≡ step.Read client ∷ []
  read_done client o asked is =
      stepped client o
      (ap (λ (x : Option Reply). is_some x) (is ∙ ap
      (λ b. unless_ended b (read_reply (unread_at (machine v).events client) (reserved_at (machine v).events client)))
      (legal-going v.script (machine v) (step.Read client) asked)) ∙ answered_is (unread_at (machine v).events client)
      (reserved_at (machine v).events client)
      ∙ (guards (step.Read client) asked).tells)

  -- CRTCs

  pub vblank_kind : (kind : Kind) (index : ℕ) → IsLegal v (step.Vblank kind index) → kind ≡ Crtc
  vblank_kind kind index asked = (guards (step.Vblank kind index) asked).kind_is

  -- Locks

  taking_not : (d : Doing) → ((t : Ticket) → d ≡ doing.Taking t → ⊥) → is_taking d ≡ false
  taking_not doing.Idle other = refl
  taking_not (doing.Taking t) other = absurd (other t refl)
  taking_not (doing.MustBackOff t object) other = refl
  taking_not (doing.BackedOff t object) other = refl
  taking_not (doing.Returning k) other = refl

  pub lock_there : (client : ℕ) (kind : Kind) (index : ℕ) (d : Doing) → IsLegal v (step.Lock client kind index) → d
      ≡ doing_at (machine v) client → ((t : Ticket) → d ≡ doing.Taking t → ⊥) → ⊥
  lock_there client kind index d asked is other =
      let takes = (guards (step.Lock client kind index) asked).may_lock.reaching.taking in
      both_bools (is_taking d) (ap is_taking is ∙ takes) (taking_not d other)

  own_not : (n : ℕ) → nat_lt n n ≡ true → ⊥
  own_not n e = (let l = ltb-true n n e in omega (arith, l))

  older_event : (client : ℕ) (h : Option ℕ) → is_free_or_older (machine v) (ticket_of (doing_at (machine v) client)) h ≡ true
      → is_step (lock_answer (machine v) client h) ≡ true
  older_event client None e = refl
  older_event client (Some holder) e = at (holder == client) refl
      (nat_lt (ticket_of (doing_at (machine v) holder)) (ticket_of (doing_at (machine v) client))) e where
        at : (own : Bool) → (holder == client) ≡ own → (older : Bool) → older ≡ true
            → is_step (if own then table.Own else if older then table.Older (record { 0 = ticket_of (doing_at (machine v) holder) })
            else table.Younger (record { 0 = ticket_of (doing_at (machine v) holder) })) ≡ true
        at own is false o = absurd (false≢true o)
        at false is true o = refl
        at true is true o = absurd (own_not (ticket_of (doing_at (machine v) client))
            (ap (λ n. nat_lt (ticket_of (doing_at (machine v) n)) (ticket_of (doing_at (machine v) client))) (sym
            (eqb-true holder client is)) ∙
            e))

  pub locked_step : (client : ℕ) (kind : Kind) (index : ℕ) (id : ObjId) (answer : Locked) → IsLegal v (step.Lock client kind index)
      → IsIdOf id kind index → id.0 ≡ object_id kind index → answer ≡ locked_answer v client id
      → lock_steps client id answer ≡ step.Lock client kind index ∷ []
  locked_step client kind index id answer asked named same is =
      let older = (guards (step.Lock client kind index) asked).may_lock.free in
      let event = older_event client (holder_at (machine v) (object_id kind index)) older in
      ap (lock_steps client id) is
      ∙ steps_of_lock client id (present_state v id) (lock_answer (machine v) client (holder_at (machine v) id.0))
      (ap (λ o. is_step (lock_answer (machine v) client (holder_at (machine v) o))) same ∙ event)
      ∙ (λ i. step.Lock client (named.kind_is i) (named.index_is i) ∷ [])

  -- Writes

  written_step : (k : ℕ) (kind : Kind) (index : ℕ) (id : ObjId) → IsIdOf id kind index → write_step k id ≡ step.Write k kind index
  written_step k kind index id named = λ i. step.Write k (named.kind_is i) (named.index_is i)

  pub write_named : (k : ℕ) (kind : Kind) (index : ℕ) (id : ObjId) → IsLegal v (step.Write k kind index) → IsIdOf id kind index
      → MayWrite v k id
  write_named k kind index id asked named = record {
    is_id = named.is_id;
    is_legal = ap (legal v.script (machine v))
        (written_step k kind index id named) ∙ asked;
  }

  pub write_done : (k : ℕ) (kind : Kind) (index : ℕ) (id : ObjId) → IsIdOf id kind index → write_step k id ∷ [] ≡ step.Write k kind index
      ∷ []
  write_done k kind index id named = ap (λ (x : Step). x ∷ []) (written_step k kind index id named)

  -- Cleanups

  pub cleanup_done : (k : ℕ) → IsLegal v (step.Cleanup k) → is_commit_over v k ≡ true
  cleanup_done k asked = let g = guards (step.Cleanup k) asked in and_from (is_hw_done (machine v).device k) _ g.done g.latched

  pub return_done : (client : ℕ) → IsLegal v (step.Return client) → is_over_at v client ≡ true
  return_done client asked =
      let g = guards (step.Return client) asked in
      and_from (not (machine v).stalled) _ (ap not (legal-going v.script (machine v) (step.Return client) asked)) (rw g.returns g.cleaned)

-- What is asked for of a device's objects

pub few_now : (v : Run) → IsWellFormed v.script → HasFewObjects v.script.topology
few_now v formed = few_objects v.script.topology formed.device

module _ (v : Run) (few : HasFewObjects v.script.topology) where
  pub lock_index : (client : ℕ) (kind : Kind) (index : ℕ) → IsLegal v (step.Lock client kind index) → index ≤ 255
  lock_index client kind index asked =
      let there = ltb-true index (count_of v.script.topology kind)
      (lockable_exists v.script.topology kind index (guards v (step.Lock client kind index) asked).lockable) in
      let low = few_of v.script.topology kind index few there in
      omega (arith, low)

  pub lock_named : (client : ℕ) (kind : Kind) (index : ℕ) (id : ObjId) → IsLegal v (step.Lock client kind index) → id.0
      ≡ object_id kind index → IsIdOf id kind index
  lock_named client kind index id asked is = id_of v.script.topology id kind index few
      (lockable_exists v.script.topology kind index (guards v (step.Lock client kind index) asked).lockable) is

  pub lock_asked : (client : ℕ) (kind : Kind) (index : ℕ) (d : Doing) (t : Ticket) (id : ObjId) → IsLegal v (step.Lock client kind index)
      → d ≡ doing_at (machine v) client → d ≡ doing.Taking t → id.0 ≡ object_id kind index → MayLock v t id
  lock_asked client kind index d t id asked is takes same_id =
      let named = lock_named client kind index id asked same_id in
      record {
        client = client;
        taking = sym is ∙ takes;
        is_id = named.is_id;
        lockable = ap (λ (k : Kind). is_lockable v.script.topology k (index_of id.0)) named.kind_is ∙ ap
            (λ n. is_lockable v.script.topology kind n) named.index_is ∙ (guards v (step.Lock client kind index) asked).lockable;
        reached = subst (λ n. taking_at v.script (machine v) client (λ q. reaches v.script.topology (machine v).device.world q n) ≡ true)
            (sym same_id) (taking_from v.script (machine v) client _ (guards v (step.Lock client kind index) asked).may_lock.reaching);
        goes_on = legal-going v.script (machine v) (step.Lock client kind index) asked;
      }

  pub write_index : (k : ℕ) (kind : Kind) (index : ℕ) → IsLegal v (step.Write k kind index) → index ≤ 255
  write_index k kind index asked = (let low = few_of v.script.topology kind index few
      (ltb-true index (count_of v.script.topology kind) (guards v (step.Write k kind index) asked).there) in omega (arith, low))

  pub written_named : (k : ℕ) (kind : Kind) (index : ℕ) (id : ObjId) → IsLegal v (step.Write k kind index) → id.0 ≡ object_id kind index
      → IsIdOf id kind index
  written_named k kind index id asked is = id_of v.script.topology id kind index few (guards v (step.Write k kind index) asked).there is

  pub flush_kind : (k : ℕ) (kind : Kind) (index : ℕ) → IsLegal v (step.Flush k kind index) → kind ≡ Crtc
  flush_kind k kind index asked =
      let t = v.script.topology in
      let g = guards v (step.Flush k kind index) asked in
      let o : IsObject t Crtc (object_id kind index) = ids-in t Crtc (object_id kind index) g.flush.is_crtc in
      let within = o.within in
      sym (kind_of-object kind index (few_of t kind index few (ltb-true index (count_of t kind) g.there)))
      ∙ ap kind_of o.same ∙ kind_of-object Crtc o.index (few_of t Crtc o.index few within)

-- What a history tells besides

pub record IsHistoryOf (v : Run) : Type 0 where
  pub formed : IsWellFormed v.script
  pub history : is_history v.script v.steps ≡ true

pub history_now : (v : Run) → IsWellFormed v.script → is_history v.script v.steps ≡ true → IsHistoryOf v
history_now v formed history = record { formed = formed; history = history }

module _ (v : Run) (is : IsHistoryOf v) where
  pub cleanup_asked : (k : ℕ) → IsLegal v (step.Cleanup k) → MayCleanUp v k
  cleanup_asked k asked =
      let g = guards v (step.Cleanup k) asked in
      record {
        claimed = ((history_facts v.script v.steps (plain-from v.script is.formed) is.history).holds.tail.marks.done k g.done).0;
        kept = g.kept;
        going = legal-going v.script (machine v) (step.Cleanup k) asked;
      }

  inside : (client : ℕ) → (doing_at (machine v) client ≡ doing.Idle → ⊥) → (1 ≤ client) × (client ≤ length v.script.clients)
  inside client busy =
      let rests : ((1 ≤ client) × (client ≤ length v.script.clients) → ⊥)
      → ⊥ = (λ away. busy (ap (λ (p : Place). p.doing) (outside v.script v.steps is.history client away))) in
      elim (cases_lt 0 client) [
        | inl low ↦ elim (cases_lt (length v.script.clients) client) [
          | inl above ↦ absurd (rests (λ within. (let l = within.1 in omega (arith, l, above))))
          | inr within ↦ (omega (arith, low), within)
        ]
        | inr none ↦ absurd (rests (λ within. (let l = within.0 in omega (arith, l, none))))
      ]

  pub return_asked : (client : ℕ) → IsLegal v (step.Return client) → MayReturn v client
  return_asked client asked =
      let g = guards v (step.Return client) asked in
      let there = inside client (λ idle. (let one : None ≡ Some g.commit = ap returning_of (sym idle) ∙ g.returns in cc)) in
      record { low = there.0; high = there.1; commit = g.commit; returning = g.returns }
