-- While a client holds an object's lock, no step but its own changes the object's present state.
use Rattle.std.proofs.Common.{◌≡◌, ◌≢◌, ℕ, ◌+◌, List, Bool, true, false, ◌||◌, ◌==◌, Option, Some, refl, sym, ap, ◌∙◌, subst, ⊎_elim}
use Rattle.std.specs.Prelude.{not, pos}
use Rattle.std.specs.Ordering.{int_eq}
use Rattle.std.proofs.lemmas.Bool.{or_parts}
use Rattle.kms_model.specs.declared.objects.Kind.{Kind}
use Rattle.kms_model.specs.declared.objects.Kind.TheVariants.{Crtc, Plane, Conn}
use Rattle.kms_model.specs.declared.objects.Gamma.{Gamma}
use Rattle.kms_model.specs.declared.objects.Mode.{Mode}
use Rattle.kms_model.specs.declared.objects.Topology.{Topology}
use Rattle.kms_model.specs.declared.properties.TheConstants.{ACTIVE}
use Rattle.kms_model.specs.declared.replies.Step.{Step}
use Rattle.kms_model.specs.declared.scripts.Command.{Command}
use Rattle.kms_model.specs.declared.scripts.Request.{Request}
use Rattle.kms_model.specs.declared.scripts.Script.{Script}
use Rattle.kms_model.specs.declared.states.CrtcState.{CrtcState}
use Rattle.kms_model.specs.declared.worlds.World.{World}
use Rattle.kms_model.specs.Device.Execution.{committed, execute}
use Rattle.kms_model.specs.Device.Objects.{count_of, ids_of, kind_of, object_id}
use Rattle.kms_model.specs.Device.States.{crtc_at}
use Rattle.kms_model.specs.Machine.Commits.{lockable}
use Rattle.kms_model.specs.Machine.Effects.{answers, goes_on, next, signals}
use Rattle.kms_model.specs.Machine.Histories.{at, is_history, legal}
use Rattle.kms_model.specs.Machine.State.{Machine, command_at, holder_at, holds}
use Rattle.kms_model.specs.Machine.Steps.{holds_touched, is_making}
use Rattle.kms_model.specs.Promises.{HasSameState, client_of_step}
use Rattle.kms_model.specs.Request.Agreement.{crtc_state_at}
use Rattle.kms_model.specs.Request.Apply.{after}
use Rattle.kms_model.specs.Request.Checks.{is_active}
use Rattle.kms_model.specs.Request.Named.{names}
use Rattle.kms_model.specs.Request.Touched.{is_affected, sets, touches, touches_of_kind}
use Rattle.kms_model.proofs.Guards.{IsSwapping, swap_guards}
use Rattle.kms_model.proofs.AppliedValues.{value-apply_unset}
use Rattle.kms_model.proofs.Items.{IsIn, ids-has, list_all-at}
use Rattle.kms_model.proofs.MaskLemmas.{same_masks}
use Rattle.kms_model.proofs.SeenLemmas.{gamma-seen, mode-seen}
use Rattle.kms_model.proofs.SoundKept.{accepted-parts, sound-apply}
use Rattle.kms_model.proofs.TouchedLemmas.{HasFewObjects, IsRequestAt, crtc_at-unset, few_objects, gamma_at-unset, mode_at-unset}
use Rattle.kms_model.proofs.TouchedLemmas.{routed-unnamed}
use Rattle.kms_model.proofs.Facts.{implied, value-is}
use Rattle.kms_laws.proofs.Basics.{in_either}
use Rattle.kms_laws.proofs.EachStep.{Carries, by_bool, by_fence, by_two, each_step, locks_leave, made_as, swapped_as, tails_leave}
use Rattle.kms_laws.proofs.Executed.{IsLike, execute_follows, follows-out_fences, plane_like}
use Rattle.kms_laws.proofs.LockSteps.{HasLocks}
use Rattle.kms_laws.proofs.NeverStuck.{history_facts}
use Rattle.kms_laws.proofs.Objects.{conn_kind, crtc_kind, plane_kind}
use Rattle.kms_laws.proofs.Requests.{plane_frame}
use Rattle.kms_laws.proofs.Steps.{Holds, IsPlainScript, not_atomic}

-- an object with a lock that is of a kind is one of that kind
in_kind : (t : Topology) (k : Kind) (o : ℕ) → HasFewObjects t → IsIn o (lockable t) → kind_of o ≡ k → IsIn o (ids_of t k)
in_kind t k o few is of_kind =
    ⊎_elim
    (λ i. subst (λ z. IsIn o (ids_of t z)) (sym (crtc_kind t o few i) ∙ of_kind) i)
    (λ rest.
    ⊎_elim
    (λ i. subst (λ z. IsIn o (ids_of t z)) (sym (plane_kind t o few i) ∙ of_kind) i)
    (λ i. subst (λ z. IsIn o (ids_of t z)) (sym (conn_kind t o few i) ∙ of_kind) i)
    (in_either (ids_of t Plane) (ids_of t Conn) o rest))
    (in_either (ids_of t Crtc) _ o is)

abbrev pub state_with : Bool → Option Mode → Option Gamma → ℕ → ℕ → CrtcState
state_with active mode gamma planes conns = record { active = active; mode = mode; gamma = gamma; planes = planes; conns = conns }

-- What a request does not touch

module _ (t : Topology) (w : World) (r : Request) (at : IsRequestAt t w r) (o : ℕ) (is_there : IsIn o (lockable t))
    (untouched : touches t w r o ≡ false) where
  few : HasFewObjects t
  few = few_objects t at.device

  of_its_kind : (k : Kind) → kind_of o ≡ k → touches_of_kind k t w r o ≡ false
  unfolding touches
  of_its_kind k e = ap (λ z. touches_of_kind z t w r o) (sym e) ∙ untouched

  crtc_state_frame : kind_of o ≡ Crtc → crtc_state_at t w.things (after w r) o ≡ crtc_state_at t w.things w.values o
  crtc_state_frame e =
      let parts = or_parts (sets r.assigns o) (names w.values (after w r) r.assigns o) (of_its_kind Crtc e) in
      let active : is_active (after w r) o ≡ is_active w.values o = ap (λ n. not (int_eq n (pos 0)))
      (value-apply_unset w.things w.values r.assigns o ACTIVE parts.0) in
      let mode = mode_at-unset w r o parts.0 in
      let gamma = gamma_at-unset w r o parts.0 in
      let planes = same_masks (λ i. crtc_at (after w r) (object_id Plane i) == o) (λ i. crtc_at w.values (object_id Plane i) == o)
      (count_of t Plane)
      (λ i within. routed-unnamed t w r Plane o (object_id Plane i) at refl (ids-has t Plane i within) parts.1) in
      let conns = same_masks (λ i. crtc_at (after w r) (object_id Conn i) == o) (λ i. crtc_at w.values (object_id Conn i) == o)
      (count_of t Conn)
      (λ i within. routed-unnamed t w r Conn o (object_id Conn i) at refl (ids-has t Conn i within) parts.1) in
      λ i. state_with (active i) (mode i) (gamma i) (planes i) (conns i)

  pub untouched_same : (n : ℕ) → HasSameState t w (record w { values = after w r; commits = n }) o
  untouched_same n = record {
    plane = λ e. plane_frame t w r at o (in_kind t Plane o few is_there e) untouched;
    connector = λ e. crtc_at-unset w r o (or_parts (sets r.assigns o) (is_affected t w.things w.values (after w r) o)
        (of_its_kind Conn e)).0;
    crtc = crtc_state_frame;
  }

-- What a thing more or a closed thing leaves

like_same : (t : Topology) (w v : World) (o : ℕ) → HasFewObjects t → IsIn o (lockable t) → IsLike t w v → HasSameState t w v o
like_same t w v o few is_there like = record {
  plane = λ e. plane_like t w v o like (in_kind t Plane o few is_there e);
  connector = λ e. ap (λ values. crtc_at values o) like.values;
  crtc = λ e.
      ap (λ values. crtc_state_at t v.things values o) like.values
      ∙ (let mode = mode-seen t w.things v.things w.values o like.alike (in_kind t Crtc o few is_there e) in
      let gamma = gamma-seen t w.things v.things w.values o like.alike (in_kind t Crtc o few is_there e) in
      sym (λ i. state_with (is_active w.values o) (mode i) (gamma i) (crtc_state_at t w.things w.values o).planes
      (crtc_state_at t w.things w.values o).conns));
}

same_trans : (t : Topology) (w v u : World) (o : ℕ) → HasSameState t w v o → HasSameState t v u o → HasSameState t w u o
same_trans t w v u o a b = record {
  plane = λ e. b.plane e ∙ a.plane e;
  connector = λ e. b.connector e ∙ a.connector e;
  crtc = λ e. b.crtc e ∙ a.crtc e;
}

same_self : (t : Topology) (w : World) (o : ℕ) → HasSameState t w w o
same_self t w o = record { plane = λ e. refl; connector = λ e. refl; crtc = λ e. refl }

-- Steps

module _ (s : Script) (m : Machine) (plain : IsPlainScript s) (H : Holds s m) (L : HasLocks s m) (holder o : ℕ)
    (held : holds m holder o ≡ true) where
  abbrev Of : Machine → Type 0
  Of m2 = HasSameState s.topology m.device.world m2.device.world o

  is_there : IsIn o (lockable s.topology)
  is_there = L.held_there o holder (value-is holder (holder_at m o) held)

  few_here : HasFewObjects s.topology
  few_here = few_objects s.topology plain.device

  as_it_was : HasSameState s.topology m.device.world m.device.world o
  as_it_was = same_self s.topology m.device.world o

  make_same : (client : ℕ) (c : Command) → command_at s m client ≡ Some c → is_making c ≡ true
      → HasSameState s.topology m.device.world (execute s.topology m.device.world client c).world o
  make_same client c e making =
      like_same s.topology m.device.world (execute s.topology m.device.world client c).world o few_here is_there
      (execute_follows s.topology m.device.world client c H.present.lawful H.present.kept (plain.modes _ c e) (not_atomic c making)).like

  -- a request of another client that holds what it touches does not touch the object
  not_touched : (client : ℕ) (r : Request) → Some client ≢ Some holder → holds_touched s.topology m client r ≡ true
      → touches s.topology m.device.world r o ≡ false
  unfolding holds_touched
  not_touched client r others h = by_test (touches s.topology m.device.world r o) refl
    where
      each : (not (touches s.topology m.device.world r o) || holds m client o) ≡ true
      each = list_all-at (λ object. not (touches s.topology m.device.world r object) || holds m client object) (lockable s.topology) o h
          is_there

      by_test : (b : Bool) → touches s.topology m.device.world r o ≡ b → touches s.topology m.device.world r o ≡ false
      by_test false e = e
      by_test true e = absurd (others (sym (value-is client (holder_at m o) (implied _ _ each e)) ∙ value-is holder (holder_at m o) held))

  swap_same : (client : ℕ) (r : Request) → Some client ≢ Some holder → IsSwapping s.topology m client r
      → HasSameState s.topology m.device.world (committed s.topology m.device.world client r).world o
  swap_same client r others found =
      let w1 : World = record m.device.world { values = after m.device.world r; commits = m.device.world.commits + 1 } in
      let e = (accepted-parts s.topology m.device.world r found.accepted).first_none in
      let at : IsRequestAt s.topology m.device.world r = record { device = plain.device; sound = H.present.lawful.sound; early = e } in
      let follows = follows-out_fences s.topology client r.assigns w1 (ids_of s.topology Crtc)
      (sound-apply s.topology m.device.world r (m.device.world.commits + 1) H.present.lawful found.accepted) H.present.kept in
      same_trans s.topology m.device.world w1 (committed s.topology m.device.world client r).world o
      (untouched_same s.topology m.device.world r at o is_there (not_touched client r others found.held) (m.device.world.commits + 1))
      (like_same s.topology w1 (committed s.topology m.device.world client r).world o few_here is_there follows.like)

  carries_same : Carries s m (λ step m2. client_of_step step ≢ Some holder → Of m2)
  carries_same = record {
    locks = locks_leave s m (λ step m2. client_of_step step ≢ Some holder → Of m2) (λ step contexts others. as_it_was);
    answers = record {
      refuses = λ client r e taking may others. as_it_was;
      tests = λ client r e taking may others. as_it_was;
      swaps = λ client r e taking may b w eb ew others.
          let now = swap_same client r others (swap_guards s.topology m client r may)
          in by_two (λ b w. Of (swapped_as s.topology b w m client r)) now now now now b w;
      makes = λ client c e making idle b eb others.
          let now = make_same client c e making in by_bool (λ b. Of (made_as b m client (execute s.topology m.device.world client c))) now
          now b;
      signalled = λ client c e is_signal idle q others. by_fence
          (λ q. Of (goes_on (signals (answers m client (execute s.topology m.device.world client c).reply) q) client)) as_it_was
          (λ fence. as_it_was) q;
      read_none = λ client c e is_wait idle none others. as_it_was;
      read_one = λ client c e is_wait idle event events some others. as_it_was;
    };
    tails = tails_leave s m (λ step left. client_of_step step ≢ Some holder → HasSameState s.topology m.device.world left.world o)
        (λ step others. as_it_was);
    stalled = λ h others. as_it_was;
  }

  pub held_same : (step : Step) → client_of_step step ≢ Some holder → legal s m step ≡ true → Of (next s m step)
  held_same step others h = each_step s m (λ step m2. client_of_step step ≢ Some holder → Of m2) carries_same step h others

pub held_objects_framed : (s : Script) (h : List Step) → IsPlainScript s → is_history s h ≡ true → (step : Step) → legal s (at s h) step
    ≡ true → (client object : ℕ) → holds (at s h) client object ≡ true
    → client_of_step step ≢ Some client → HasSameState s.topology (at s h).device.world (next s (at s h) step).device.world object
held_objects_framed s h plain is step legal_step client object held others =
    let F = history_facts s h plain is in held_same s (at s h) plain F.holds F.locks client object held step others legal_step
