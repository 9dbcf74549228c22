-- What was kept of an attempt serves for the next one: through others' steps, and through the client's own.
use Rattle.std.proofs.Common.{◌≡◌, ℕ, zero, suc, ◌-◌, ◌<◌, ◌≤◌, List, ◌++◌, append_assoc, length, set, replicate, Bool, true, false, Option}
use Rattle.std.proofs.Common.{Some, None, refl, sym, ap, ◌∙◌, subst, arith, ⊎_elim}
use Rattle.std.specs.Prelude.{slice_get, if◌then◌else◌}
use Rattle.std.proofs.lemmas.Bool.{cases_eq, false≢true}
use Rattle.kms_model.specs.Device.Places.{alike}
use Rattle.kms_model.specs.declared.objects.Kind.{Kind}
use Rattle.kms_model.specs.declared.objects.Kind.TheVariants.{Conn, Crtc, Plane, Enc}
use Rattle.kms_model.specs.declared.objects.ObjId.{ObjId}
use Rattle.kms_model.specs.declared.objects.Topology.{Topology}
use Rattle.kms_model.specs.declared.scripts.Script.{Script}
use Rattle.kms_model.specs.declared.states.Both.{Both}
use Rattle.kms_model.specs.declared.states.Duplicates.{Duplicates}
use Rattle.kms_model.specs.declared.states.ObjState.{ObjState}
use Rattle.kms_model.specs.declared.states.ObjState.TheVariants as state
use Rattle.kms_model.specs.declared.worlds.Look.{Look}
use Rattle.kms_model.specs.declared.worlds.World.{World}
use Rattle.kms_model.specs.Device.Objects.{exists, first_id, index_of, kind_of, object_id}
use Rattle.kms_model.specs.Machine.Steps.{is_lockable}
use Rattle.kms_model.specs.Machine.State.{holds, place_at, request_at}
use Rattle.kms_model.specs.Request.Agreement.{AgreesOld}
use Rattle.kms_model.specs.Request.Deciding.{AreFresh, AreFreshIn}
use Rattle.kms_model.specs.Request.Lookups.{lookups}
use Rattle.kms_state.specs.Places.{duplicated, may_duplicate, none_duplicated}
use Rattle.kms_state.proofs.OnceDuplicated.{conn_old, crtc_old, free, plane_old}
use Rattle.kms_state.proofs.Slots.{slice_get-set_other, slice_get-set_same}
use Rattle.kms_histlock.specs.Rules.{IsStart}
use Rattle.kms_core.specs.Decisions.{world}
use Rattle.kms_core.specs.Locks.{present_state}
use Rattle.kms_core.specs.Run.{Run, machine}
use Rattle.kms_core.specs.States.{state_of_kind}
use Rattle.kms_device.specs.declared.attempt.Findings.{Findings}
use Rattle.kms_device.specs.Asking.{AreOfLocks, HoldsEach}
use Rattle.kms_device.specs.Attempts.{AreLookedUp, Serves, no_findings, taken_in}
use Rattle.kms_device.specs.Trying.{with_state}
use Rattle.kms_device.specs.Turns.{DevicePass, MayBeFound, run_seen}
use Rattle.kms_device.proofs.Deciding.{of_locks, request-found}
use Rattle.kms_device.proofs.Stepping.{request-same}

-- Look-ups

-- look-ups stay so as the history goes on, while the client stands at its command
pub looked_later : (r r2 : Run) (client : ℕ) (used : List (ℕ × Look)) → r2.script ≡ r.script → IsStart r.steps r2.steps
    → (place_at (machine r2) client).command ≡ (place_at (machine r) client).command
    → AreLookedUp r client used → AreLookedUp r2 client used
looked_later r r2 client used scripts begins same looked = record {
  request = looked.request;
  at = ap (λ s. request_at s (machine r2) client) scripts ∙ (request-same r.script (machine r) (machine r2) client same ∙ looked.at);
  early = looked.early;
  begins = (
    looked.begins.0 ++ begins.0,
    begins.1 ∙
        (ap (λ xs. xs ++ begins.0) looked.begins.1 ∙ append_assoc looked.early looked.begins.0 begins.0),
  );
  told = looked.told ∙ ap {B = List (ℕ × Look)} (λ s. lookups (world (record { script = s; steps = looked.early })) looked.request)
      (sym scripts);
}

-- States

no_state : {S : Type 0} (n index : ℕ) (both : S) → slice_get (replicate n None) index ≡ Some (Some both) → ⊥
no_state {S} zero index both is = absurd cc
no_state {S} (suc n) zero both is = absurd cc
no_state {S} (suc n) (suc index) both is = no_state n index both is

none_each : {S : Type 0} (r : Run) (client : ℕ) (kind : Kind) (n : ℕ) → HoldsEach {S = S} r client kind (replicate n None)
none_each {S} r client kind n index both is = absurd (no_state n index both is)

pub none_of_locks : (r : Run) (client : ℕ) → AreOfLocks r client none_duplicated
none_of_locks r client = record {
  crtcs = none_each r client Crtc 4;
  planes = none_each r client Plane 16;
  conns = none_each r client Conn 8;
  old = record {
    crtcs = λ index both is. absurd (no_state 4 index both is);
    planes = λ index both is. absurd (no_state 16 index both is);
    conns = λ index both is. absurd (no_state 8 index both is);
  };
}

pub none_fresh : AreFresh none_duplicated
none_fresh = record {
  crtcs = λ index both is. absurd (no_state 4 index both is);
  planes = λ index both is. absurd (no_state 16 index both is);
  conns = λ index both is. absurd (no_state 8 index both is);
}

pub serves_new : (r : Run) (client : ℕ) → Serves r client no_findings
serves_new r client = record { looks = λ used is. absurd cc; states = none_of_locks r client; fresh = none_fresh }

-- states stay those of the locks where the context holds no less and the world is the same
pub locks_later : (r r2 : Run) (client : ℕ) (d : Duplicates) → r2.script ≡ r.script → world r2 ≡ world r
    → ((object : ℕ) → holds (machine r) client object ≡ true → holds (machine r2) client object ≡ true)
    → AreOfLocks r client d → AreOfLocks r2 client d
locks_later r r2 client d scripts same keeps own = record {
  crtcs = λ index both is. there Crtc index (own.crtcs index both is);
  planes = λ index both is. there Plane index (own.planes index both is);
  conns = λ index both is. there Conn index (own.conns index both is);
  old = subst (λ (w : World). AgreesOld r2.script.topology w.things w.values d) (sym same)
      (subst (λ (s : Script). AgreesOld s.topology (world r).things (world r).values d) (sym scripts) own.old);
}
  where
    there : (kind : Kind) (index : ℕ) → (exists r.script.topology kind index ≡ true)
        × (holds (machine r) client (object_id kind index) ≡ true)
        → (exists r2.script.topology kind index ≡ true) × (holds (machine r2) client (object_id kind index) ≡ true)
    there kind index h = (subst (λ (s : Script). exists s.topology kind index ≡ true) (sym scripts) h.0, keeps (object_id kind index) h.1)

-- One state more

-- what holds of each state holds of one more
each_set : {S : Type 0} (P : ℕ → Type 0) (states : List (Option S)) (place : ℕ) (x : S)
    → ((index : ℕ) (both : S) → slice_get states index ≡ Some (Some both) → P index) → P place
    → (index : ℕ) (both : S) → slice_get (set states place (Some x)) index ≡ Some (Some both) → P index
each_set P states place x each one index both is =
    ⊎_elim
    (λ (same : index ≡ place). subst P (sym same) one)
    (λ apart. each index both (sym (slice_get-set_other states place index (Some x) apart) ∙ is))
    (cases_eq index place)

fresh_set : {S : Type 0} (states : List (Option (Both S))) (place : ℕ) (s : S) → place < length states → AreFreshIn states
    → AreFreshIn (set states place (Some (alike s)))
fresh_set {S} states place s within fresh index both is =
    ⊎_elim
    (λ (same : index ≡ place).
    let at : Some (Some (alike s)) ≡ Some (Some both) = sym (slice_get-set_same states place (Some (alike s)) within) ∙
    (ap (slice_get (set states place (Some (alike s)))) (sym same) ∙ is) in
    ap (λ (o : Option (Option (Both S))). (found_in o).new) (sym at) ∙ ap (λ (o : Option (Option (Both S))). (found_in o).old) at)
    (λ apart. fresh index both (sym (slice_get-set_other states place index (Some (alike s)) apart) ∙ is))
    (cases_eq index place)
  where
    found_in : Option (Option (Both S)) → Both S
    found_in (Some (Some both)) = both
    found_in (Some None) = alike s
    found_in None = alike s

module _ (r : Run) (client : ℕ) (d : Duplicates) (own : AreOfLocks r client d) (id : ℕ) (held : holds (machine r) client id ≡ true)
    (there : is_lockable r.script.topology (kind_of id) (index_of id) ≡ true) (is_id : first_id (kind_of id) ≤ id) where
  abbrev T : Topology
  T = r.script.topology

  at_place : (kind : Kind) → ((index : ℕ) → is_lockable T kind index ≡ true → exists T kind index ≡ true) → kind_of id ≡ kind
      → (exists T kind (id - first_id kind) ≡ true) × (holds (machine r) client (object_id kind (id - first_id kind)) ≡ true)
  at_place kind lockable_is is =
      let from : first_id kind ≤ id = subst (λ k. first_id k ≤ id) is is_id in
      let same : object_id kind (id - first_id kind) ≡ id = omega (arith, from) in (
        lockable_is (id - first_id kind) (subst (λ k. is_lockable T k (id - first_id k) ≡ true) is there),
        ap (holds (machine r) client) same ∙ held,
      )

  more_of_kind : (kind : Kind) → kind_of id ≡ kind → may_duplicate d id (state_of_kind T (world r) kind id) ≡ true
      → AreOfLocks r client (duplicated d id (state_of_kind T (world r) kind id))
  more_of_kind Crtc is may = record {
    crtcs = each_set (λ index. (exists T Crtc index ≡ true) × (holds (machine r) client (object_id Crtc index) ≡ true)) d.crtcs
        (id - first_id Crtc) _ own.crtcs (at_place Crtc (λ index h. h) is);
    planes = own.planes;
    conns = own.conns;
    old = crtc_old d id _ may T (world r).things (world r).values refl own.old;
  }
  more_of_kind Plane is may = record {
    crtcs = own.crtcs;
    planes = each_set (λ index. (exists T Plane index ≡ true) × (holds (machine r) client (object_id Plane index) ≡ true)) d.planes
        (id - first_id Plane) _ own.planes (at_place Plane (λ index h. h) is);
    conns = own.conns;
    old = plane_old d id _ may T (world r).things (world r).values refl own.old;
  }
  more_of_kind Conn is may = record {
    crtcs = own.crtcs;
    planes = own.planes;
    conns = each_set (λ index. (exists T Conn index ≡ true) × (holds (machine r) client (object_id Conn index) ≡ true)) d.conns
        (id - first_id Conn) _ own.conns (at_place Conn (λ index h. h) is);
    old = conn_old d id _ may T (world r).things (world r).values refl own.old;
  }
  more_of_kind Enc is may = absurd (false≢true (subst (λ k. is_lockable T k (id - first_id k) ≡ true) is there))

  -- the state of an object that the context holds
  pub one_more : AreOfLocks r client (taken_in d id (present_state r (record { 0 = id })))
  one_more = by (may_duplicate d id (state_of_kind T (world r) (kind_of id) id)) refl
    where
      by : (b : Bool) → may_duplicate d id (state_of_kind T (world r) (kind_of id) id) ≡ b
          → AreOfLocks r client (if b then duplicated d id (state_of_kind T (world r) (kind_of id) id) else d)
      by true may = more_of_kind (kind_of id) refl may
      by false may = own

-- a state more is fresh
fresh_of : (d : Duplicates) (id : ℕ) (s : ObjState) → may_duplicate d id s ≡ true → AreFresh d → AreFresh (duplicated d id s)
fresh_of d id (state.Crtc s) may fresh = record {
  crtcs = fresh_set d.crtcs (id - first_id Crtc) s (free Crtc d.crtcs id may).within
      fresh.crtcs;
  planes = fresh.planes;
  conns = fresh.conns;
}
fresh_of d id (state.Plane s) may fresh = record {
  crtcs = fresh.crtcs;
  planes = fresh_set d.planes (id - first_id Plane) s
      (free Plane d.planes id may).within fresh.planes;
  conns = fresh.conns;
}
fresh_of d id (state.Conn s) may fresh = record {
  crtcs = fresh.crtcs;
  planes = fresh.planes;
  conns = fresh_set d.conns (id - first_id Conn)
      s (free Conn d.conns id may).within fresh.conns;
}

pub fresh_more : (d : Duplicates) (id : ℕ) (s : ObjState) → AreFresh d → AreFresh (taken_in d id s)
fresh_more d id s fresh = by (may_duplicate d id s) refl
  where
    by : (b : Bool) → may_duplicate d id s ≡ b → AreFresh (if b then duplicated d id s else d)
    by true may = fresh_of d id s may fresh
    by false may = fresh

-- Both

-- what serves where a pass has seen so much serves in what its turn finds
pub serves_found : (script : Script) (p : DevicePass) (found : Run) → MayBeFound script p found → (kept : Findings)
    → Serves (run_seen script p) p.rank kept → Serves found p.rank kept
serves_found script p found f kept serves = record {
  looks = λ used is.
      (let looked = serves.looks used is in
      record {
        request = looked.request;
        at = request-found script p found f ∙ looked.at;
        early = looked.early;
        begins = (
          looked.begins.0 ++ f.history.begins.0,
          f.history.begins.1 ∙ (ap (λ xs. xs ++ f.history.begins.0) looked.begins.1 ∙ append_assoc looked.early looked.begins.0
              f.history.begins.0),
        );
        told = looked.told ∙ ap {B = List (ℕ × Look)} (λ s. lookups (world (record { script = s; steps = looked.early })) looked.request)
            (sym f.same);
      });
  states = of_locks script p found f kept.states serves.states;
  fresh = serves.fresh;
}

-- through a step of the client's own that changes no state and drops no lock
pub serves_later : (r r2 : Run) (client : ℕ) (kept : Findings) → r2.script ≡ r.script → IsStart r.steps r2.steps
    → (place_at (machine r2) client).command ≡ (place_at (machine r) client).command
    → world r2 ≡ world r → ((object : ℕ) → holds (machine r) client object ≡ true → holds (machine r2) client object ≡ true)
    → Serves r client kept → Serves r2 client kept
serves_later r r2 client kept scripts begins same worlds keeps serves = record {
  looks = λ used is. looked_later r r2 client used scripts begins same (serves.looks used is);
  states = locks_later r r2 client kept.states scripts worlds keeps serves.states;
  fresh = serves.fresh;
}

-- with the state of an object that the context holds
pub serves_more : (r : Run) (client : ℕ) (kept : Findings) (id : ObjId) → holds (machine r) client id.0 ≡ true
    → is_lockable r.script.topology (kind_of id.0) (index_of id.0) ≡ true → first_id (kind_of id.0) ≤ id.0
    → Serves r client kept → Serves r client (with_state kept id (present_state r id))
serves_more r client kept id held there is_id serves = record {
  looks = serves.looks;
  states = one_more r client kept.states serves.states id.0 held there is_id;
  fresh = fresh_more kept.states id.0 (present_state r id) serves.fresh;
}
