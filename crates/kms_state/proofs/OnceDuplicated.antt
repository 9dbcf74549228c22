-- What duplicating a state makes of the others.
use Rattle.std.proofs.Common.{◌≡◌, ◌≢◌, ℕ, ◌-◌, ◌<◌, ◌≤◌, length, set, List, Option, Some, None, Bool, true, false, is_some, slice_get, inl}
use Rattle.std.proofs.Common.{inr, refl, sym, ap, ◌∙◌, arith, if◌then◌else◌}
use Rattle.std.specs.Prelude.{◌==◌, ◌||◌}
use Rattle.std.specs.Option.{option_flatten}
use Rattle.std.proofs.lemmas.Bool.{cases_eq, cases_lt, eq-eqb, false≢true, le-leb, lt-leb, ne_eqb}
use Rattle.std.proofs.lemmas.Option.{slice_get_within}
use Rattle.kms_model.specs.Device.Places.{alike}
use Rattle.kms_model.specs.declared.objects.Kind.{Kind}
use Rattle.kms_model.specs.declared.objects.Kind.TheVariants.{Crtc, Plane, Conn, Enc}
use Rattle.kms_model.specs.declared.states.ConnState.{ConnState}
use Rattle.kms_model.specs.declared.states.CrtcState.{CrtcState}
use Rattle.kms_model.specs.declared.states.Duplicates.{Duplicates}
use Rattle.kms_model.specs.declared.states.PlaneState.{PlaneState}
use Rattle.kms_model.specs.declared.states.ObjState.TheVariants as state
use Rattle.kms_model.specs.Device.Objects.{first_id, object_id, kind_of}
use Rattle.kms_model.specs.Device.States.{plane_at}
use Rattle.kms_model.specs.Request.Agreement.{conn_state_at, crtc_state_at}
use Rattle.kms_state.specs.Places.{duplicated, is_duplicated, is_duplicated_of, is_free, is_free_place, state_of}
use Rattle.kms_state.specs.StandsIn.{KeepsNew, KeepsOld}
use Rattle.kms_model.proofs.KindsOfIds.{kind-conn, kind-crtc, kind-plane}
use Rattle.kms_state.proofs.Slots.{AreNew-set, AreOld-set, slice_get-set_other, slice_get-set_same}

-- an empty place for an object of a kind
pub record IsFree {S : Type 0} (kind : Kind) (states : List (Option S)) (id : ℕ) : Type 0 where
  pub from : first_id kind ≤ id
  pub within : id - first_id kind < length states

free_within : {S : Type 0} (states : List (Option S)) (index : ℕ) (slot : Option (Option S)) → slice_get states index ≡ slot
    → is_free_place slot ≡ true → index < length states
free_within states index None is h = absurd (false≢true h)
free_within states index (Some None) is h = slice_get_within states index None is
free_within states index (Some (Some s)) is h = absurd (false≢true h)

pub free : {S : Type 0} (kind : Kind) (states : List (Option S)) (id : ℕ) → is_free kind states id ≡ true → IsFree kind states id
free {S} kind states id h =
    elim (cases_lt id (first_id kind)) [
      | inl below ↦ absurd (false≢true (sym (ap (λ b. if b then is_free_place (slice_get states (id - first_id kind)) else false)
          (lt-leb (first_id kind) id below)) ∙ h))
      | inr from ↦ (
          let is : is_free_place (slice_get states (id - first_id kind))
          ≡ true = sym (ap (λ b. if b then is_free_place (slice_get states (id - first_id kind)) else false)
          (le-leb (first_id kind) id from)) ∙ h in
          record { from = from; within = free_within states (id - first_id kind) (slice_get states (id - first_id kind)) refl is })
    ]

-- what is duplicated after one more is put in
put_in : {S : Type 0} {kind : Kind} {states : List (Option S)} {id : ℕ} (s : S) (o : ℕ) → IsFree kind states id
    → is_some (state_of kind (set states (id - first_id kind) (Some s)) o) ≡ ((o == id) || is_some (state_of kind states o))
put_in {S} {kind} {states} {id} s o place =
    elim (cases_eq o id) [
      | inl same ↦ (
          let from : first_id kind ≤ o = omega (arith, place.from, same) in
          let at : slice_get (set states (id - first_id kind) (Some s)) (o - first_id kind)
          ≡ Some (Some s) = ap (λ x. slice_get (set states (id - first_id kind) (Some s)) (x - first_id kind)) same ∙ slice_get-set_same
          states (id - first_id kind) (Some s) place.within in
          rw (eq-eqb o id same, le-leb (first_id kind) o from, at) refl)
      | inr other ↦ elim (cases_lt o (first_id kind)) [
        | inl below ↦ rw (ne_eqb o id other, lt-leb (first_id kind) o below) refl
        | inr from ↦ (
            let apart : o - first_id kind ≢ id - first_id kind = λ e. other (omega (arith, e, place.from)) in
            rw (ne_eqb o id other, le-leb (first_id kind) o from)
            (ap (λ (x : Option (Option S)). is_some (option_flatten x))
            (slice_get-set_other states (id - first_id kind) (o - first_id kind) (Some s) apart)))
      ]
    ]

-- an object of another kind is another
other_kind : (o id : ℕ) {kind other : Kind} → kind_of o ≡ kind → kind_of id ≡ other → kind ≢ other → (b : Bool) → b ≡ ((o == id) || b)
other_kind o id is_o is_id apart b = sym (ap (λ x. x || b) (ne_eqb o id (λ e. apart (sym is_o ∙ ap kind_of e ∙ is_id))))

there_after_crtc : (d : Duplicates) (id o : ℕ) (s : CrtcState) (kind : Kind) → kind_of o ≡ kind → kind_of id ≡ Crtc → IsFree Crtc d.crtcs id
    → is_duplicated_of kind (duplicated d id (state.Crtc s)) o ≡ ((o == id) || is_duplicated_of kind d o)
there_after_crtc d id o s Crtc is_o is_id place = put_in (alike s) o place
there_after_crtc d id o s Plane is_o is_id place = other_kind o id is_o is_id (λ e. cc) (is_some (state_of Plane d.planes o))
there_after_crtc d id o s Conn is_o is_id place = other_kind o id is_o is_id (λ e. cc) (is_some (state_of Conn d.conns o))
there_after_crtc d id o s Enc is_o is_id place = other_kind o id is_o is_id (λ e. cc) false

there_after_plane : (d : Duplicates) (id o : ℕ) (s : PlaneState) (kind : Kind) → kind_of o ≡ kind → kind_of id ≡ Plane
    → IsFree Plane d.planes id
    → is_duplicated_of kind (duplicated d id (state.Plane s)) o ≡ ((o == id) || is_duplicated_of kind d o)
there_after_plane d id o s Crtc is_o is_id place = other_kind o id is_o is_id (λ e. cc) (is_some (state_of Crtc d.crtcs o))
there_after_plane d id o s Plane is_o is_id place = put_in (alike s) o place
there_after_plane d id o s Conn is_o is_id place = other_kind o id is_o is_id (λ e. cc) (is_some (state_of Conn d.conns o))
there_after_plane d id o s Enc is_o is_id place = other_kind o id is_o is_id (λ e. cc) false

there_after_conn : (d : Duplicates) (id o : ℕ) (s : ConnState) (kind : Kind) → kind_of o ≡ kind → kind_of id ≡ Conn → IsFree Conn d.conns id
    → is_duplicated_of kind (duplicated d id (state.Conn s)) o ≡ ((o == id) || is_duplicated_of kind d o)
there_after_conn d id o s Crtc is_o is_id place = other_kind o id is_o is_id (λ e. cc) (is_some (state_of Crtc d.crtcs o))
there_after_conn d id o s Plane is_o is_id place = other_kind o id is_o is_id (λ e. cc) (is_some (state_of Plane d.planes o))
there_after_conn d id o s Conn is_o is_id place = put_in (alike s) o place
there_after_conn d id o s Enc is_o is_id place = other_kind o id is_o is_id (λ e. cc) false

-- a CRTC's state duplicated
pub crtc_duplicated : (d : Duplicates) (id o : ℕ) (s : CrtcState) → length d.crtcs ≡ 4 → is_free Crtc d.crtcs id ≡ true
    → is_duplicated (duplicated d id (state.Crtc s)) o ≡ ((o == id) || is_duplicated d o)
crtc_duplicated d id o s few h =
    let place : IsFree Crtc d.crtcs id = free Crtc d.crtcs id h in
    there_after_crtc d id o s (kind_of o) refl (kind-crtc id (omega (arith, place.within, few))) place

pub plane_duplicated : (d : Duplicates) (id o : ℕ) (s : PlaneState) → length d.planes ≡ 16 → is_free Plane d.planes id ≡ true
    → is_duplicated (duplicated d id (state.Plane s)) o ≡ ((o == id) || is_duplicated d o)
plane_duplicated d id o s few h =
    let place : IsFree Plane d.planes id = free Plane d.planes id h in
    there_after_plane d id o s (kind_of o) refl (kind-plane id place.from (omega (arith, place.within, few))) place

pub conn_duplicated : (d : Duplicates) (id o : ℕ) (s : ConnState) → length d.conns ≡ 8 → is_free Conn d.conns id ≡ true
    → is_duplicated (duplicated d id (state.Conn s)) o ≡ ((o == id) || is_duplicated d o)
conn_duplicated d id o s few h =
    let place : IsFree Conn d.conns id = free Conn d.conns id h in
    there_after_conn d id o s (kind_of o) refl (kind-conn id place.from (omega (arith, place.within, few))) place

-- agreement of the new states
pub crtc_new : (d : Duplicates) (id : ℕ) (s : CrtcState) → is_free Crtc d.crtcs id ≡ true
    → KeepsNew d id (state.Crtc s) (duplicated d id (state.Crtc s))
crtc_new d id s h t things values is agrees =
    let at : id ≡ object_id Crtc (id - first_id Crtc) = omega (arith, (free Crtc d.crtcs id h).from) in
    let f : ℕ → CrtcState = λ index. crtc_state_at t things values (object_id Crtc index) in
    record {
      crtcs = AreNew-set f f d.crtcs (id - first_id Crtc) (alike s) agrees.crtcs (λ k h ne. refl)
          (is ∙ ap (crtc_state_at t things values) at);
      planes = agrees.planes;
      conns = agrees.conns;
    }

pub plane_new : (d : Duplicates) (id : ℕ) (s : PlaneState) → is_free Plane d.planes id ≡ true
    → KeepsNew d id (state.Plane s) (duplicated d id (state.Plane s))
plane_new d id s h t things values is agrees =
    let at : id ≡ object_id Plane (id - first_id Plane) = omega (arith, (free Plane d.planes id h).from) in
    let f : ℕ → PlaneState = λ index. plane_at things values (object_id Plane index) in
    record {
      crtcs = agrees.crtcs;
      planes = AreNew-set f f d.planes (id - first_id Plane) (alike s) agrees.planes (λ k h ne. refl)
          (is ∙ ap (plane_at things values) at);
      conns = agrees.conns;
    }

pub conn_new : (d : Duplicates) (id : ℕ) (s : ConnState) → is_free Conn d.conns id ≡ true
    → KeepsNew d id (state.Conn s) (duplicated d id (state.Conn s))
conn_new d id s h t things values is agrees =
    let at : id ≡ object_id Conn (id - first_id Conn) = omega (arith, (free Conn d.conns id h).from) in
    let f : ℕ → ConnState = λ index. conn_state_at values (object_id Conn index) in
    record {
      crtcs = agrees.crtcs;
      planes = agrees.planes;
      conns = AreNew-set f f d.conns (id - first_id Conn) (alike s) agrees.conns
          (λ k h ne. refl) (is ∙ ap (conn_state_at values) at);
    }

-- agreement of the old states
pub crtc_old : (d : Duplicates) (id : ℕ) (s : CrtcState) → is_free Crtc d.crtcs id ≡ true
    → KeepsOld d id (state.Crtc s) (duplicated d id (state.Crtc s))
crtc_old d id s h t things values is agrees =
    let at : id ≡ object_id Crtc (id - first_id Crtc) = omega (arith, (free Crtc d.crtcs id h).from) in
    record {
      crtcs = AreOld-set (λ index. crtc_state_at t things values (object_id Crtc index)) d.crtcs (id - first_id Crtc) (alike s)
          agrees.crtcs (is ∙ ap (crtc_state_at t things values) at);
      planes = agrees.planes;
      conns = agrees.conns;
    }

pub plane_old : (d : Duplicates) (id : ℕ) (s : PlaneState) → is_free Plane d.planes id ≡ true
    → KeepsOld d id (state.Plane s) (duplicated d id (state.Plane s))
plane_old d id s h t things values is agrees =
    let at : id ≡ object_id Plane (id - first_id Plane) = omega (arith, (free Plane d.planes id h).from) in
    record {
      crtcs = agrees.crtcs;
      planes = AreOld-set (λ index. plane_at things values (object_id Plane index)) d.planes
          (id - first_id Plane) (alike s) agrees.planes (is ∙ ap (plane_at things values) at);
      conns = agrees.conns;
    }

pub conn_old : (d : Duplicates) (id : ℕ) (s : ConnState) → is_free Conn d.conns id ≡ true
    → KeepsOld d id (state.Conn s) (duplicated d id (state.Conn s))
conn_old d id s h t things values is agrees =
    let at : id ≡ object_id Conn (id - first_id Conn) = omega (arith, (free Conn d.conns id h).from) in
    record {
      crtcs = agrees.crtcs;
      planes = agrees.planes;
      conns = AreOld-set (λ index. conn_state_at values (object_id Conn index)) d.conns
          (id - first_id Conn) (alike s) agrees.conns (is ∙ ap (conn_state_at values) at);
    }
