-- The present states that are stored are those of the world.
use Rattle.std.proofs.Common.{◌≡◌, ℕ, ◌≤◌, ◌-◌, ◌+◌, true, List, length, Option, Some, None, refl, ap, ◌∙◌, arith}
use Rattle.std.specs.Prelude.{is_some, slice_get}
use Rattle.std.specs.Option.{option_map}
use Rattle.std.proofs.lemmas.Bool.{ltb-true, lt-ltb}
use Rattle.std.proofs.Common.{◌++◌, inl, inr}
use Rattle.std.specs.Prelude.{nat_lt}
use Rattle.kms_model.proofs.Items.{IsIn, IsObject, ids-in}
use Rattle.kms_model.proofs.TouchedLemmas.{HasFewObjects}
use Rattle.kms_model.specs.Device.Places.{state_at}
use Rattle.kms_model.specs.Machine.Commits.{lockable}
use Rattle.kms_laws.proofs.Basics.{in_either}
use Rattle.kms_laws.proofs.Objects.{crtc_kind, plane_kind, conn_kind}
use Rattle.kms_model.specs.declared.objects.Kind.{Kind}
use Rattle.kms_model.specs.declared.objects.Kind.TheVariants.{Crtc, Plane, Conn, Enc}
use Rattle.kms_model.specs.declared.objects.Topology.{Topology}
use Rattle.kms_model.specs.declared.states.Both.{Both}
use Rattle.kms_model.specs.declared.states.Duplicates.{Duplicates}
use Rattle.kms_model.specs.declared.states.ObjState.{ObjState}
use Rattle.kms_model.specs.declared.states.ObjState.TheVariants as state
use Rattle.kms_model.specs.declared.worlds.World.{World}
use Rattle.kms_model.specs.Device.Objects.{count_of, exists, ids_of, first_id, index_of, kind_of}
use Rattle.kms_model.specs.Device.States.{plane_at}
use Rattle.kms_model.specs.Machine.Steps.{is_lockable}
use Rattle.kms_model.specs.Request.Agreement.{conn_state_at, crtc_state_at}
use Rattle.kms_state.proofs.Slots.{slot_at}
use Rattle.kms_things.specs.Present.{IsPresent}
use Rattle.kms_core.specs.States.{state_of_kind, stored_of_kind, stored_state}

-- the state in a slot that is there
in_slot : {S : Type 0} (states : List (Option (Both S))) (index : ℕ) (wrap : S → ObjState) (s : S) → is_some (state_at states index) ≡ true
    → ((both : Both S) → slice_get states index ≡ Some (Some both) → both.new ≡ s)
    → option_map wrap (option_map (λ b. b.new) (state_at states index)) ≡ Some (wrap s)
in_slot states index wrap s there new = at (state_at states index) refl there where
  at : (o : Option _) → state_at states index ≡ o → is_some o ≡ true → option_map wrap (option_map (λ b. b.new) o) ≡ Some (wrap s)
  at None e some = absurd cc
  at (Some both) e some = ap (λ x. Some (wrap x)) (new both (slot_at states index both e))

pub stored : {t : Topology} {w : World} {d : Duplicates} (id : ℕ) → IsPresent t w d → first_id (kind_of id) ≤ id
    → is_lockable t (kind_of id) (index_of id) ≡ true → stored_state d id ≡ Some (state_of_kind t w (kind_of id) id)
stored {t} {w} {d} id present low lockable = of_kind (kind_of id) low lockable where
  of_kind : (kind : Kind) → first_id kind ≤ id → is_lockable t kind (id - first_id kind) ≡ true → stored_of_kind d kind (id - first_id kind)
      ≡ Some (state_of_kind t w kind id)
  of_kind Crtc low is =
      let own : 100 + (id - 100) ≡ id = omega arith in
      in_slot d.crtcs (id - 100) (λ s. state.Crtc s) (crtc_state_at t w.things w.values id)
      (present.whole.crtcs.there (id - 100) (ltb-true (id - 100) t.crtcs is))
      (λ both at. present.new.crtcs (id - 100) both at ∙ ap (λ n. crtc_state_at t w.things w.values n) own)
  of_kind Plane low is =
      let own : 200 + (id - 200) ≡ id = omega arith in
      in_slot d.planes (id - 200) (λ s. state.Plane s) (plane_at w.things w.values id)
      (present.whole.planes.there (id - 200) (ltb-true (id - 200) (length t.planes) is))
      (λ both at. present.new.planes (id - 200) both at ∙ ap (λ n. plane_at w.things w.values n) own)
  of_kind Conn low is =
      let own : 300 + (id - 300) ≡ id = omega arith in
      in_slot d.conns (id - 300) (λ s. state.Conn s) (conn_state_at w.values id)
      (present.whole.conns.there (id - 300) (ltb-true (id - 300) (length t.conns) is))
      (λ both at. present.new.conns (id - 300) both at ∙ ap (λ n. conn_state_at w.values n) own)
  of_kind Enc low is = absurd cc

-- an object that has a lock is on the device
pub record IsOnDevice (t : Topology) (id : ℕ) : Type 0 where
  pub is_id : first_id (kind_of id) ≤ id
  pub lockable : is_lockable t (kind_of id) (index_of id) ≡ true

of_its_kind : {t : Topology} {kind : Kind} {id : ℕ} → (kind ≡ Enc → ⊥) → kind_of id ≡ kind → IsObject t kind id → IsOnDevice t id
of_its_kind {t} {kind} {id} not_enc e is = record {
  is_id = rw e (omega (arith, is.same));
  lockable = rw e (no_encoder kind not_enc (rw (is.same)
      (ap (λ n. nat_lt n (count_of t kind)) (omega arith) ∙ lt-ltb is.index (count_of t kind) is.within)));
} where
  no_encoder : (k : Kind) → (k ≡ Enc → ⊥) → exists t k (id - first_id k) ≡ true → is_lockable t k (id - first_id k) ≡ true
  no_encoder Crtc not_it e = e
  no_encoder Plane not_it e = e
  no_encoder Conn not_it e = e
  no_encoder Enc not_it e = absurd (not_it refl)

pub on_device : (t : Topology) (id : ℕ) → HasFewObjects t → IsIn id (lockable t) → IsOnDevice t id
on_device t id few is =
    elim (in_either (ids_of t Crtc) (ids_of t Plane ++ ids_of t Conn) id is) [
      | inl crtc ↦ of_its_kind (λ e. cc) (crtc_kind t id few crtc) (ids-in t Crtc id crtc)
      | inr rest ↦ elim (in_either (ids_of t Plane) (ids_of t Conn) id rest) [
        | inl plane ↦ of_its_kind (λ e. cc) (plane_kind t id few plane) (ids-in t Plane id plane)
        | inr conn ↦ of_its_kind (λ e. cc) (conn_kind t id few conn) (ids-in t Conn id conn)
      ]
    ]
