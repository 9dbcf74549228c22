-- What a client holds is an object of the device that has a lock.
use Rattle.std.proofs.Common.{◌≡◌, ℕ, ◌-◌, ◌≤◌, ◌++◌, true, sym, ap, ◌∙◌, subst, arith, inl, inr}
use Rattle.std.proofs.lemmas.Bool.{lt-ltb}
use Rattle.kms_model.specs.declared.objects.Kind.{Kind}
use Rattle.kms_model.specs.declared.objects.Kind.TheVariants.{Conn, Crtc, Plane}
use Rattle.kms_model.specs.declared.objects.Topology.{Topology}
use Rattle.kms_model.specs.Device.Objects.{count_of, exists, first_id, ids_of, index_of, kind_of}
use Rattle.kms_model.specs.Machine.Commits.{lockable}
use Rattle.kms_model.specs.Machine.State.{holder_at, holds}
use Rattle.kms_model.specs.Machine.Steps.{is_lockable}
use Rattle.kms_model.proofs.Facts.{value-is}
use Rattle.kms_model.proofs.Items.{IsIn, ids-in}
use Rattle.kms_model.proofs.KindsOfIds.{kind_of-object}
use Rattle.kms_model.proofs.TouchedLemmas.{HasFewObjects, few_objects, few_of}
use Rattle.kms_laws.proofs.Basics.{in_either}
use Rattle.kms_laws.proofs.Modes.{plain-from}
use Rattle.kms_laws.proofs.NeverStuck.{history_facts}
use Rattle.kms_core.specs.Run.{Run, machine}
use Rattle.kms_device.specs.Turns.{IsOpen}

pub record IsLockableId (t : Topology) (id : ℕ) : Type 0 where
  pub is_id : first_id (kind_of id) ≤ id
  pub can_lock : is_lockable t (kind_of id) (index_of id) ≡ true

module _ (t : Topology) (few : HasFewObjects t) (id : ℕ) where
  -- `there` is what a kind with locks tells: its objects have one
  of_kind : (kind : Kind) → ((index : ℕ) → exists t kind index ≡ true → is_lockable t kind index ≡ true) → IsIn id (ids_of t kind)
      → IsLockableId t id
  of_kind kind there is =
      let o = ids-in t kind id is in
      let many = few_of t kind few in
      let is_kind : kind_of id ≡ kind = ap kind_of o.same ∙ kind_of-object kind o.index (omega (arith, o.within, many)) in
      let index : id - first_id kind ≡ o.index = omega (arith, o.same) in
      record {
        is_id = subst (λ k. first_id k ≤ id) (sym is_kind) (omega (arith, o.same));
        can_lock = subst (λ k. is_lockable t k (id - first_id k) ≡ true) (sym is_kind)
            (there (id - first_id kind) (ap (exists t kind) index ∙ lt-ltb o.index (count_of t kind) o.within));
      }

  pub lockable_id : IsIn id (lockable t) → IsLockableId t id
  lockable_id is =
      elim (in_either (ids_of t Crtc) (ids_of t Plane ++ ids_of t Conn) id is) [
        | inl crtc ↦ of_kind Crtc (λ index h. h) crtc
        | inr other ↦ elim (in_either (ids_of t Plane) (ids_of t Conn) id other) [
          | inl plane ↦ of_kind Plane (λ index h. h) plane
          | inr conn ↦ of_kind Conn (λ index h. h) conn
        ]
      ]

pub held_object : (r : Run) (client id : ℕ) → IsOpen r → holds (machine r) client id ≡ true → IsLockableId r.script.topology id
held_object r client id is_open held =
    lockable_id r.script.topology (few_objects r.script.topology is_open.formed.device) id
    ((history_facts r.script r.steps (plain-from r.script is_open.formed) is_open.history).locks.held_there id client
    (value-is client (holder_at (machine r) id) held))
