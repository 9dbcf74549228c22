-- What is told of an object that a client's context holds.
use Rattle.std.proofs.Common.{◌≡◌, ℕ, true, Some, refl, sym, ap, ◌∙◌}
use Rattle.std.specs.Bool.{then_some}
use Rattle.std.specs.Prelude.{nat_le}
use Rattle.std.proofs.lemmas.Bool.{and_from, and_parts, eq-eqb, leb-true}
use Rattle.kms_model.specs.declared.objects.ObjId.{ObjId}
use Rattle.kms_model.specs.Device.Objects.{first_id, index_of, kind_of}
use Rattle.kms_model.specs.Machine.State.{has_value, holder_at, holds}
use Rattle.kms_model.specs.Machine.Steps.{is_lockable}
use Rattle.kms_core.specs.Locks.{has_lock, held_state, present_state}
use Rattle.kms_core.specs.States.{stored_state}
use Rattle.kms_core.proofs.calls.Stored.{stored}
use Rattle.kms_core.specs.Run.{Run, machine}
use Rattle.kms_core.specs.Stands.{Stands, Stores}

pub held_is : {r : Run} {st : Stores} (client : ℕ) (id : ObjId) → Stands r st → has_lock r.script.topology id.0 ≡ true
    → holder_at (machine r) id.0 ≡ Some client
    → stored_state st.present id.0 ≡ held_state r client id
held_is {r} {st} client id stands lock holder =
    let both = and_parts (nat_le (first_id (kind_of id.0)) id.0) (is_lockable r.script.topology (kind_of id.0) (index_of id.0)) lock in
    let holds_it : holds (machine r) client id.0 ≡ true = ap (has_value client) holder ∙ eq-eqb client client refl in
    let told : held_state r client id ≡ Some (present_state r id) = ap (λ b. then_some b (present_state r id))
    (and_from (has_lock r.script.topology id.0) (holds (machine r) client id.0) lock holds_it) in
    (stored id.0 stands.stores.world.states
    (leb-true (first_id (kind_of id.0)) id.0 both.0) both.1 ∙ sym told)
