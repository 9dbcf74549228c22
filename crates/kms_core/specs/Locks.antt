-- What calls on locks ask for and answer. From: "KMS Locking", `drm_modeset_lock.c`.
use Rattle.std.specs.Prelude.{Option, Some, None, ℕ, ◌≡◌, ◌≤◌, ◌&&◌, nat_le, Bool, true, false, List, [], ◌∷◌}
use Rattle.std.specs.Bool.{then_some}
use Rattle.kms_model.specs.Order.Turns.{lock_step}
use Rattle.kms_model.specs.declared.objects.ObjId.{ObjId}
use Rattle.kms_model.specs.declared.objects.Ticket.{Ticket}
use Rattle.kms_model.specs.declared.objects.Topology.{Topology}
use Rattle.kms_model.specs.declared.replies.Step.{Step}
use Rattle.kms_model.specs.declared.replies.Step.TheVariants.{Begin, Relock}
use Rattle.kms_model.specs.declared.runs.Doing.TheVariants as doing
use Rattle.kms_model.specs.declared.states.ObjState.{ObjState}
use Rattle.kms_model.specs.Device.Objects.{first_id, index_of, kind_of}
use Rattle.kms_model.specs.Machine.Histories.{legal}
use Rattle.kms_model.specs.Machine.State.{doing_at, holder_at, holds}
use Rattle.kms_model.specs.Machine.Steps.{contended, is_lockable, taking_at}
use Rattle.kms_model.specs.Request.Reach.{reaches}
use Rattle.kms_wwlock.specs.InStep.{lock_answer, relock_answer, holder_of_contended}
use Rattle.kms_wwlock.specs.Standing.{ticket_in}
use Rattle.kms_wwlock.specs.declared.table.Lock.{Lock as TableLock}
use Rattle.kms_wwlock.specs.declared.table.Lock.TheVariants as table
use Rattle.kms_wwlock.specs.declared.table.Relock.{Relock as TableRelock}
use Rattle.kms_wwlock.specs.declared.table.Relock.TheVariants as again
use Rattle.kms_core.specs.declared.calls.contexts.Locked.{Locked}
use Rattle.kms_core.specs.declared.calls.contexts.Locked.TheVariants as locked
use Rattle.kms_core.specs.States.{state_of_kind}
use Rattle.kms_core.specs.Run.{Run, machine}

-- the client is idle at an atomic request, and the history was not ended
abbrev pub MayBegin : Run → ℕ → Type 0
MayBegin r client = legal r.script (machine r) (Begin client) ≡ true

-- lock

-- a client takes locks in a context with a ticket
abbrev pub IsTaking : Run → ℕ → Ticket → Type 0
IsTaking r client t = doing_at (machine r) client ≡ doing.Taking t

-- A client takes locks in the context, the object is one of the device that has a lock and is in the reach of the client's
-- request, and the history was not ended.
pub record MayLock (r : Run) (t : Ticket) (id : ObjId) : Type 0 where
  pub client : ℕ
  pub taking : IsTaking r client t
  pub is_id : first_id (kind_of id.0) ≤ id.0
  pub lockable : is_lockable r.script.topology (kind_of id.0) (index_of id.0) ≡ true
  pub reached : taking_at r.script (machine r) client (λ q. reaches r.script.topology (machine r).device.world q id.0) ≡ true
  pub goes_on : (machine r).stalled ≡ false

-- the present state of an object
abbrev pub present_state : Run → ObjId → ObjState
present_state r id = state_of_kind r.script.topology (machine r).device.world (kind_of id.0) id.0

-- the id is that of an object of the device that has a lock
abbrev pub has_lock : Topology → ℕ → Bool
has_lock t object = nat_le (first_id (kind_of object)) object && is_lockable t (kind_of object) (index_of object)

-- the present state of such an object, where a client's context holds it
abbrev pub held_state : Run → ℕ → ObjId → Option ObjState
held_state r client id = then_some (has_lock r.script.topology id.0 && holds (machine r) client id.0) (present_state r id)

abbrev pub locked_as : ObjState → TableLock → Locked
locked_as s table.Got = locked.Got s
locked_as s table.Own = locked.Own s
locked_as s (table.Older holder) = locked.Older holder
locked_as s (table.Younger holder) = locked.Younger holder

-- an answer is an event: the object was taken, or the context must back off
abbrev pub is_step : TableLock → Bool
is_step table.Got = true
is_step table.Own = false
is_step (table.Older holder) = true
is_step (table.Younger holder) = false

-- what a client is told that asks for an object
abbrev pub locked_answer : Run → ℕ → ObjId → Locked
locked_answer r client id = locked_as (present_state r id) (lock_answer (machine r) client (holder_at (machine r) id.0))

-- the step that the answer tells: an object was taken, or an older context holds it
abbrev pub lock_steps : ℕ → ObjId → Locked → List Step
lock_steps client id (locked.Got s) = lock_step client id.0 ∷ []
lock_steps client id (locked.Older holder) = lock_step client id.0 ∷ []
lock_steps client id (locked.Own s) = []
lock_steps client id (locked.Younger holder) = []
lock_steps client id (locked.Held holder) = []

-- backoff and relock

-- the context of a client has a ticket
abbrev pub HasContext : Run → ℕ → Ticket → Type 0
HasContext r client t = ticket_in (doing_at (machine r) client) ≡ Some t

-- The context must back off, and the history was not ended.
pub record MayBackOff (r : Run) (t : Ticket) : Type 0 where
  pub client : ℕ
  pub object : ObjId
  pub must : doing_at (machine r) client ≡ doing.MustBackOff t object
  pub goes_on : (machine r).stalled ≡ false

-- The context backed off, and the history was not ended.
pub record MayRelock (r : Run) (t : Ticket) : Type 0 where
  pub client : ℕ
  pub object : ObjId
  pub off : doing_at (machine r) client ≡ doing.BackedOff t object
  pub goes_on : (machine r).stalled ≡ false

abbrev pub relocked_as : ObjState → TableRelock → Locked
relocked_as s again.Got = locked.Got s
relocked_as s (again.Held holder) = locked.Held holder

-- the object that a client backed off for, by a number that stands for none
abbrev pub object_or_zero : Option ℕ → ObjId
object_or_zero None = record { 0 = 0 }
object_or_zero (Some object) = record { 0 = object }

-- what a client is told that asks again for the object that it backed off for
abbrev pub relocked_answer : Run → ℕ → Locked
relocked_answer r client =
    let asked = contended (doing_at (machine r) client) in
    relocked_as (present_state r (object_or_zero asked)) (relock_answer (machine r) (holder_of_contended (machine r) asked))

-- the step that the answer tells: the object was taken
abbrev pub relock_steps : ℕ → Locked → List Step
relock_steps client (locked.Got s) = Relock client ∷ []
relock_steps client (locked.Held holder) = []
relock_steps client (locked.Own s) = []
relock_steps client (locked.Older holder) = []
relock_steps client (locked.Younger holder) = []
