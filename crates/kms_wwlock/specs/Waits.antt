-- Who waits for whom, and that no list of calls leads to a cycle of waits.
-- From: Documentation/locking/ww-mutex-design.rst: with wait-die a context waits for younger ones only, and one
-- that met an older holder dies, that is, holds nothing while it waits.
use Rattle.std.specs.Prelude.{◌≡◌, ℕ, List, [], ◌∷◌, Some, None, replicate}
use Rattle.kms_model.specs.declared.objects.ObjId.{ObjId}
use Rattle.kms_model.specs.declared.objects.Ticket.{Ticket}
use Rattle.kms_wwlock.specs.declared.table.Lock.TheVariants.{Younger}
use Rattle.kms_wwlock.specs.declared.table.Relock.TheVariants.{Held}
use Rattle.kms_wwlock.specs.declared.contexts.ContextDoing.TheVariants.{BackedOff}
use Rattle.kms_wwlock.specs.Table.{Table, holder_of, doing_of}
use Rattle.kms_wwlock.specs.Calls.{MayBegin, after_begin, MayLock, lock_answer, after_lock, MayBackOff, after_backoff, MayRelock}
use Rattle.kms_wwlock.specs.Calls.{relock_answer, after_relock, MayDropAll, after_drop_all}

-- a call that changes the table; one of `begin` that found no memory changes nothing and is none
pub data Call : Type 0 where
  Begin : (client : ℕ) → Call
  Lock : (t : Ticket) (id : ObjId) → Call
  Backoff : (t : Ticket) → Call
  Relock : (t : Ticket) → Call
  DropAll : (t : Ticket) → Call

-- the call's conditions hold
abbrev pub IsCallAllowed : Table → Call → Type 0
IsCallAllowed table (Begin client) = MayBegin table client
IsCallAllowed table (Lock t id) = MayLock table t id
IsCallAllowed table (Backoff t) = MayBackOff table t
IsCallAllowed table (Relock t) = MayRelock table t
IsCallAllowed table (DropAll t) = MayDropAll table t

-- the table after the call
abbrev pub after_call : Table → Call → Table
after_call table (Begin client) = after_begin table client
after_call table (Lock t id) = after_lock table t id (lock_answer t (holder_of table id))
after_call table (Backoff t) = after_backoff table t
after_call table (Relock t) = after_relock table t (relock_answer table t)
after_call table (DropAll t) = after_drop_all table t

-- each call of the list is allowed where it is made
abbrev pub AreAllowed : Table → List Call → Type 0
AreAllowed table [] = Unit {0}
AreAllowed table (call ∷ calls) = IsCallAllowed table call × AreAllowed (after_call table call) calls

abbrev pub after_all : Table → List Call → Table
after_all table [] = table
after_all table (call ∷ calls) = after_all (after_call table call) calls

-- the new table: 28 free objects, no context
abbrev pub empty_table : Table
empty_table = record { holders = replicate 28 None; contexts = []; drawn = 0 }

-- context x waits for context y: it may take locks, and of some object it is told that the younger y holds it;
-- or it has backed off, and is told that y holds its object
pub data ContextWaits (table : Table) (x y : Ticket) : Type 0 where
  ForYounger : (id : ObjId) → MayLock table x id → lock_answer x (holder_of table id) ≡ Younger y → ContextWaits table x y
  ForObject : MayRelock table x → relock_answer table x ≡ Held y → ContextWaits table x y

-- x waits for the first of the list, each of the list for the next one, and the last for z; with an empty list, x
-- waits for z
abbrev pub ContextWaitsAlong : Table → Ticket → List Ticket → Ticket → Type 0
ContextWaitsAlong table x [] z = ContextWaits table x z
ContextWaitsAlong table x (y ∷ ys) z = ContextWaits table x y × ContextWaitsAlong table y ys z

-- no list of calls leads to contexts of which each waits for the next one, and the last for the first
abbrev pub NoCycleOfContexts : Type 0
NoCycleOfContexts =
    (calls : List Call) (first : Ticket) (others : List Ticket)
    → AreAllowed empty_table calls → ¬ ContextWaitsAlong (after_all empty_table calls) first others first

-- after every list of calls, a context that has backed off holds no object
abbrev pub BackedOffHoldsNothing : Type 0
BackedOffHoldsNothing =
    (calls : List Call) (t : Ticket) (id object : ObjId)
    → AreAllowed empty_table calls → doing_of (after_all empty_table calls) t ≡ Some (BackedOff object)
    → ¬ (holder_of (after_all empty_table calls) id ≡ Some t)

-- after every list of calls, who holds an object has begun and is not over
abbrev pub HoldersAreOpen : Type 0
HoldersAreOpen =
    (calls : List Call) (t : Ticket) (id : ObjId)
    → AreAllowed empty_table calls → holder_of (after_all empty_table calls) id ≡ Some t
    → ¬ (doing_of (after_all empty_table calls) t ≡ None)
