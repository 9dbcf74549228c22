-- What each call of the table may be asked, answers and changes.
-- From: Documentation/locking/ww-mutex-design.rst, "Wound/Wait Deadlock-Proof Mutex Design"; drm_modeset_lock.c,
-- `drm_modeset_lock` (-EALREADY is `Own`, -EDEADLK is `Older`), `drm_modeset_backoff` (which here is `backoff` and
-- then `relock`) and `drm_modeset_drop_locks`. Own choice of this device: of the two algorithms it is Wait-Die.
use Rattle.std.specs.Prelude.{◌≡◌, ◌≢◌, ℕ, ◌+◌, ◌<◌, ◌==◌, if◌then◌else◌, nat_lt, not, [], ◌∷◌, ◌++◌, All, map, filter, slice_set, Option}
use Rattle.std.specs.Prelude.{Some, None, IsSome, option_and_then}
use Rattle.kms_model.specs.declared.objects.ObjId.{ObjId}
use Rattle.kms_model.specs.declared.objects.Ticket.{Ticket}
use Rattle.kms_wwlock.specs.declared.contexts.Context.{Context}
use Rattle.kms_wwlock.specs.declared.contexts.ContextDoing.{ContextDoing}
use Rattle.kms_wwlock.specs.declared.contexts.ContextDoing.TheVariants.{Taking, MustBackOff, BackedOff}
use Rattle.kms_wwlock.specs.declared.table.Lock.{Lock}
use Rattle.kms_wwlock.specs.declared.table.Lock.TheVariants.{Got, Own, Older, Younger}
use Rattle.kms_wwlock.specs.declared.table.Relock.{Relock}
use Rattle.kms_wwlock.specs.declared.table.Relock.TheVariants.{Got as GotAgain, Held}
use Rattle.kms_wwlock.specs.Objects.{IsLockable, lock_place}
use Rattle.kms_wwlock.specs.Table.{Table, holder_of, doing_of, must_back_off_for, backed_off_for}

-- parts of the changes

-- the context of a ticket does something else now; the others go on
abbrev pub with_doing : Ticket → ContextDoing → Context → Context
with_doing t doing c = if c.ticket.0 == t.0 then record c { doing = doing } else c

abbrev pub set_doing : Table → Ticket → ContextDoing → Table
set_doing table t doing = record table { contexts = map (with_doing t doing) table.contexts }

-- an object is held by a ticket
abbrev pub locked_by : Table → Ticket → ObjId → Table
locked_by table t id = record table { holders = slice_set table.holders (lock_place id) (Some t) }

-- the holder that an object has once a ticket's locks are free
abbrev pub holder_without : Ticket → Option Ticket → Option Ticket
holder_without t None = None
holder_without t (Some holder) = if holder.0 == t.0 then None else Some holder

-- no object is held by a ticket
abbrev pub unlocked : Table → Ticket → Table
unlocked table t = record table { holders = map (holder_without t) table.holders }

-- what the changes mean for who holds what and for what contexts do

-- an object is held by a ticket now, and who holds the others is as it was
pub record IsTakenBy (old new : Table) (t : Ticket) (id : ObjId) : Type 0 where
  pub locked_by : holder_of new id ≡ Some t
  pub others : (other : ObjId) → IsLockable other → other.0 ≢ id.0 → holder_of new other ≡ holder_of old other

-- a context does this now, or there is none with the ticket, and the others go on as they did
pub record IsDoing (old new : Table) (t : Ticket) (doing : Option ContextDoing) : Type 0 where
  pub now : doing_of new t ≡ doing
  pub others : (other : Ticket) → other.0 ≢ t.0 → doing_of new other ≡ doing_of old other

-- a ticket holds no object now, and who else holds one is as it was
abbrev pub AreUnlocked : Table → Table → Ticket → Type 0
AreUnlocked old new t = (id : ObjId) → holder_of new id ≡ holder_without t (holder_of old id)

-- the context backs off for the object for which it had to
abbrev pub IsBackedOff : Table → Table → Ticket → Type 0
IsBackedOff old new t =
    (id : ObjId) → doing_of old t ≡ Some (MustBackOff id) → IsDoing old new t (Some (BackedOff id))

-- the context holds the object that it backed off for, and may take locks again
abbrev pub IsRelocked : Table → Table → Ticket → Type 0
IsRelocked old new t =
    (id : ObjId) → doing_of old t ≡ Some (BackedOff id) → IsTakenBy old new t id × IsDoing old new t (Some Taking)

-- a fact that holds after `Older`
abbrev pub IfOlder : Lock → Type 0 → Type 0
IfOlder (Older holder) P = P
IfOlder Got P = Unit {0}
IfOlder Own P = Unit {0}
IfOlder (Younger holder) P = Unit {0}

-- begin

-- the client has no context, and a number is left for the ticket
pub record MayBegin (table : Table) (client : ℕ) : Type 0 where
  pub no_context : All (λ c. c.client ≢ client) table.contexts
  pub ticket_left : table.drawn < 4294967295

-- tickets are 0, 1, 2 and so on
abbrev pub next_ticket : Table → Ticket
next_ticket table = record { 0 = table.drawn }

abbrev pub after_begin : Table → ℕ → Table
after_begin table client =
    record table {
      contexts = table.contexts ++ record { ticket = next_ticket table; client = client; doing = Taking } ∷ [];
      drawn = table.drawn + 1;
    }

-- lock

-- the context has begun, is not over, and neither has to back off nor has backed off
pub record MayLock (table : Table) (t : Ticket) (id : ObjId) : Type 0 where
  pub taking : doing_of table t ≡ Some Taking
  pub lockable : IsLockable id

-- what a ticket is told of an object with this holder
abbrev pub lock_answer : Ticket → Option Ticket → Lock
lock_answer t None = Got
lock_answer t (Some holder) =
    if holder.0 == t.0 then Own else if nat_lt holder.0 t.0 then Older holder else Younger holder

abbrev pub after_lock : Table → Ticket → ObjId → Lock → Table
after_lock table t id Got = locked_by table t id
after_lock table t id Own = table
after_lock table t id (Older holder) = set_doing table t (MustBackOff id)
after_lock table t id (Younger holder) = table

-- backoff

-- the last `lock` of the context answered `Older`
abbrev pub MayBackOff : Table → Ticket → Type 0
MayBackOff table t = IsSome (must_back_off_for (doing_of table t))

-- the context holds nothing, and keeps its ticket
abbrev pub backed_off : Table → Ticket → Option ObjId → Table
backed_off table t None = table
backed_off table t (Some id) = set_doing (unlocked table t) t (BackedOff id)

abbrev pub after_backoff : Table → Ticket → Table
after_backoff table t = backed_off table t (must_back_off_for (doing_of table t))

-- relock

-- the context has backed off
abbrev pub MayRelock : Table → Ticket → Type 0
MayRelock table t = IsSome (backed_off_for (doing_of table t))

-- what a context is told of the object that it backed off for, at this holder
abbrev pub relock_from : Option Ticket → Relock
relock_from None = GotAgain
relock_from (Some holder) = Held holder

abbrev pub relock_answer : Table → Ticket → Relock
relock_answer table t = relock_from (option_and_then (holder_of table) (backed_off_for (doing_of table t)))

abbrev pub relocked : Table → Ticket → Option ObjId → Relock → Table
relocked table t (Some id) GotAgain = set_doing (locked_by table t id) t Taking
relocked table t _ _ = table

abbrev pub after_relock : Table → Ticket → Relock → Table
after_relock table t answer = relocked table t (backed_off_for (doing_of table t)) answer

-- drop_all

-- the context has begun and is not over
abbrev pub MayDropAll : Table → Ticket → Type 0
MayDropAll table t = IsSome (doing_of table t)

-- its objects are free, and it is over
abbrev pub after_drop_all : Table → Ticket → Table
after_drop_all table t =
    record (unlocked table t) { contexts = filter (λ c. not (c.ticket.0 == t.0)) table.contexts }
