-- What the lock table holds.
use Rattle.std.specs.Prelude.{ℕ, ◌<◌, ◌==◌, if◌then◌else◌, List, [], ◌∷◌, All, Option, Some, None, slice_index_or}
use Rattle.kms_model.specs.declared.objects.ObjId.{ObjId}
use Rattle.kms_model.specs.declared.objects.Ticket.{Ticket}
use Rattle.kms_wwlock.specs.declared.contexts.Context.{Context}
use Rattle.kms_wwlock.specs.declared.contexts.ContextDoing.{ContextDoing}
use Rattle.kms_wwlock.specs.declared.contexts.ContextDoing.TheVariants.{Taking, MustBackOff, BackedOff}
use Rattle.kms_wwlock.specs.Objects.{IsLockable, lock_place}

pub record Table : Type 0 where
  -- for each lockable object, in the order of their ids, the context that holds it: one at most
  pub holders : List (Option Ticket)
  -- the contexts that have begun and are not over, in the order in which they began
  pub contexts : List Context
  -- how many contexts have begun: the ticket of the next one
  pub drawn : ℕ

-- the context that holds an object
abbrev pub holder_of : Table → ObjId → Option Ticket
holder_of table id = slice_index_or table.holders (lock_place id) None

abbrev pub doing_in_contexts : List Context → Ticket → Option ContextDoing
doing_in_contexts [] t = None
doing_in_contexts (c ∷ cs) t = if c.ticket.0 == t.0 then Some c.doing else doing_in_contexts cs t

-- what the context with a ticket is doing, where it has begun and is not over
abbrev pub doing_of : Table → Ticket → Option ContextDoing
doing_of table t = doing_in_contexts table.contexts t

-- the object for which a context has to back off
abbrev pub must_back_off_for : Option ContextDoing → Option ObjId
must_back_off_for (Some (MustBackOff id)) = Some id
must_back_off_for _ = None

-- the object for which a context has backed off
abbrev pub backed_off_for : Option ContextDoing → Option ObjId
backed_off_for (Some (BackedOff id)) = Some id
backed_off_for _ = None

-- the object that a context names is lockable
abbrev pub IsOfLockable : ContextDoing → Type 0
IsOfLockable Taking = Unit {0}
IsOfLockable (MustBackOff id) = IsLockable id
IsOfLockable (BackedOff id) = IsLockable id

abbrev pub NamesLockable : Context → Type 0
NamesLockable c = IsOfLockable c.doing

abbrev pub IsBelow : ℕ → Context → Type 0
IsBelow drawn c = c.ticket.0 < drawn

-- what holds of the contexts of every table
pub record AreOfTable (contexts : List Context) (drawn : ℕ) : Type 0 where
  pub lockable : All NamesLockable contexts
  pub below : All (IsBelow drawn) contexts
