-- When clients and their locks stand for those of a machine, and what is answered where a lock is asked for.
-- From: Documentation/locking/ww-mutex-design.rst, wait-die: an older context waits, a younger one backs off.
use Rattle.std.specs.Prelude.{ℕ, ◌≡◌, ◌==◌, nat_lt, List, Option, Some, None, if◌then◌else◌}
use Rattle.kms_model.specs.declared.objects.ObjId.{ObjId}
use Rattle.kms_model.specs.declared.objects.Ticket.{Ticket}
use Rattle.kms_model.specs.declared.runs.Doing.{Doing}
use Rattle.kms_model.specs.declared.runs.Doing.TheVariants as doing
use Rattle.kms_model.specs.declared.runs.Place.{Place}
use Rattle.kms_model.specs.Machine.Effects.{locked, relocked, backed_off, drops_locks, goes_on, now_doing}
use Rattle.kms_model.specs.Machine.Registers.{read}
use Rattle.kms_model.specs.Machine.State.{Contexts, Machine, doing_at, holder_at}
use Rattle.kms_model.specs.Machine.Steps.{contended, ticket_of}
use Rattle.kms_wwlock.specs.declared.table.Lock.{Lock}
use Rattle.kms_wwlock.specs.declared.table.Lock.TheVariants as lock
use Rattle.kms_wwlock.specs.declared.table.Relock.{Relock}
use Rattle.kms_wwlock.specs.declared.table.Relock.TheVariants as relock
use Rattle.kms_wwlock.specs.Objects.{IsLockable}
use Rattle.kms_wwlock.specs.Table.{holder_of}
use Rattle.kms_wwlock.specs.Standing.{Standing, IsClient, first_place, place_of, doing_in, ticket_in}

-- the ticket that holds an object is that of the client that holds it
abbrev pub IsHeldAs : List Place → Option Ticket → Option ℕ → Type 0
IsHeldAs places None None = Unit {0}
IsHeldAs places (Some t) (Some client) = IsClient client × (ticket_in (doing_in places client) ≡ Some t)
IsHeldAs places None (Some client) = ⊥
IsHeldAs places (Some t) None = ⊥

-- clients stand where those of a machine do, and hold the same locks
pub record AreClientsOf (x : Contexts) (v : Standing) : Type 0 where
  pub places : (client : ℕ) → IsClient client → place_of v client ≡ read first_place x.places client
  pub tickets : v.table.drawn ≡ x.tickets
  pub holders : (id : ObjId) → IsLockable id → IsHeldAs v.places (holder_of v.table id) (read None x.locks id.0)

-- What a client does

abbrev pub IsTaking : Doing → Type 0
IsTaking (doing.Taking t) = Unit {0}
IsTaking _ = ⊥

abbrev pub MustBackOff : Doing → Type 0
MustBackOff (doing.MustBackOff t object) = Unit {0}
MustBackOff _ = ⊥

abbrev pub HasBackedOff : Doing → Type 0
HasBackedOff (doing.BackedOff t object) = Unit {0}
HasBackedOff _ = ⊥

-- it has no context
abbrev pub HasNoContext : Doing → Type 0
HasNoContext d = ticket_in d ≡ None

-- Answers

abbrev pub ticket_at : Machine → ℕ → Ticket
ticket_at m client = record { 0 = ticket_of (doing_at m client) }

-- what a client is told of an object that this client holds, or no one
abbrev pub lock_answer : Machine → ℕ → Option ℕ → Lock
lock_answer m client None = lock.Got
lock_answer m client (Some holder) =
    if holder == client then lock.Own
    else if nat_lt (ticket_at m holder).0 (ticket_at m client).0 then lock.Older (ticket_at m holder)
    else lock.Younger (ticket_at m holder)

-- what a client that backed off is told of its object, that this client holds, or no one
abbrev pub relock_answer : Machine → Option ℕ → Relock
relock_answer m None = relock.Got
relock_answer m (Some holder) = relock.Held (ticket_at m holder)

abbrev pub holder_of_contended : Machine → Option ℕ → Option ℕ
holder_of_contended m None = None
holder_of_contended m (Some object) = holder_at m object

-- What the machine's contexts are afterwards

-- an object that is free is taken, and one that an older context holds makes the client back off; else nothing changes
abbrev pub after_lock : Machine → ℕ → ℕ → Lock → Contexts
after_lock m client object lock.Got = (locked m client object (holder_at m object)).contexts
after_lock m client object (lock.Older holder) = (locked m client object (holder_at m object)).contexts
after_lock m client object lock.Own = m.contexts
after_lock m client object (lock.Younger holder) = m.contexts

abbrev pub after_backoff : Machine → ℕ → Contexts
after_backoff m client = (drops_locks (now_doing m client (backed_off (doing_at m client))) client).contexts

abbrev pub after_relock : Machine → ℕ → Relock → Contexts
after_relock m client relock.Got = (relocked m client (contended (doing_at m client))).contexts
after_relock m client (relock.Held holder) = m.contexts

-- a decision: all locks are dropped, and the client goes on, or waits for a commit
abbrev pub after_decision : Machine → ℕ → Contexts
after_decision m client = (goes_on (drops_locks m client) client).contexts

abbrev pub after_swap : Machine → ℕ → ℕ → Contexts
after_swap m client k = (now_doing (drops_locks m client) client (doing.Returning k)).contexts
