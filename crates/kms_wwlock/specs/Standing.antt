-- Where clients stand, and their locks, as contracts see them.
-- From: "KMS Locking", struct drm_modeset_acquire_ctx: a client takes its locks in a context, which has a ticket.
use Rattle.std.specs.Prelude.{ℕ, ◌≡◌, ◌≤◌, ◌-◌, List, All, replicate, Option, Some, None, slice_index_or, slice_set, length, ◌+◌}
use Rattle.kms_model.specs.declared.objects.Ticket.{Ticket}
use Rattle.kms_model.specs.declared.runs.Doing.{Doing}
use Rattle.kms_model.specs.declared.runs.Doing.TheVariants as doing
use Rattle.kms_model.specs.declared.runs.Place.{Place}
use Rattle.kms_wwlock.specs.declared.contexts.Context.{Context}
use Rattle.kms_wwlock.specs.declared.contexts.ContextDoing.TheVariants as context
use Rattle.kms_wwlock.specs.Objects.{IsLockable}
use Rattle.kms_wwlock.specs.Table.{Table, doing_in_contexts}
use Rattle.kms_wwlock.specs.Waits.{empty_table}

-- the places of 16 clients, in order of their numbers, and the table of locks
pub record Standing : Type 0 where
  pub places : List Place
  pub table : Table

-- clients are numbered from 1 to 16
abbrev pub IsClient : ℕ → Type 0
IsClient client = (1 ≤ client) × (client ≤ 16)

-- idle at the first command
abbrev pub first_place : Place
first_place = record { command = 1; doing = doing.Idle }

-- what stands for a place that is not there
abbrev pub no_place : Place
no_place = record { command = 0; doing = doing.Idle }

abbrev pub place_in : List Place → ℕ → Place
place_in places client = slice_index_or places (client - 1) no_place

abbrev pub doing_in : List Place → ℕ → Doing
doing_in places client = (place_in places client).doing

abbrev pub place_of : Standing → ℕ → Place
place_of v client = place_in v.places client

-- a client does something else where it stands
abbrev pub put_doing : List Place → ℕ → Doing → List Place
put_doing places client d = slice_set places (client - 1) (record (place_in places client) { doing = d })

-- a client is idle at its next command
abbrev pub put_next : List Place → ℕ → List Place
put_next places client = slice_set places (client - 1) (record { command = (place_in places client).command + 1; doing = doing.Idle })

abbrev pub no_clients : Standing
no_clients = record { places = replicate 16 first_place; table = empty_table }

-- the ticket of a client that does this, where it has a context
abbrev pub ticket_in : Doing → Option Ticket
ticket_in doing.Idle = None
ticket_in (doing.Taking t) = Some t
ticket_in (doing.MustBackOff t object) = Some t
ticket_in (doing.BackedOff t object) = Some t
ticket_in (doing.Returning k) = None

-- a client's context has a ticket
pub record HasTicket (v : Standing) (t : Ticket) (client : ℕ) : Type 0 where
  pub is_client : IsClient client
  pub ticket : ticket_in (place_of v client).doing ≡ Some t

-- How places and table tell the same

-- a client's context does what the client does
abbrev pub IsBegun : List Context → Doing → Type 0
IsBegun contexts doing.Idle = Unit {0}
IsBegun contexts (doing.Taking t) = doing_in_contexts contexts t ≡ Some context.Taking
IsBegun contexts (doing.MustBackOff t object) = doing_in_contexts contexts t ≡ Some (context.MustBackOff object)
IsBegun contexts (doing.BackedOff t object) = doing_in_contexts contexts t ≡ Some (context.BackedOff object)
IsBegun contexts (doing.Returning k) = Unit {0}

-- what a client backs off for has a lock
abbrev pub NamesLockable : Doing → Type 0
NamesLockable (doing.MustBackOff t object) = IsLockable object
NamesLockable (doing.BackedOff t object) = IsLockable object
NamesLockable _ = Unit {0}

-- a context is that of a client with its ticket
pub record IsKnown (places : List Place) (c : Context) : Type 0 where
  pub client : IsClient c.client
  pub ticket : ticket_in (doing_in places c.client) ≡ Some c.ticket

pub record AreTied (places : List Place) (contexts : List Context) : Type 0 where
  pub size : length places ≡ 16
  pub begun : (client : ℕ) → IsClient client → IsBegun contexts (doing_in places client)
  pub lockable : (client : ℕ) → IsClient client → NamesLockable (doing_in places client)
  pub known : All (IsKnown places) contexts
  -- no two clients have one ticket
  pub apart :
      (a b : ℕ) (t : Ticket) → IsClient a → IsClient b
      → ticket_in (doing_in places a) ≡ Some t → ticket_in (doing_in places b) ≡ Some t → a ≡ b
