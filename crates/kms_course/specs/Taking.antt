-- What a client's context has while it takes locks. From: "KMS Locking"; struct drm_modeset_acquire_ctx, drm_atomic_state.
use Rattle.std.specs.Prelude.{ℕ, ◌≡◌, ◌&&◌, Bool, true, List, [], ◌∷◌, Option, Some, None, option_map, option_and_then, if◌then◌else◌}
use Rattle.kms_model.specs.declared.objects.ObjId.{ObjId}
use Rattle.kms_model.specs.declared.objects.Ticket.{Ticket}
use Rattle.kms_model.specs.declared.runs.Doing.{Doing}
use Rattle.kms_model.specs.declared.runs.Doing.TheVariants as doing
use Rattle.kms_model.specs.declared.scripts.Request.{Request}
use Rattle.kms_model.specs.declared.scripts.Script.{Script}
use Rattle.kms_model.specs.Machine.State.{Machine, doing_at, holds, request_at}
use Rattle.kms_state.specs.Places.{duplicated, is_duplicated, may_duplicate, none_duplicated}
use Rattle.kms_state.specs.StandsIn.{Agrees}
use Rattle.kms_core.specs.Locks.{has_lock, present_state}
use Rattle.kms_core.specs.Run.{Run, machine}
use Rattle.kms_course.specs.declared.single.contexts.RequestContext.{RequestContext}

-- The client takes locks for its request in a context with this ticket. The states are the present ones, and the context
-- holds their objects.
pub record TakesIn (s : Script) (m : Machine) (c : RequestContext) : Type 0 where
  pub at : request_at s m c.client ≡ Some c.request
  pub taking : doing_at m c.client ≡ doing.Taking c.ticket
  pub agrees : Agrees s.topology m.device.world.things m.device.world.values c.states
  pub held : (object : ℕ) → is_duplicated c.states object ≡ true → holds m c.client object ≡ true

abbrev pub HasTaken : Run → RequestContext → Type 0
HasTaken r c = TakesIn r.script (machine r) c

-- A context with no states

abbrev pub ticket_taking : Doing → Option Ticket
ticket_taking (doing.Taking t) = Some t
ticket_taking _ = None

abbrev pub bare_context : ℕ → Ticket → Request → RequestContext
bare_context client t request = record { client = client; ticket = t; request = request; states = none_duplicated }

-- that of a client which takes locks for a request
abbrev pub bare_context_at : Run → ℕ → Option RequestContext
bare_context_at r client =
    option_and_then (λ t. option_map (bare_context client t) (request_at r.script (machine r) client))
    (ticket_taking (doing_at (machine r) client))

-- States are duplicated

-- the context holds the object, which has a lock, and its state is not duplicated yet
abbrev pub may_take_up : Run → RequestContext → ObjId → Bool
may_take_up r c id = has_lock r.script.topology id.0 && holds (machine r) c.client id.0 && may_duplicate c.states id.0 (present_state r id)

-- the context with the object's present state too
abbrev pub with_state : Run → RequestContext → ObjId → RequestContext
with_state r c id = record c { states = duplicated c.states id.0 (present_state r id) }

-- the context with those of all objects
abbrev pub taken_up : Run → RequestContext → List ObjId → Option RequestContext
taken_up r c [] = Some c
taken_up r c (id ∷ more) = if may_take_up r c id then taken_up r (with_state r c id) more else None

-- that of a client which takes locks, with the states of objects that it holds
abbrev pub context_with : Run → ℕ → List ObjId → Option RequestContext
context_with r client objects = option_and_then (λ c. taken_up r c objects) (bare_context_at r client)
