-- What the call that decides a client's request comes to. From: "KMS Locking"; "Atomic Mode Setting"; `drm_atomic_uapi.c`,
-- drm_mode_atomic_ioctl.
use Rattle.std.specs.Prelude.{ℕ, ◌≡◌, ◌⊎◌, true, false, List, map, Option, Some, None, if◌then◌else◌}
use Rattle.kms_model.specs.declared.objects.ObjId.{ObjId}
use Rattle.kms_model.specs.declared.replies.Refusal.{Refusal}
use Rattle.kms_model.specs.declared.replies.Reply.TheVariants as reply
use Rattle.kms_model.specs.declared.replies.Step.{Step}
use Rattle.kms_model.specs.declared.replies.Step.TheVariants as step
use Rattle.kms_model.specs.declared.sets.Resolved.{Resolved}
use Rattle.kms_model.specs.declared.states.Checked.{Checked}
use Rattle.kms_model.specs.declared.worlds.Look.{Look}
use Rattle.kms_model.specs.declared.worlds.World.{World}
use Rattle.kms_model.specs.Request.Deciding.{IsOfRequest}
use Rattle.kms_model.specs.Request.Flags.{is_test}
use Rattle.kms_model.specs.Request.Lookups.{look_up}
use Rattle.kms_model.specs.Request.Resolves.{IsResolved}
use Rattle.kms_model.specs.Request.Sets.{look_in}
use Rattle.kms_check.specs.Moves.{AcceptedAs, AsksFor, RefusedBy}
use Rattle.kms_core.specs.declared.stores.looking.Decided.{Decided}
use Rattle.kms_core.specs.declared.stores.looking.Decided.TheVariants as decided
use Rattle.kms_core.specs.Decisions.{IsDecided, labels_of, steps_of, world}
use Rattle.kms_core.specs.Run.{Run, gains, machine}
use Rattle.kms_core.specs.Swaps.{swap_answer}
use Rattle.kms_course.specs.declared.single.contexts.RequestContext.{RequestContext}

-- the look-ups are of the labels of the context's request
abbrev pub AreOfLabels : RequestContext → List (ℕ × Look) → Type 0
AreOfLabels c used = map (λ l. l.0) used ≡ labels_of c.request.assigns

-- What decides

-- an accepted request is told to be so, where it is a test, or is committed
abbrev pub accepting_step : RequestContext → Step
accepting_step c = if is_test c.request.flags then step.Test c.client else step.Swap c.client

abbrev pub accepting_answer : Run → RequestContext → Decided
accepting_answer r c = if is_test c.request.flags then decided.Done reply.Tested else swap_answer r c.client

-- a check refuses the request with what was looked up, over the context's states
pub record RefusesRequest (r : Run) (c : RequestContext) (used : List (ℕ × Look)) (by : Step) (decision : Decided) : Type 0 where
  pub why : Refusal
  pub refused : RefusedBy r.script.topology c.request used c.states why
  pub is_refusal : by ≡ step.Refuse c.client
  pub says_why : decision ≡ decided.Done (reply.Refused why)

-- it accepts the request
pub record Accepts (r : Run) (c : RequestContext) (used : List (ℕ × Look)) (by : Step) (decision : Decided) : Type 0 where
  pub checked : Checked
  pub resolved : Resolved
  pub accepted : AcceptedAs r.script.topology c.request used c.states checked resolved
  pub is_acceptance : by ≡ accepting_step c
  pub says_so : decision ≡ accepting_answer r c

-- A check decides the request, and the answer and the history are those of the decision, or of look-ups that grew old.
pub record IsDecidedAs (r : Run) (c : RequestContext) (used : List (ℕ × Look)) (answer : Decided) (n : Run) : Type 0 where
  pub going : (machine r).stalled ≡ false
  pub labels : AreOfLabels c used
  pub by : Step
  pub decision : Decided
  pub due : RefusesRequest r c used by decision ⊎ Accepts r c used by decision
  pub answered : IsDecided (look_up (world r)) used decision answer
  pub history : n ≡ gains r (steps_of c.client by answer)

-- Why nothing is decided

-- an object is asked for
pub record AsksForMore (r : Run) (c : RequestContext) (used : List (ℕ × Look)) : Type 0 where
  pub id : ObjId
  pub asks : AsksFor r.script.topology c.request used c.states id

-- the request passes the early refusals, but no lawful world has both what was looked up and the context's states
pub record IsOfNoWorld (r : Run) (c : RequestContext) (used : List (ℕ × Look)) : Type 0 where
  pub resolved : Resolved
  pub asks : IsResolved r.script.topology (look_in used) c.request resolved
  pub none : (w : World) → IsOfRequest r.script.topology w c.request resolved c.states → ⊥

-- the history was ended, other labels were looked up, or a check finds no decision
abbrev pub IsUndecided : Run → RequestContext → List (ℕ × Look) → Type 0
IsUndecided r c used =
    ((machine r).stalled ≡ true) ⊎ ((AreOfLabels c used → ⊥) ⊎ (AsksForMore r c used ⊎ IsOfNoWorld r c used))

-- what the call answers, and the history after it
abbrev pub ComesTo : Run → RequestContext → List (ℕ × Look) → Run → Option Decided → Type 0
ComesTo r c used n None = IsUndecided r c used × (n ≡ r)
ComesTo r c used n (Some answer) = IsDecidedAs r c used answer n
