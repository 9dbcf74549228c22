-- What a swap answers and does. From: "Atomic Mode Setting"; `drm_file.c`, drm_event_reserve_init; `drm_atomic_helper.c`,
-- drm_atomic_helper_setup_commit, drm_atomic_helper_swap_state.
use Rattle.std.specs.Prelude.{◌≡◌, ℕ, ◌+◌, ◌*◌, nat_lt, ◌&&◌, List, [], length, true, ⊤, Option, Some, None, false, if◌then◌else◌}
use Rattle.kms_model.specs.Firsts.{one_if}
use Rattle.kms_model.specs.declared.objects.ObjId.{ObjId}
use Rattle.kms_model.specs.declared.objects.Topology.{Topology}
use Rattle.kms_model.specs.declared.replies.Reply.{Reply}
use Rattle.kms_model.specs.declared.replies.Reply.TheVariants as reply
use Rattle.kms_model.specs.declared.replies.Step.{Step}
use Rattle.kms_model.specs.declared.replies.Step.TheVariants as step
use Rattle.kms_model.specs.declared.scripts.Request.{Request}
use Rattle.kms_model.specs.declared.sets.Resolved.{Resolved}
use Rattle.kms_model.specs.declared.states.Checked.{Checked}
use Rattle.kms_model.specs.declared.states.Mask.{Mask}
use Rattle.kms_model.specs.declared.worlds.Look.{Look}
use Rattle.kms_model.specs.Device.Masks.{has_bit}
use Rattle.kms_model.specs.Machine.Effects.{busy_reply}
use Rattle.kms_model.specs.Machine.Histories.{legal}
use Rattle.kms_model.specs.Machine.State.{Machine, doing_at, request_at}
use Rattle.kms_model.specs.Machine.Steps as steps
use Rattle.kms_model.specs.Request.Deciding.{IsChecked}
use Rattle.kms_model.specs.Request.Flags.{is_nonblock, is_test, wants_event}
use Rattle.kms_model.specs.Request.Lookups.{look_up}
use Rattle.kms_model.specs.Request.Resolves.{IsResolved}
use Rattle.kms_model.specs.Request.Verdict.{verdict}
use Rattle.kms_wwlock.specs.Standing.{IsClient}
use Rattle.kms_signal.specs.Queues.{Queue, space_used}
use Rattle.kms_track.specs.InStep.{HasStates}
use Rattle.kms_track.specs.MachineLaws.{awaited_answer}
use Rattle.kms_track.specs.Tracking.{Tracking, busy_of}
use Rattle.kms_core.specs.declared.stores.looking.Decided.{Decided}
use Rattle.kms_core.specs.declared.stores.looking.Decided.TheVariants as answer
use Rattle.kms_core.specs.Decisions.{IsAccepted, IsDeciding, steps_of, world}
use Rattle.kms_core.specs.Run.{Run, machine}

-- What a swap asks for

-- The request of the client whose context has a ticket is accepted and is no test; what it touches was duplicated.
pub record MaySwap (r : Run) (t : ℕ) (used : List (ℕ × Look)) (checked : Checked) (resolved : Resolved) : Type 0 where
  pub request : Request
  pub deciding : IsDeciding r t used request
  pub accepted : IsAccepted r t used request resolved checked
  pub states : HasStates checked
  pub no_test : is_test request.flags ≡ false

-- An accepted request, at which a client takes locks and holds those that it touches, with what was checked of it, in the
-- present world; it is no test and has these flags.
pub record IsReadyToCommit (r : Run) (client : ℕ) (checked : Checked) (flags : ℕ) : Type 0 where
  pub request : Request
  pub number : IsClient client
  pub taking : steps.is_taking (doing_at (machine r) client) ≡ true
  pub at : request_at r.script (machine r) client ≡ Some request
  pub going : (machine r).stalled ≡ false
  pub none : verdict r.script.topology (world r) request ≡ None
  pub held : steps.holds_touched r.script.topology (machine r) client request ≡ true
  pub checked_as : IsChecked r.script.topology (world r) request checked
  pub flags_are : flags ≡ request.flags
  pub no_test : is_test request.flags ≡ false

-- Such a request, with what it asks for in the present world, and with what it touches duplicated; nothing hinders its swap.
pub record MayCommit (r : Run) (client : ℕ) (checked : Checked) (resolved : Resolved) : Type 0 where
  pub ready : IsReadyToCommit r client checked resolved.flags
  pub states : HasStates checked
  pub asks : IsResolved r.script.topology (look_up (world r)) ready.request resolved
  pub legal : legal r.script (machine r) (step.Swap client) ≡ true

-- Answers in the machine's words

-- an accepted request is refused: there is no space for its events, or it does not wait and is busy
abbrev pub late_reply : Topology → Machine → ℕ → Request → Option Reply
late_reply t m client r =
    if steps.lacks_space t m client r then Some (reply.Space (steps.space_used m.events client))
    else (if steps.is_busy t m r then Some (busy_reply t m (steps.first_pending t m r)) else None)

-- the reply of such a refusal, or else another answer
abbrev pub refused_or : Option Reply → Decided → Decided
refused_or (Some reply) other = answer.Refused reply
refused_or None other = other

-- the first CRTC at which a swap waits for a commit, or else the number of its own
abbrev pub waits_or_commits : Option (ObjId × ℕ) → ℕ → Decided
waits_or_commits (Some p) k = answer.NotYet p.0 p.1
waits_or_commits None k = answer.Done (reply.Commit k)

abbrev pub swap_answer_of : Topology → Machine → ℕ → Option Request → Decided
swap_answer_of t m client None = answer.Done reply.Done
swap_answer_of t m client (Some r) = refused_or (late_reply t m client r)
    (waits_or_commits (awaited_answer t m r) (length m.device.commits))

-- what a swap of a client answers, where its look-ups tell what they told
abbrev pub swap_answer : Run → ℕ → Decided
swap_answer r client = swap_answer_of r.script.topology (machine r) client (request_at r.script (machine r) client)

-- Answers in the words of the stores

-- how many of the first four objects are in a set
abbrev pub count_in : ℕ → ℕ
count_in mask = one_if (has_bit mask 0) + (one_if (has_bit mask 1) + (one_if (has_bit mask 2) + one_if (has_bit mask 3)))

abbrev pub busy_as : Option (ObjId × ℕ) → Option Reply
busy_as None = None
busy_as (Some p) = Some (reply.Busy p.0 p.1)

abbrev pub late_told : Queue → Tracking → ℕ → Mask → ℕ → Option Reply
late_told q v named touched flags =
    if wants_event flags && nat_lt 4096 (space_used q + 32 * count_in named) then Some (reply.Space (space_used q))
    else (if is_nonblock flags then busy_as (busy_of v touched) else None)

-- an answer that is there, or another
abbrev pub or_answer : Option Decided → Decided → Decided
or_answer (Some d) other = d
or_answer None other = other

-- the steps of a client's swap that is refused or has to wait
abbrev pub hindered_steps : ℕ → Option Decided → List Step
hindered_steps client None = []
hindered_steps client (Some d) = steps_of client (step.Swap client) d

-- where nothing hinders it, the swap is legal
abbrev pub MaySwapUnless : Run → ℕ → Option Decided → Type 0
MaySwapUnless r client None = legal r.script (machine r) (step.Swap client) ≡ true
MaySwapUnless r client (Some d) = ⊤
