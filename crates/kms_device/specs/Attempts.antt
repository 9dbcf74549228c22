-- What an attempt at a client's request does. From: "Atomic Mode Setting"; "KMS Locking", `drm_modeset_lock.c` (the loop of
-- drm_modeset_lock, drm_modeset_backoff and the contended lock). That an attempt makes at most one step is this device's own.
use Rattle.std.specs.Prelude.{◌≡◌, ◌≢◌, ◌⊎◌, ⊤, All, Any, Bool, ℕ, ◌+◌, ◌==◌, true, false, List, [], ◌∷◌, ◌++◌, length, filter, is_none}
use Rattle.std.specs.Prelude.{is_some, Option, Some, None, if◌then◌else◌}
use Rattle.kms_model.specs.Order.Turns.{lock_step}
use Rattle.kms_model.specs.declared.objects.ObjId.{ObjId}
use Rattle.kms_model.specs.declared.replies.Answered.{Answered}
use Rattle.kms_model.specs.declared.replies.Reply.{Reply}
use Rattle.kms_model.specs.declared.replies.Step.{Step}
use Rattle.kms_model.specs.declared.replies.Step.TheVariants as step
use Rattle.kms_model.specs.declared.runs.Doing.{Doing}
use Rattle.kms_model.specs.declared.runs.Doing.TheVariants as doing
use Rattle.kms_model.specs.declared.runs.Place.{Place}
use Rattle.kms_model.specs.declared.scripts.Request.{Request}
use Rattle.kms_model.specs.declared.scripts.Script.{Script}
use Rattle.kms_model.specs.declared.worlds.Look.{Look}
use Rattle.kms_model.specs.Machine.Histories.{legal}
use Rattle.kms_model.specs.declared.states.Duplicates.{Duplicates}
use Rattle.kms_model.specs.declared.states.ObjState.{ObjState}
use Rattle.kms_model.specs.Device.Objects.{object_id}
use Rattle.kms_model.specs.Machine.State.{Machine, doing_at, holder_at, holds, place_at, request_at}
use Rattle.kms_model.specs.Machine.Steps.{contended, returning_of}
use Rattle.kms_model.specs.Request.Deciding.{AreFresh}
use Rattle.kms_model.specs.Request.Flags.{is_test}
use Rattle.kms_model.specs.Request.Lookups.{look_up, lookups}
use Rattle.kms_state.specs.Places.{duplicated, is_duplicated, may_duplicate, none_duplicated}
use Rattle.kms_histlock.specs.Rules.{IsStart}
use Rattle.kms_check.specs.declared.moving.Move.{Move}
use Rattle.kms_check.specs.declared.moving.Move.TheVariants as move
use Rattle.kms_check.specs.Moves.{IsMove}
use Rattle.kms_core.specs.Calls.{answered}
use Rattle.kms_core.specs.Decisions.{world}
use Rattle.kms_core.specs.Locks.{object_or_zero, present_state}
use Rattle.kms_core.specs.Run.{Run, machine}
use Rattle.kms_core.specs.Swaps.{late_reply}
use Rattle.kms_device.specs.declared.attempt.Attempt.{Attempt}
use Rattle.kms_device.specs.declared.attempt.Findings.{Findings}
use Rattle.kms_device.specs.declared.attempt.Attempted.{Attempted}
use Rattle.kms_device.specs.declared.attempt.Attempted.TheVariants as attempted
use Rattle.kms_device.specs.Asking.{AreOfLocks}
use Rattle.kms_device.specs.Steps.{owner}
use Rattle.kms_device.specs.Turns.{DevicePass, IsOpen, run_seen}

-- Several turns of a pass

-- the steps of a client
abbrev pub own_steps : ℕ → List Step → List Step
own_steps client steps = filter (λ step. owner step == client) steps

-- A pass of a client went on by turns: of what it has seen since then, the client's steps are these, and the pass made them. The
-- numbers that it has read are those that it had read.
pub record Went (steps : List Step) (before after : DevicePass) : Type 0 where
  pub lock : after.lock ≡ before.lock
  pub rank : after.rank ≡ before.rank
  pub more : List Step
  pub grows : after.seen ≡ before.seen ++ more
  pub own : own_steps before.rank more ≡ steps
  pub made : after.made ≡ before.made + length steps
  pub length_read : after.length_read ≡ before.length_read
  pub counts_read : after.counts_read ≡ before.counts_read

-- What an attempt asks for

-- A client stands at a request, and does not wait for a commit of its own.
pub record MayAttempt (r : Run) (client : ℕ) : Type 0 where
  pub request : Request
  pub at : request_at r.script (machine r) client ≡ Some request
  pub awake : returning_of (doing_at (machine r) client) ≡ None

-- A client stands at a place, in a history of a well-formed script that was not ended.
pub record StandsAt (r : Run) (client : ℕ) (place : Place) : Type 0 where
  pub is_open : IsOpen r
  pub at : place ≡ place_at (machine r) client

-- look-ups tell what each label of the request at which a client stands named after some beginning of the history
pub record AreLookedUp (r : Run) (client : ℕ) (used : List (ℕ × Look)) : Type 0 where
  pub request : Request
  pub at : request_at r.script (machine r) client ≡ Some request
  pub early : List Step
  pub begins : IsStart early r.steps
  pub told : used ≡ lookups (world (record r { steps = early })) request

-- what was kept of no attempt
abbrev pub no_findings : Findings
no_findings = record { looks = None; states = none_duplicated }

abbrev pub new_attempt : Attempt
new_attempt = record { kept = no_findings; place = None }

-- What was kept serves for a client's next attempt: its look-ups are of the client's request, and its states are those that the
-- locks of the client's context gave. It is so of what is new, and of what the client's last attempt left.
pub record Serves (r : Run) (client : ℕ) (kept : Findings) : Type 0 where
  pub looks : (used : List (ℕ × Look)) → kept.looks ≡ Some used → AreLookedUp r client used
  pub states : AreOfLocks r client kept.states
  pub fresh : AreFresh kept.states

-- a lock is asked for
abbrev pub is_lock : Move → Bool
is_lock (move.Lock id) = true
is_lock (move.Refuse why) = false
is_lock (move.Accept checked resolved) = false

-- The step of a client that comes next

-- By what a client that takes locks for a request asks for: an accepted request that is no test is refused where there is no
-- space for its events, or it is busy.
abbrev pub step_of_move : Run → ℕ → Request → Move → Step
step_of_move r client request (move.Refuse why) = step.Refuse client
step_of_move r client request (move.Lock id) = lock_step client id.0
step_of_move r client request (move.Accept checked resolved) =
    if is_test request.flags then step.Test client
    else (if is_some (late_reply r.script.topology (machine r) client request) then step.Refuse client else step.Swap client)

-- The look-ups that an attempt uses: those that were kept, or else ones made in it. These tell of a history that begins with
-- `from`, which the pass had seen before.
pub record Uses (from : List Step) (r : Run) (client : ℕ) (kept : Option (List (ℕ × Look))) (used : List (ℕ × Look)) : Type 0 where
  pub looked : AreLookedUp r client used
  pub same : (looks : List (ℕ × Look)) → kept ≡ Some looks → used ≡ looks
  pub made : kept ≡ None → IsStart from looked.early

-- what a client that takes locks for a request asks for next, by such look-ups and by the states that were kept
pub record AsksNext (from : List Step) (r : Run) (client : ℕ) (kept : Findings) (used : List (ℕ × Look)) : Type 0 where
  pub request : Request
  pub at : request_at r.script (machine r) client ≡ Some request
  pub uses : Uses from r client kept.looks used
  pub asks : Move
  pub is_move : IsMove r.script.topology request used kept.states asks

-- the step of what it asks for
pub record ComesNextTaking (from : List Step) (r : Run) (client : ℕ) (kept : Findings) (used : List (ℕ × Look)) (next : Step) : Type 0 where
  pub move : AsksNext from r client kept used
  pub next_is : next ≡ step_of_move r client move.request move.asks

-- by where it stands; look-ups are used while it takes locks alone
abbrev pub ComesNextAt : Doing → List Step → Run → ℕ → Findings → List (ℕ × Look) → Step → Type 0
ComesNextAt doing.Idle from r client kept used next = next ≡ step.Begin client
ComesNextAt (doing.Taking t) from r client kept used next = ComesNextTaking from r client kept used next
ComesNextAt (doing.MustBackOff t object) from r client kept used next = next ≡ step.BackOff client
ComesNextAt (doing.BackedOff t object) from r client kept used next = next ≡ step.Relock client
ComesNextAt (doing.Returning k) from r client kept used next = ⊥

abbrev pub ComesNext : List Step → Run → ℕ → Findings → List (ℕ × Look) → Step → Type 0
ComesNext from r client kept used next = ComesNextAt (doing_at (machine r) client) from r client kept used next

-- What is kept behind an attempt that gives no reply

-- The look-ups, by the step that comes next: none behind one that begins a context, those that were used where a lock or a
-- decision is asked for, and else those that were kept.
abbrev pub looks_after : Findings → List (ℕ × Look) → Step → Option (List (ℕ × Look))
looks_after kept used (step.Begin c) = None
looks_after kept used (step.BackOff c) = kept.looks
looks_after kept used (step.Relock c) = kept.looks
looks_after kept used _ = Some used

-- states with that of an object that is not among them
abbrev pub taken_in : Duplicates → ℕ → ObjState → Duplicates
taken_in d id s = if may_duplicate d id s then duplicated d id s else d

-- The states behind a step: none behind one that begins a context or drops its locks, and that of an object which is taken besides
-- the others.
abbrev pub states_after : Run → ℕ → Duplicates → Step → Duplicates
states_after r client d (step.Lock c kind index) =
    if is_none (holder_at (machine r) (object_id kind index))
    then taken_in d (object_id kind index) (present_state r (record { 0 = object_id kind index })) else d
states_after r client d (step.Relock c) =
    taken_in d (object_or_zero (contended (doing_at (machine r) client))).0
    (present_state r (object_or_zero (contended (doing_at (machine r) client))))
states_after r client d _ = none_duplicated

-- What an attempt did

-- a client stands at its request still, and may try again
pub record StaysAt (before after : Run) (client : ℕ) : Type 0 where
  pub may : MayAttempt after client
  pub command : (place_at (machine after) client).command ≡ (place_at (machine before) client).command

-- A history of the script was found that begins with what the pass had seen, and in which the client stands where it stood.
pub record FindsRequest (script : Script) (client : ℕ) (before : DevicePass) (found : Run) : Type 0 where
  pub same : found.script ≡ script
  pub is_open : IsOpen found
  pub begins : IsStart before.seen found.steps
  pub place : place_at (machine found) client ≡ place_at (machine (run_seen script before)) client

-- The step that comes next was made in the history that was found.
pub record Stepped (script : Script) (client : ℕ) (before after : DevicePass) (old : Findings) : Type 0 where
  pub found : Run
  pub finds : FindsRequest script client before found
  pub used : List (ℕ × Look)
  pub next : Step
  pub comes : ComesNext before.seen found client old used next
  pub legal : legal script (machine found) next ≡ true
  pub left : after.seen ≡ found.steps ++ next ∷ []
  pub went : Went (next ∷ []) before after

-- it records no reply
pub record SteppedOn (script : Script) (client : ℕ) (before after : DevicePass) (old new : Findings) : Type 0 where
  pub stepped : Stepped script client before after old
  pub looks : new.looks ≡ looks_after old stepped.used stepped.next
  pub states : new.states ≡ states_after stepped.found client old.states stepped.next
  pub silent : (machine (run_seen script after)).records.replies ≡ (machine stepped.found).records.replies

-- No step was made: the object that is asked for next is the client's already, and gave the state that was lacking.
pub record TookAgain (script : Script) (client : ℕ) (before after : DevicePass) (old new : Findings) : Type 0 where
  pub went : Went [] before after
  pub object : ObjId
  pub finds : FindsRequest script client before (run_seen script after)
  pub used : List (ℕ × Look)
  pub comes : ComesNext before.seen (run_seen script after) client old used (lock_step client object.0)
  pub held : holds (machine (run_seen script after)) client object.0 ≡ true
  pub lacked : is_duplicated old.states object.0 ≡ false
  pub looks : new.looks ≡ looks_after old used (lock_step client object.0)
  pub has : new.states ≡ duplicated old.states object.0 (present_state (run_seen script after) object)

-- No step was made: a decision is asked for next, and a label named something else, in the history that was found, than the
-- look-ups told that were used. All look-ups were made anew.
pub record LookedAgain (script : Script) (client : ℕ) (before after : DevicePass) (old new : Findings) : Type 0 where
  pub went : Went [] before after
  pub found : Run
  pub finds : FindsRequest script client before found
  pub begins : IsStart found.steps after.seen
  pub used : List (ℕ × Look)
  pub move : AsksNext before.seen found client old used
  pub decides : is_lock move.asks ≡ false
  pub stale : Any (λ told. told.1 ≢ look_up (world found) told.0) used
  pub request : Request
  pub at : request_at script (machine (run_seen script after)) client ≡ Some request
  pub looks : new.looks ≡ Some (lookups (world (run_seen script after)) request)
  pub states : new.states ≡ old.states

-- what was asked for in vain: a lock of an object that the client does not hold, or a decision with look-ups that tell what their
-- labels name
abbrev pub IsInVain : Run → ℕ → List (ℕ × Look) → Move → Type 0
IsInVain r client used (move.Lock id) = holds (machine r) client id.0 ≡ false
IsInVain r client used (move.Refuse why) = All (λ told. told.1 ≡ look_up (world r) told.0) used
IsInVain r client used (move.Accept checked resolved) = All (λ told. told.1 ≡ look_up (world r) told.0) used

pub record AsksInVain (from : List Step) (r : Run) (client : ℕ) (kept : Findings) (used : List (ℕ × Look)) (next : Step) : Type 0 where
  pub comes : ComesNextTaking from r client kept used next
  pub in_vain : IsInVain r client used comes.move.asks

abbrev pub WaitsAt : Doing → List Step → Run → ℕ → Findings → List (ℕ × Look) → Step → Type 0
WaitsAt (doing.Taking t) from r client kept used next = AsksInVain from r client kept used next
WaitsAt (doing.BackedOff t object) from r client kept used next = next ≡ step.Relock client
WaitsAt _ from r client kept used next = ⊥

-- No step was made: the one that comes next is not legal in the history that was found, of this length.
pub record AttemptWaits (script : Script) (client length_found : ℕ) (before after : DevicePass) (old new : Findings) : Type 0 where
  pub went : Went [] before after
  pub found : Run
  pub finds : FindsRequest script client before found
  pub is_length : length_found ≡ length found.steps
  pub used : List (ℕ × Look)
  pub next : Step
  pub waits : WaitsAt (doing_at (machine found) client) before.seen found client old used next
  pub illegal : legal script (machine found) next ≡ false
  pub left : after.seen ≡ found.steps
  pub looks : new.looks ≡ looks_after old used next
  pub states : new.states ≡ old.states

-- a reply to a client's command is the last that is recorded
pub record IsLastReply (m : Machine) (client command : ℕ) (reply : Reply) : Type 0 where
  pub place : ℕ
  pub before : List Answered
  pub last : m.records.replies ≡ answered client command place reply ∷ before

-- the step that comes next was made, and it records the reply to the client's command
pub record AnsweredBy (script : Script) (client : ℕ) (reply : Reply) (before after : DevicePass) (old new : Findings) : Type 0 where
  pub stepped : Stepped script client before after old
  pub records : IsLastReply (machine (run_seen script after)) client (place_at (machine (run_seen script before)) client).command reply
  pub anew : new ≡ no_findings

-- what an attempt did that answers so
abbrev pub IsAttempt : Script → ℕ → DevicePass → Findings → DevicePass → Findings → Attempted → Type 0
IsAttempt script client before old after new attempted.Did =
    SteppedOn script client before after old new ⊎ (TookAgain script client before after old new
    ⊎ LookedAgain script client before after old new)
IsAttempt script client before old after new (attempted.NotYet n) = AttemptWaits script client n before after old new
IsAttempt script client before old after new (attempted.Answered reply) = AnsweredBy script client reply before after old new

-- it does so after an attempt that gave no reply
abbrev pub GoesOnAt : Run → Run → ℕ → Attempted → Type 0
GoesOnAt before after client (attempted.Answered reply) = ⊤
GoesOnAt before after client attempted.Did = StaysAt before after client
GoesOnAt before after client (attempted.NotYet n) = StaysAt before after client

-- What commits a request

-- an attempt that was made: the pass and what was kept before it, and what came of it
pub record MadeAttempt : Type 0 where
  pub pass : DevicePass
  pub kept : Findings
  pub did : Attempted

abbrev pub gives_reply : Attempted → Bool
gives_reply (attempted.Answered reply) = true
gives_reply _ = false

-- Attempts one after the other, the newest first, each with what the one before it left, and the first with nothing kept. None
-- gave a reply.
abbrev pub AreAttempts : Script → ℕ → DevicePass → List MadeAttempt → DevicePass → Findings → Type 0
AreAttempts script client before [] after kept = (after ≡ before) × (kept ≡ no_findings)
AreAttempts script client before (made ∷ earlier) after kept =
    AreAttempts script client before earlier made.pass made.kept
    × (IsAttempt script client made.pass made.kept after kept made.did × (gives_reply made.did ≡ false))

-- Attempts of a client, the last of which recorded the reply to its command; nothing was done behind that. Their steps are all
-- that the pass made.
pub record Committed (script : Script) (client : ℕ) (reply : Reply) (before after : DevicePass) : Type 0 where
  pub steps : List Step
  pub last : Step
  pub went : Went (steps ++ last ∷ []) before after
  pub found : Run
  pub same : found.script ≡ script
  pub left : after.seen ≡ found.steps ++ last ∷ []
  pub stays : StaysAt (run_seen script before) found client
  pub records : IsLastReply (machine (run_seen script after)) client (place_at (machine (run_seen script before)) client).command reply
  -- each attempt does what `attempt` promises, and so does the last
  pub attempts : List MadeAttempt
  -- the pass and what was kept before the last one
  pub until : DevicePass
  pub kept : Findings
  pub are_attempts : AreAttempts script client before attempts until kept
  pub answers : AnsweredBy script client reply until after kept no_findings

-- some steps of a client, after which it stands at its request still, which can be tried again
pub record BrokenOff (script : Script) (client : ℕ) (before after : DevicePass) : Type 0 where
  pub steps : List Step
  pub went : Went steps before after
  pub again : StaysAt (run_seen script before) (run_seen script after) client
  -- attempts, and no step behind them
  pub attempts : List MadeAttempt
  -- the pass and what was kept behind them
  pub until : DevicePass
  pub kept : Findings
  pub are_attempts : AreAttempts script client before attempts until kept
  pub last : Went [] until after
