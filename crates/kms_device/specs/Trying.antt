-- What the parts of an attempt are given and what they do. From: as for attempts.
use Rattle.std.specs.Prelude.{◌≡◌, ⊤, ℕ, List, [], length, Option, Some, None, Result, Ok, Err}
use Rattle.kms_model.specs.declared.objects.ObjId.{ObjId}
use Rattle.kms_model.specs.declared.objects.Ticket.{Ticket}
use Rattle.kms_model.specs.declared.replies.Step.TheVariants as step
use Rattle.kms_model.specs.declared.runs.Doing.{Doing}
use Rattle.kms_model.specs.declared.runs.Doing.TheVariants as doing
use Rattle.kms_model.specs.declared.runs.Place.{Place}
use Rattle.kms_model.specs.declared.scripts.Request.{Request}
use Rattle.kms_model.specs.declared.scripts.Script.{Script}
use Rattle.kms_model.specs.declared.states.Duplicates.{Duplicates}
use Rattle.kms_model.specs.declared.states.ObjState.{ObjState}
use Rattle.kms_model.specs.declared.worlds.Look.{Look}
use Rattle.kms_model.specs.Machine.State.{doing_at, place_at, request_at}
use Rattle.kms_model.specs.Request.Lookups.{lookups}
use Rattle.kms_core.specs.declared.calls.contexts.Locked.{Locked}
use Rattle.kms_core.specs.declared.calls.contexts.Locked.TheVariants as locked
use Rattle.kms_core.specs.declared.stores.looking.Decided.{Decided}
use Rattle.kms_core.specs.declared.stores.looking.Decided.TheVariants as decided
use Rattle.kms_core.specs.Decisions.{steps_of, world}
use Rattle.kms_core.specs.Run.{Run, machine}
use Rattle.kms_device.specs.declared.attempt.Findings.{Findings}
use Rattle.kms_device.specs.declared.attempt.Attempted.{Attempted}
use Rattle.kms_device.specs.declared.attempt.Attempted.TheVariants as attempted
use Rattle.kms_device.specs.declared.tries.Work.{Work}
use Rattle.kms_device.specs.Attempts.{GoesOnAt, IsAttempt, MayAttempt, Serves, StandsAt, StaysAt, Went, no_findings, taken_in}
use Rattle.kms_device.specs.Turns.{DevicePass, IsOpen, DeviceTurn, run_seen}

-- What an attempt is given, once it is known where the client of the pass stands.
pub record IsReady (script : Script) (pass : DevicePass) (kept : Findings) : Type 0 where
  pub is_open : IsOpen (run_seen script pass)
  pub may : MayAttempt (run_seen script pass) pass.rank
  pub serves : Serves (run_seen script pass) pass.rank kept

-- The client of the pass takes locks for a request in the context of a ticket.
pub record TakesLocksFor (script : Script) (pass : DevicePass) (t : Ticket) (request : Request) : Type 0 where
  pub taking : doing_at (machine (run_seen script pass)) pass.rank ≡ doing.Taking t
  pub at : request_at script (machine (run_seen script pass)) pass.rank ≡ Some request

abbrev pub with_looks : List (ℕ × Look) → Duplicates → Findings
with_looks looks states = record { looks = Some looks; states = states }

-- what is kept of what a client works with, and of states
abbrev pub kept_in : Work → Duplicates → Findings
kept_in work states = with_looks work.looks states

-- The client takes locks for the request in the context, and the look-ups and the states serve.
pub record Works (script : Script) (pass : DevicePass) (work : Work) (states : Duplicates) : Type 0 where
  pub ready : IsReady script pass (kept_in work states)
  pub takes : TakesLocksFor script pass work.taking.t work.taking.request.now

-- What an attempt did and keeps: the next can be made with it.
pub record DidAndKeeps (script : Script) (before : DevicePass) (kept : Findings) (after : DevicePass) (did : Attempted) (keeps : Findings) :
    Type 0 where
  pub is_attempt : IsAttempt script before.rank before kept after keeps did
  pub goes_on : GoesOnAt (run_seen script before) (run_seen script after) before.rank did
  pub serves : Serves (run_seen script after) before.rank keeps

-- no step was made, and the next attempt can be made
pub record DidNothing (script : Script) (before after : DevicePass) : Type 0 where
  pub went : Went [] before after
  pub stays : StaysAt (run_seen script before) (run_seen script after) before.rank

abbrev pub Tried : {E : Type 0} → Script → DevicePass → Findings → DevicePass → Findings → Result Attempted E → Type 0
Tried script before kept after keeps (Ok did) = DidAndKeeps script before kept after did keeps
Tried script before kept after keeps (Err e) = DidNothing script before after

abbrev pub with_state : Findings → ObjId → ObjState → Findings
with_state kept id s = record kept { states = taken_in kept.states id.0 s }

-- what comes of an answer to a lock that was asked for, in a history of some length
abbrev pub attempted_of : ℕ → Locked → Attempted
attempted_of n (locked.Got s) = attempted.Did
attempted_of n (locked.Own s) = attempted.Did
attempted_of n (locked.Older holder) = attempted.Did
attempted_of n (locked.Younger holder) = attempted.NotYet n
attempted_of n (locked.Held holder) = attempted.NotYet n

abbrev pub kept_of : ObjId → Locked → Findings → Findings
kept_of id (locked.Got s) kept = with_state kept id s
kept_of id (locked.Own s) kept = with_state kept id s
kept_of id (locked.Older holder) kept = kept
kept_of id (locked.Younger holder) kept = kept
kept_of id (locked.Held holder) kept = kept

-- What came of an answer to a call that decides a request: the reply; or the look-ups were made anew, in a turn of their own.
pub record LooksAnew (script : Script) (request : Request) (kept : Findings) (before after : DevicePass) (did : Attempted)
    (keeps : Findings)
    : Type 0 where
  pub told : List (ℕ × Look)
  pub turn : DeviceTurn script (λ found. told ≡ lookups (world found) request) [] before after
  pub did_is : did ≡ attempted.Did
  pub keeps_is : keeps ≡ record kept { looks = Some told }

-- no turn was taken
pub record IsTold (before after : DevicePass) (did told : Attempted) (keeps kept : Findings) : Type 0 where
  pub same : after ≡ before
  pub did_is : did ≡ told
  pub keeps_is : keeps ≡ kept

abbrev pub Concludes : Script → Request → Findings → DevicePass → Decided → DevicePass → Attempted → Findings → Type 0
Concludes script request kept before (decided.Done reply) after did keeps =
    IsTold before after did (attempted.Answered reply) keeps no_findings
Concludes script request kept before (decided.Refused reply) after did keeps =
    IsTold before after did (attempted.Answered reply) keeps no_findings
Concludes script request kept before (decided.NotYet object commit) after did keeps =
    IsTold before after did (attempted.NotYet (length before.seen)) keeps kept
Concludes script request kept before (decided.Again label was now) after did keeps = LooksAnew script request kept before after did keeps

-- no memory for new look-ups
pub record LooksInVain (script : Script) (answer : Decided) (before after : DevicePass) : Type 0 where
  pub again : steps_of 0 step.Stall answer ≡ []
  pub turn : DeviceTurn script (λ found. ⊤) [] before after

-- Where the client stands

-- a place that is known already, with no turn, or that a turn told
abbrev pub IsToldOrKnown : Script → ℕ → Option Place → DevicePass → DevicePass → Place → Type 0
IsToldOrKnown script client (Some known) before after place = (after ≡ before) × (place ≡ known)
IsToldOrKnown script client None before after place = DeviceTurn script (λ found. place ≡ place_at (machine found) client) [] before after

-- It is told after a step, or in vain, unless the reply was given or memory ran out.
abbrev pub StandsAfter : {E : Type 0} → Run → ℕ → Result Attempted E → Place → Type 0
StandsAfter r client (Ok attempted.Did) place = StandsAt r client place
StandsAfter r client (Ok (attempted.NotYet n)) place = StandsAt r client place
StandsAfter r client (Ok (attempted.Answered reply)) place = ⊤
StandsAfter r client (Err e) place = ⊤

abbrev pub place_behind : Attempted → Place → Option Place
place_behind attempted.Did place = Some place
place_behind (attempted.NotYet n) place = Some place
place_behind (attempted.Answered reply) place = None

-- what a client does in the context of a ticket after an answer to a lock of an object, by what it did before
abbrev pub doing_of : Ticket → ObjId → Locked → Doing → Doing
doing_of t id (locked.Got s) before = doing.Taking t
doing_of t id (locked.Older holder) before = doing.MustBackOff t id
doing_of t id (locked.Own s) before = before
doing_of t id (locked.Younger holder) before = before
doing_of t id (locked.Held holder) before = before
