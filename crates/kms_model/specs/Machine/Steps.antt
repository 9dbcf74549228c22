-- When a step is legal. From: "KMS Locking" and `drm_modeset_lock.c` (locks), "Atomic Mode Setting" and
-- `drm_atomic_helper.c` (drm_atomic_helper_setup_commit, drm_atomic_helper_wait_for_dependencies, commit tail), "Vertical
-- Blanking", `drm_file.c` (drm_event_reserve_init, drm_read), "DMA Fences". That contexts follow wait-die, and the order in
-- which a worker writes and flushes, are this device's own.
use Rattle.std.specs.Prelude.{ℕ, ◌+◌, ◌*◌, ◌==◌, ◌&&◌, ◌||◌, not, nat_lt, Bool, true, false, length, find, is_none, is_some, Option, Some}
use Rattle.std.specs.Prelude.{None}
use Rattle.std.specs.List.{list_all}
use Rattle.kms_model.specs.declared.objects.Kind.{Kind}
use Rattle.kms_model.specs.declared.objects.Kind.TheVariants.{Crtc, Enc}
use Rattle.kms_model.specs.declared.objects.Topology.{Topology}
use Rattle.kms_model.specs.declared.replies.Step.{Step}
use Rattle.kms_model.specs.declared.replies.Step.TheVariants.{Begin, Lock, BackOff, Relock, Refuse, Test, Swap, Make, Signal, Claim, Write}
use Rattle.kms_model.specs.declared.replies.Step.TheVariants.{Flush, HwDone, Vblank, Cleanup, Read, Return, Stall}
use Rattle.kms_model.specs.declared.runs.Doing.{Doing}
use Rattle.kms_model.specs.declared.runs.Doing.TheVariants as doing
use Rattle.kms_model.specs.declared.scripts.Command.{Command}
use Rattle.kms_model.specs.declared.scripts.Command.TheVariants as command
use Rattle.kms_model.specs.declared.scripts.Request.{Request}
use Rattle.kms_model.specs.declared.scripts.Script.{Script}
use Rattle.kms_model.specs.Device.Objects.{object_id, ids_of, exists}
use Rattle.kms_model.specs.Request.Flags.{wants_event, is_test, is_nonblock}
use Rattle.kms_model.specs.Request.Named.{named}
use Rattle.kms_model.specs.Request.Reach.{reaches}
use Rattle.kms_model.specs.Request.Touched.{touches}
use Rattle.kms_model.specs.Request.Verdict.{early_in, late_in, verdict}
use Rattle.kms_model.specs.Machine.Commits.{lockable, registered, has_number, has_pair, commit_names, commit_touches, has_flipped}
use Rattle.kms_model.specs.Machine.Commits.{waited_fences, previous, second_previous, if_there, is_claimed, is_hw_done, is_cleaned}
use Rattle.kms_model.specs.Machine.Commits.{is_all_written, is_all_flushed, is_all_latched}
use Rattle.kms_model.specs.Machine.Registers.{is_on_in}
use Rattle.kms_model.specs.Machine.State.{Machine, Events, DeviceState, doing_at, command_at, request_at, holder_at, has_value, holds}
use Rattle.kms_model.specs.Machine.State.{go_at, reserved_at, unread_at}

-- What a client is doing

abbrev pub is_idle : Doing → Bool
is_idle doing.Idle = true
is_idle _ = false

abbrev pub ticket_taking : Doing → Option ℕ
ticket_taking (doing.Taking ticket) = Some ticket.0
ticket_taking _ = None

abbrev pub is_taking : Doing → Bool
is_taking d = is_some (ticket_taking d)

abbrev pub must_back_off : Doing → Bool
must_back_off (doing.MustBackOff ticket object) = true
must_back_off _ = false

-- the object that a context that backed off takes first
abbrev pub contended : Doing → Option ℕ
contended (doing.BackedOff ticket object) = Some object.0
contended _ = None

abbrev pub returning_of : Doing → Option ℕ
returning_of (doing.Returning k) = Some k
returning_of _ = None

-- the ticket of a context, 0 where there is none
abbrev pub ticket_of : Doing → ℕ
ticket_of doing.Idle = 0
ticket_of (doing.Taking ticket) = ticket.0
ticket_of (doing.MustBackOff ticket object) = ticket.0
ticket_of (doing.BackedOff ticket object) = ticket.0
ticket_of (doing.Returning k) = 0

-- a client idle at a command that passes a test
abbrev pub idle_at : Script → Machine → ℕ → (Command → Bool) → Bool
idle_at s m client test = is_idle (doing_at m client) && passes (command_at s m client) where
  passes : Option Command → Bool
  passes None = false
  passes (Some c) = test c

abbrev pub is_atomic : Command → Bool
is_atomic (command.Atomic r) = true
is_atomic _ = false

abbrev pub is_signal : Command → Bool
is_signal (command.Signal label) = true
is_signal _ = false

abbrev pub is_wait : Command → Bool
is_wait command.Wait = true
is_wait _ = false

-- a command that makes or closes a thing
abbrev pub is_making : Command → Bool
is_making c = not (is_atomic c) && (not (is_signal c) && not (is_wait c))

-- a request at which a client is taking locks passes a test
abbrev pub taking_at : Script → Machine → ℕ → (Request → Bool) → Bool
taking_at s m client test = is_taking (doing_at m client) && passes (request_at s m client) where
  passes : Option Request → Bool
  passes None = false
  passes (Some r) = test r

-- Locks

-- an object is free, or an older context holds it
abbrev pub is_free_or_older : Machine → ℕ → Option ℕ → Bool
is_free_or_older m ticket None = true
is_free_or_older m ticket (Some holder) = nat_lt (ticket_of (doing_at m holder)) ticket

unfoldable pub may_lock : Script → Machine → ℕ → ℕ → Bool
may_lock s m client object =
    taking_at s m client (λ r. reaches s.topology m.device.world r object)
    && is_free_or_older m (ticket_of (doing_at m client)) (holder_at m object)

abbrev pub is_free_for : Machine → Option ℕ → Bool
is_free_for m None = false
is_free_for m (Some object) = is_none (holder_at m object)

-- a client holds the locks of all objects that its request touches
unfoldable pub holds_touched : Topology → Machine → ℕ → Request → Bool
holds_touched t m client r = list_all (λ object. not (touches t m.device.world r object) || holds m client object) (lockable t)

-- Refusals of an accepted request

-- the bytes of an event (`struct drm_event_vblank`), and those that each client has for its events (`drm_file.event_space`)
abbrev pub event_size : ℕ
event_size = 32

abbrev pub event_space : ℕ
event_space = 4096

-- the bytes of a client's events that are reserved or unread
abbrev pub space_used : Events → ℕ → ℕ
space_used e client = event_size * (reserved_at e client + length (unread_at e client))

-- there is no space for the events of a request
unfoldable pub lacks_space : Topology → Machine → ℕ → Request → Bool
lacks_space t m client r =
    wants_event r.flags && nat_lt event_space (space_used m.events client + event_size * length (named t m.device.world r))

-- the last commit that touched an object, where there is one, has not flipped for it
unfoldable pub is_pending : Topology → Machine → ℕ → Bool
is_pending t m object =
    not (if_there (λ k. has_flipped t m.device.commits m.records.latches k object)
    (previous t m.device.commits (length m.device.commits) object))

-- the first object, by id, that a request touches and that is pending
unfoldable pub first_pending : Topology → Machine → Request → Option ℕ
first_pending t m r = find (λ object. touches t m.device.world r object && is_pending t m object) (lockable t)

abbrev pub is_busy : Topology → Machine → Request → Bool
is_busy t m r = is_nonblock r.flags && is_some (first_pending t m r)

-- on each CRTC that a request names the last commit has hw_done and the last but one is cleaned
unfoldable pub is_ready : Topology → Machine → Request → Bool
is_ready t m r =
    list_all (λ crtc.
    if_there (is_hw_done m.device) (previous t m.device.commits (length m.device.commits) crtc)
    && if_there (is_cleaned m.device) (second_previous t m.device.commits (length m.device.commits) crtc)) (named t m.device.world r)

-- Decisions on a request, of the client whose context takes locks for it

-- an accepted request, that is no test, is refused: there is no space, or it is busy
abbrev pub is_refused_late : Topology → Machine → ℕ → Request → Bool
is_refused_late t m client r = not (is_test r.flags) && (lacks_space t m client r || is_busy t m r)

abbrev pub is_accepted_at : Topology → Machine → Request → Bool
is_accepted_at t m r = is_none (verdict t m.device.world r)

unfoldable pub may_refuse : Topology → Machine → ℕ → Request → Bool
may_refuse t m client r =
    is_some (early_in t m.device.world r)
    || (holds_touched t m client r && (is_some (late_in t m.device.world r) || is_refused_late t m client r))

unfoldable pub may_test : Topology → Machine → ℕ → Request → Bool
may_test t m client r = is_test r.flags && (holds_touched t m client r && is_accepted_at t m r)

unfoldable pub may_swap : Topology → Machine → ℕ → Request → Bool
may_swap t m client r =
    not (is_test r.flags) && (holds_touched t m client r
    && (is_accepted_at t m r && (not (is_refused_late t m client r) && is_ready t m r)))

-- The tail of a commit

-- the last commit before one that touched an object, where there is one, has hw_done and has flipped for the object
abbrev pub is_settled_for : Topology → Machine → ℕ → ℕ → Bool
is_settled_for t m k object =
    if_there (λ j. is_hw_done m.device j && has_flipped t m.device.commits m.records.latches j object)
    (previous t m.device.commits k object)

unfoldable pub may_claim : Topology → Machine → ℕ → Bool
may_claim t m k =
    nat_lt k (length m.device.commits)
    && (not (is_claimed m.device k)
    && (list_all (has_number m.device.signalled) (waited_fences t m.device.commits k)
    && list_all (λ object. not (commit_touches t m.device.commits k object) || is_settled_for t m k object) (lockable t)))

-- the least CRTC or plane that a commit touches and that is not written yet
unfoldable pub next_write : Topology → DeviceState → ℕ → Option ℕ
next_write t d k = find (λ object. commit_touches t d.commits k object && not (has_pair d.marks.written k object)) (registered t)

-- the least CRTC that a commit names and that is not flushed yet
unfoldable pub next_flush : Topology → DeviceState → ℕ → Option ℕ
next_flush t d k = find (λ crtc. commit_names t d.commits k crtc && not (has_pair d.marks.flushed k crtc)) (ids_of t Crtc)

abbrev pub is_crtc_of : Topology → Kind → ℕ → Bool
is_crtc_of t Crtc index = exists t Crtc index
is_crtc_of t _ index = false

abbrev pub is_lockable : Topology → Kind → ℕ → Bool
is_lockable t Enc index = false
is_lockable t kind index = exists t kind index

-- When a step is legal, if the history was not ended. (`stall` is legal in a dead history: see `legal`.) The object of a
-- step must exist, since the number of an object beyond the device is the id of another.
unfoldable pub may : Script → Machine → Step → Bool
may s m (Begin client) = idle_at s m client is_atomic
may s m (Lock client kind index) = is_lockable s.topology kind index && may_lock s m client (object_id kind index)
may s m (BackOff client) = must_back_off (doing_at m client)
may s m (Relock client) = is_free_for m (contended (doing_at m client))
may s m (Refuse client) = taking_at s m client (may_refuse s.topology m client)
may s m (Test client) = taking_at s m client (may_test s.topology m client)
may s m (Swap client) = taking_at s m client (may_swap s.topology m client)
may s m (Make client) = idle_at s m client is_making
may s m (Signal client) = idle_at s m client is_signal
may s m (Claim k) = may_claim s.topology m k
may s m (Write k kind index) =
    is_claimed m.device k && (exists s.topology kind index && has_value (object_id kind index) (next_write s.topology m.device k))
may s m (Flush k kind index) =
    is_all_written s.topology m.device k && (exists s.topology kind index
    && has_value (object_id kind index) (next_flush s.topology m.device k))
may s m (HwDone k) =
    is_claimed m.device k && (is_all_written s.topology m.device k && (is_all_flushed s.topology m.device k && not (is_hw_done m.device k)))
may s m (Vblank kind index) =
    is_crtc_of s.topology kind index
    && (is_some (go_at m.device (object_id kind index)) || is_on_in m.device.live (object_id kind index))
may s m (Cleanup k) =
    is_hw_done m.device k && (is_all_latched s.topology m.device m.records.latches k && not (is_cleaned m.device k))
may s m (Read client) =
    idle_at s m client is_wait
    && (nat_lt 0 (length (unread_at m.events client)) || (reserved_at m.events client == 0))
may s m (Return client) = if_returning (returning_of (doing_at m client)) where
  if_returning : Option ℕ → Bool
  if_returning None = false
  if_returning (Some k) = is_cleaned m.device k
may s m Stall = false
