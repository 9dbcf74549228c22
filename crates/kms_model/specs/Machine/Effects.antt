-- What a step does. From: as for the steps themselves; drm_atomic_helper_swap_state, drm_crtc_send_vblank_event,
-- drm_atomic_helper_commit_hw_done, drm_atomic_helper_commit_cleanup_done.
use Rattle.std.specs.Prelude.{ℕ, ◌+◌, ◌-◌, ◌%◌, ◌^◌, Bool, true, false, List, [], ◌∷◌, ◌++◌, length, Option, Some, None, if◌then◌else◌}
use Rattle.kms_model.specs.declared.objects.Kind.TheVariants.{Crtc}
use Rattle.kms_model.specs.declared.objects.Topology.{Topology}
use Rattle.kms_model.specs.declared.replies.Event.{Event}
use Rattle.kms_model.specs.declared.replies.Reply.{Reply}
use Rattle.kms_model.specs.declared.replies.Reply.TheVariants as reply
use Rattle.kms_model.specs.declared.replies.Step.{Step}
use Rattle.kms_model.specs.declared.replies.Step.TheVariants.{Begin, Lock, BackOff, Relock, Refuse, Test, Swap, Make, Signal, Claim, Write}
use Rattle.kms_model.specs.declared.replies.Step.TheVariants.{Flush, HwDone, Vblank, Cleanup, Read, Return, Stall}
use Rattle.kms_model.specs.declared.runs.Doing.{Doing}
use Rattle.kms_model.specs.declared.runs.Doing.TheVariants as doing
use Rattle.kms_model.specs.declared.runs.Latch.{Latch}
use Rattle.kms_model.specs.declared.runs.Place.{Place}
use Rattle.kms_model.specs.declared.scripts.Command.{Command}
use Rattle.kms_model.specs.declared.scripts.Command.TheVariants as command
use Rattle.kms_model.specs.declared.scripts.Request.{Request}
use Rattle.kms_model.specs.declared.scripts.Script.{Script}
use Rattle.kms_model.specs.declared.worlds.World.{World}
use Rattle.kms_model.specs.Device.Execution.{Executed, execute, committed}
use Rattle.kms_model.specs.Device.Objects.{object_id, index_of, is_id_of}
use Rattle.kms_model.specs.Device.Serial.{is_accepted}
use Rattle.kms_model.specs.Device.World.{thing_labelled}
use Rattle.kms_model.specs.Request.Flags.{wants_event, is_nonblock}
use Rattle.kms_model.specs.Request.Named.{named}
use Rattle.kms_model.specs.Request.Sets.{obj_id}
use Rattle.kms_model.specs.Request.Verdict.{verdict}
use Rattle.kms_model.specs.Machine.Commits.{commit_at, asks_event, out_fence_of, id_of_thing, new_plane, new_crtc, new_connector, previous}
use Rattle.kms_model.specs.Machine.Registers.{Registers, decoded_picture, latched_registers, plane_words, crtc_words, write_plane}
use Rattle.kms_model.specs.Machine.Registers.{write_crtc}
use Rattle.kms_model.specs.Machine.State.{Machine, DeviceState, place_at, doing_at, command_at, request_at, entry_at, holder_at, has_value}
use Rattle.kms_model.specs.Machine.State.{go_at, count_at, reserved_at, unread_at}
use Rattle.kms_model.specs.Machine.Steps.{ticket_of, contended, space_used, lacks_space, first_pending}

-- Places, locks and replies

abbrev pub put_place : Machine → ℕ → Place → Machine
put_place m client place = record m { contexts = record m.contexts { places = (client, place) ∷ m.contexts.places } }

-- a client stays at its command and does something else there
abbrev pub now_doing : Machine → ℕ → Doing → Machine
now_doing m client d = put_place m client (record { command = (place_at m client).command; doing = d })

-- a client goes on: it is idle at its next command
abbrev pub goes_on : Machine → ℕ → Machine
goes_on m client = put_place m client (record { command = (place_at m client).command + 1; doing = doing.Idle })

abbrev pub put_lock : Machine → ℕ → Option ℕ → Machine
put_lock m object holder = record m { contexts = record m.contexts { locks = (object, holder) ∷ m.contexts.locks } }

-- the locks after a client dropped its own
unfoldable pub dropped : ℕ → List (ℕ × Option ℕ) → List (ℕ × Option ℕ)
dropped client [] = []
dropped client (row ∷ rows) = (if has_value client row.1 then (row.0, None) else row) ∷ dropped client rows

abbrev pub drops_locks : Machine → ℕ → Machine
drops_locks m client = record m { contexts = record m.contexts { locks = dropped client m.contexts.locks } }

-- a reply to the command at which a client stands, at the place of so many accepted commands
abbrev pub answers : Machine → ℕ → Reply → Machine
answers m client r = record m {
  records = record m.records {
    replies = record { client = client; command = (place_at m client).command; place = length m.records.journal; reply = r }
        ∷ m.records.replies;
  };
}

-- the command at which a client stands joins the journal
abbrev pub joins_journal : Machine → ℕ → Machine
joins_journal m client = record m { records = record m.records { journal = entry_at m client ∷ m.records.journal } }

-- a decision on a request: it is answered, all locks are dropped, and the client goes on
abbrev pub decided : Machine → ℕ → Reply → Machine
decided m client r = goes_on (drops_locks (answers m client r) client) client

-- Locks

-- an object that is free is held; one that an older context holds makes the client back off
abbrev pub locked : Machine → ℕ → ℕ → Option ℕ → Machine
locked m client object None = put_lock m object (Some client)
locked m client object (Some holder) = now_doing m client (doing.MustBackOff (record { 0 = ticket_of (doing_at m client) }) (obj_id object))

abbrev pub begun : Machine → ℕ → Machine
begun m client =
    let taking = now_doing m client (doing.Taking (record { 0 = m.contexts.tickets })) in
    record taking { contexts = record taking.contexts { tickets = m.contexts.tickets + 1 } }

abbrev pub backed_off : Doing → Doing
backed_off (doing.MustBackOff ticket object) = doing.BackedOff ticket object
backed_off d = d

abbrev pub relocked : Machine → ℕ → Option ℕ → Machine
relocked m client None = m
relocked m client (Some object) = put_lock (now_doing m client (doing.Taking (record { 0 = ticket_of (doing_at m client) }))) object
    (Some client)

-- Decisions

abbrev pub commit_numbered : Option ℕ → ℕ
commit_numbered None = 0
commit_numbered (Some k) = k

-- the last commit that touched an object, which has not flipped for it
abbrev pub busy_reply : Topology → Machine → Option ℕ → Reply
busy_reply t m None = reply.Done
busy_reply t m (Some object) =
    reply.Busy (obj_id object) (commit_numbered (previous t m.device.commits (length m.device.commits) object))

-- why a request is refused: by its verdict, for want of space for its events, or for being busy
abbrev pub refusal_reply : Topology → Machine → ℕ → Request → Option ℕ → Reply
refusal_reply t m client r (Some n) = reply.Refused (record { 0 = n })
refusal_reply t m client r None =
    if lacks_space t m client r then reply.Space (space_used m.events client) else busy_reply t m (first_pending t m r)

unfoldable pub refused : Topology → Machine → ℕ → Option Request → Machine
refused t m client None = m
refused t m client (Some r) = decided m client (refusal_reply t m client r (verdict t m.device.world r))

-- events are reserved, one for each CRTC that a request names, if it asks for events
abbrev pub reserves : Topology → Machine → ℕ → Request → Machine
reserves t m client r =
    if wants_event r.flags
    then record m {
      events = record m.events {
        reserved = (client, reserved_at m.events client + length (named t m.device.world r))
            ∷ m.events.reserved;
      };
    }
    else m

-- a commit is set up, and its request holds
abbrev pub sets_up : Topology → Machine → ℕ → Request → Machine
sets_up t m client r = record m {
  device = record m.device {
    world = (committed t m.device.world client r).world;
    commits = record { client = client; command = (place_at m client).command; request = r; world = m.device.world } ∷ m.device.commits;
  };
}

-- the client of a commit that blocks waits for it
abbrev pub goes_on_or_waits : Machine → ℕ → Request → ℕ → Machine
goes_on_or_waits m client r k = if is_nonblock r.flags then goes_on m client else now_doing m client (doing.Returning k)

unfoldable pub swapped_state : Topology → Machine → ℕ → Option Request → Machine
swapped_state t m client None = m
swapped_state t m client (Some r) =
    let k = length m.device.commits in
    let answered = joins_journal (answers m client (reply.Commit k)) client in
    goes_on_or_waits (drops_locks (sets_up t (reserves t answered client r) client r) client) client r k

-- Other commands

abbrev pub joins_if : Bool → Machine → ℕ → Machine
joins_if true m client = joins_journal m client
joins_if false m client = m

abbrev pub puts_world : Machine → World → Machine
puts_world m w = record m { device = record m.device { world = w } }

-- a command of a client is answered, joins the journal where it is accepted, and leaves its world
abbrev pub executes : Machine → ℕ → Executed → Machine
executes m client e = goes_on (puts_world (joins_if (is_accepted e.reply) (answers m client e.reply) client) e.world) client

-- a thing is made or closed, or that is refused
unfoldable pub made_thing : Topology → Machine → ℕ → Option Command → Machine
made_thing t m client None = m
made_thing t m client (Some c) = executes m client (execute t m.device.world client c)

abbrev pub signals : Machine → Option ℕ → Machine
signals m None = m
signals m (Some fence) = record m { device = record m.device { signalled = fence ∷ m.device.signalled } }

abbrev pub fence_signalled : Machine → Option Command → Reply → Machine
fence_signalled m (Some (command.Signal label)) reply.Done = signals m (id_of_thing (thing_labelled m.device.world.things label))
fence_signalled m _ _ = m

abbrev pub signalled_by : Topology → Machine → ℕ → Option Command → Machine
signalled_by t m client None = m
signalled_by t m client (Some c) =
    let e = execute t m.device.world client c in
    goes_on (fence_signalled (answers m client e.reply) (Some c) e.reply) client

-- the oldest unread event is read, or there is none
abbrev pub reads : Machine → ℕ → List Event → Machine
reads m client [] = goes_on (answers m client reply.NoEvent) client
reads m client (event ∷ events) =
    let answered = answers m client (reply.Event event) in
    goes_on (record answered {
      events = record answered.events {
        unread = (client, events) ∷ answered.events.unread;
        events_read = (client, event) ∷ answered.events.events_read;
      };
    }) client

-- The tail of a commit

abbrev pub claims : Machine → ℕ → Machine
claims m k = record m { device = record m.device { marks = record m.device.marks { claimed = k ∷ m.device.marks.claimed } } }

-- The registers of an object become those of its new state. A CRTC gets the connector that is on it then, touched or not.
abbrev pub written_registers : Topology → DeviceState → ℕ → ℕ → Registers
written_registers t d k object =
    if is_id_of Crtc object then write_crtc d.shadow object
    (crtc_words (new_connector t d.commits k object) (new_crtc t d.commits k object))
    else write_plane d.shadow object (plane_words (new_plane t d.commits k object))

abbrev pub writes : Topology → Machine → ℕ → ℕ → Machine
writes t m k object = record m {
  device = record m.device {
    shadow = written_registers t m.device k object;
    marks = record m.device.marks { written = (k, object) ∷ m.device.marks.written };
  };
}

-- the event of a commit for a CRTC
abbrev pub event_of : Topology → Machine → ℕ → ℕ → ℕ → Event
event_of t m k crtc count = record {
  user_data = (commit_at t m.device.commits k).request.user_data;
  sequence = count % 2 ^ 32;
  crtc = crtc;
}

-- it becomes unread for the commit's client
abbrev pub delivers : Topology → Machine → ℕ → ℕ → ℕ → Machine
delivers t m k crtc count =
    let client = (commit_at t m.device.commits k).client in
    record m {
      events = record m.events {
        reserved = (client, reserved_at m.events client - 1) ∷ m.events.reserved;
        unread = (client, unread_at m.events client ++ event_of t m k crtc count ∷ []) ∷ m.events.unread;
      };
    }

abbrev pub delivers_if : Topology → Machine → ℕ → ℕ → ℕ → Machine
delivers_if t m k crtc count = if asks_event t m.device.commits k then delivers t m k crtc count else m

-- the live words once the shadow words of a CRTC have become live
abbrev pub live_then : Topology → Machine → ℕ → Registers
live_then t m crtc = latched_registers t m.device.shadow m.device.live crtc

-- what is recorded of a commit that latches at a CRTC: the picture that the live words are then
abbrev pub latch_of : Topology → Machine → ℕ → ℕ → ℕ → Latch
latch_of t m k crtc count = record {
  crtc = index_of crtc;
  commit = k;
  count = count;
  picture = decoded_picture t (live_then t m crtc) crtc;
}

-- a commit latches at a CRTC: the live words become the shadow words there, and the picture is recorded
abbrev pub latches_picture : Topology → Machine → ℕ → ℕ → ℕ → Machine
latches_picture t m k crtc count = record m {
  device = record m.device { live = live_then t m crtc };
  records = record m.records { latches = latch_of t m k crtc count ∷ m.records.latches };
}

-- a commit latches at a CRTC with a count: its event for that CRTC is delivered, and its out-fence there is signalled
unfoldable pub latches : Topology → Machine → ℕ → ℕ → ℕ → Machine
latches t m k crtc count =
    signals (delivers_if t (latches_picture t m k crtc count) k crtc count) (out_fence_of t m.device.commits k crtc)

-- A CRTC that is on after the commit waits for its vblank; one that is off latches at once, with the count as it is.
abbrev pub flushes : Topology → Machine → ℕ → ℕ → Machine
flushes t m k crtc =
    let flushed = record m { device = record m.device { marks = record m.device.marks { flushed = (k, crtc) ∷ m.device.marks.flushed } } }
    in
    if (new_crtc t m.device.commits k crtc).active
    then record flushed { device = record flushed.device { go = (crtc, Some k) ∷ flushed.device.go } }
    else latches t flushed k crtc (count_at m.device crtc)

-- the count of a CRTC rises by one, and its GO is cleared
abbrev pub counts_vblank : Machine → ℕ → Machine
counts_vblank m crtc = record m {
  device = record m.device {
    counts = (crtc, count_at m.device crtc + 1) ∷ m.device.counts;
    go = (crtc, None) ∷ m.device.go;
  };
}

abbrev pub blanks : Topology → Machine → ℕ → Option ℕ → Machine
blanks t m crtc None = counts_vblank m crtc
blanks t m crtc (Some k) = latches t (counts_vblank m crtc) k crtc (count_at m.device crtc + 1)

-- the machine after a step that is legal
unfoldable pub next : Script → Machine → Step → Machine
next s m (Begin client) = begun m client
next s m (Lock client kind index) = locked m client (object_id kind index) (holder_at m (object_id kind index))
next s m (BackOff client) = drops_locks (now_doing m client (backed_off (doing_at m client))) client
next s m (Relock client) = relocked m client (contended (doing_at m client))
next s m (Refuse client) = refused s.topology m client (request_at s m client)
next s m (Test client) = decided m client reply.Tested
next s m (Swap client) = swapped_state s.topology m client (request_at s m client)
next s m (Make client) = made_thing s.topology m client (command_at s m client)
next s m (Signal client) = signalled_by s.topology m client (command_at s m client)
next s m (Claim k) = claims m k
next s m (Write k kind index) = writes s.topology m k (object_id kind index)
next s m (Flush k kind index) = flushes s.topology m k (object_id kind index)
next s m (HwDone k) = record m { device = record m.device { marks = record m.device.marks { done = k ∷ m.device.marks.done } } }
next s m (Vblank kind index) = blanks s.topology m (object_id kind index) (go_at m.device (object_id kind index))
next s m (Cleanup k) = record m { device = record m.device { marks = record m.device.marks { cleaned = k ∷ m.device.marks.cleaned } } }
next s m (Read client) = reads m client (unread_at m.events client)
next s m (Return client) = goes_on m client
next s m Stall = record m { stalled = true }
