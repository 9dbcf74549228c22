-- The state of the machine: the device, the clients' contexts, what is recorded, and events. Tables and lists have their
-- newest entry first, but for unread events. From: "Atomic Mode Setting" (the commit tail of drm_atomic_helper_commit),
-- "Vertical Blanking", "KMS Locking"; the order of the parts is this device's own.
use Rattle.std.specs.Prelude.{ℕ, Bool, false, List, [], ◌==◌, Option, Some, None}
use Rattle.kms_model.specs.declared.replies.Answered.{Answered}
use Rattle.kms_model.specs.declared.replies.Event.{Event}
use Rattle.kms_model.specs.declared.runs.Doing.{Doing}
use Rattle.kms_model.specs.declared.runs.Doing.TheVariants as doing
use Rattle.kms_model.specs.declared.runs.Latch.{Latch}
use Rattle.kms_model.specs.declared.runs.Place.{Place}
use Rattle.kms_model.specs.declared.objects.Topology.{Topology}
use Rattle.kms_model.specs.declared.scripts.Command.{Command}
use Rattle.kms_model.specs.declared.scripts.Command.TheVariants as command
use Rattle.kms_model.specs.declared.scripts.Request.{Request}
use Rattle.kms_model.specs.declared.scripts.Script.{Script}
use Rattle.kms_model.specs.declared.worlds.World.{World}
use Rattle.kms_model.specs.Device.Serial.{Entry, command_of}
use Rattle.kms_model.specs.Device.World.{start}
use Rattle.kms_model.specs.Machine.Registers.{Registers, first_registers, read}

-- A commit: whose command it is, its request, and the world before it. All else of it is computed from these: what it
-- names and touches, the old and the new states, and its fences. (`struct drm_crtc_commit`, `struct drm_atomic_state`.)
pub record Commit : Type 0 where
  pub client : ℕ
  pub command : ℕ
  pub request : Request
  pub world : World

-- What was done of commits, which are numbered from 0; a write and a flush with the object's id. (The completions of
-- `struct drm_crtc_commit`: hw_done, flip_done, cleanup_done; what has flipped is told by the latches.)
pub record Marks : Type 0 where
  pub claimed : List ℕ
  pub written : List (ℕ × ℕ)
  pub flushed : List (ℕ × ℕ)
  pub done : List ℕ
  pub cleaned : List ℕ

-- the device: the number of a commit is that of the commits before it
pub record DeviceState : Type 0 where
  pub world : World
  pub commits : List Commit
  pub marks : Marks
  pub shadow : Registers
  pub live : Registers
  -- the commit that a CRTC latches at its next vblank, and the count of its vblanks, by id
  pub go : List (ℕ × Option ℕ)
  pub counts : List (ℕ × ℕ)
  -- the ids of the fences that are signalled
  pub signalled : List ℕ

-- the clients' places, the client that holds each object's lock, and how many tickets were drawn
pub record Contexts : Type 0 where
  pub places : List (ℕ × Place)
  pub locks : List (ℕ × Option ℕ)
  pub tickets : ℕ

-- what is recorded: accepted commands, replies and latches
pub record Records : Type 0 where
  pub journal : List Entry
  pub replies : List Answered
  pub latches : List Latch

-- Of each client how many events are reserved, and its unread events, the oldest first; the events that were read, with
-- their clients. (`struct drm_pending_event`; `drm_read`.)
pub record Events : Type 0 where
  pub reserved : List (ℕ × ℕ)
  pub unread : List (ℕ × List Event)
  pub events_read : List (ℕ × Event)

pub record Machine : Type 0 where
  pub device : DeviceState
  pub contexts : Contexts
  pub records : Records
  pub events : Events
  -- a dead history was ended
  pub stalled : Bool

abbrev pub no_marks : Marks
no_marks = record { claimed = []; written = []; flushed = []; done = []; cleaned = [] }

-- before the first step
abbrev pub first_machine : Topology → Machine
first_machine t = record {
  device = record {
    world = start t;
    commits = [];
    marks = no_marks;
    shadow = first_registers;
    live = first_registers;
    go = [];
    counts = [];
    signalled = [];
  };
  contexts = record { places = []; locks = []; tickets = 0 };
  records = record { journal = []; replies = []; latches = [] };
  events = record { reserved = []; unread = []; events_read = [] };
  stalled = false;
}

-- Look-ups

-- clients begin idle at their first command
abbrev pub place_at : Machine → ℕ → Place
place_at m client = read (record { command = 1; doing = doing.Idle }) m.contexts.places client

abbrev pub doing_at : Machine → ℕ → Doing
doing_at m client = (place_at m client).doing

abbrev pub entry_at : Machine → ℕ → Entry
entry_at m client = record { client = client; command = (place_at m client).command }

-- the command at which a client stands, none at its end
abbrev pub command_at : Script → Machine → ℕ → Option Command
command_at s m client = command_of s (entry_at m client)

abbrev pub request_in : Option Command → Option Request
request_in (Some (command.Atomic r)) = Some r
request_in _ = None

-- the request at which a client stands
abbrev pub request_at : Script → Machine → ℕ → Option Request
request_at s m client = request_in (command_at s m client)

-- the client that holds an object's lock
abbrev pub holder_at : Machine → ℕ → Option ℕ
holder_at m object = read None m.contexts.locks object

abbrev pub has_value : ℕ → Option ℕ → Bool
has_value n None = false
has_value n (Some other) = other == n

-- a client holds an object's lock
abbrev pub holds : Machine → ℕ → ℕ → Bool
holds m client object = has_value client (holder_at m object)

abbrev pub go_at : DeviceState → ℕ → Option ℕ
go_at d crtc = read None d.go crtc

abbrev pub count_at : DeviceState → ℕ → ℕ
count_at d crtc = read 0 d.counts crtc

abbrev pub reserved_at : Events → ℕ → ℕ
reserved_at e client = read 0 e.reserved client

abbrev pub unread_at : Events → ℕ → List Event
unread_at e client = read [] e.unread client
