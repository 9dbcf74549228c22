-- The device of one thread: what a journal leaves and what it shows.
use Rattle.std.specs.Prelude.{ℕ, zero, suc, Bool, true, false, List, [], ◌∷◌, ◌++◌, Option, Some, None, if◌then◌else◌, slice_get}
use Rattle.kms_model.specs.Firsts.{listed}
use Rattle.kms_model.specs.declared.objects.Topology.{Topology}
use Rattle.kms_model.specs.declared.pictures.Picture.{Picture}
use Rattle.kms_model.specs.declared.replies.Reply.{Reply}
use Rattle.kms_model.specs.declared.replies.Reply.TheVariants as reply
use Rattle.kms_model.specs.declared.scripts.Command.{Command}
use Rattle.kms_model.specs.declared.scripts.Command.TheVariants as command
use Rattle.kms_model.specs.declared.scripts.Request.{Request}
use Rattle.kms_model.specs.declared.scripts.Script.{Script}
use Rattle.kms_model.specs.declared.worlds.Setting.{Setting}
use Rattle.kms_model.specs.declared.worlds.World.{World}
use Rattle.kms_model.specs.Script.Words.{◌>>=◌}
use Rattle.kms_model.specs.Device.World.{start}
use Rattle.kms_model.specs.Request.Named.{names}
use Rattle.kms_model.specs.Frames.Pictures.{picture}
use Rattle.kms_model.specs.Frames.FrameBytes.{frame_bytes}
use Rattle.kms_model.specs.Device.Execution.{Executed, execute}

-- A command is accepted where it makes a thing, is done or is committed.
abbrev pub is_accepted : Reply → Bool
is_accepted (reply.Made id) = true
is_accepted reply.Done = true
is_accepted (reply.Commit k) = true
is_accepted _ = false

-- a commit, what a CRTC shows after it, and the bytes of that frame
pub record Pictured : Type 0 where
  pub commit : ℕ
  pub picture : Picture
  pub frame : List ℕ

abbrev pub pictured : Topology → World → ℕ → ℕ → Pictured
pictured t w crtc k = let p = picture t w.things w.values crtc in record { commit = k; picture = p; frame = frame_bytes w.things p }

-- what a commit makes a CRTC show that it names: old are the values before it
abbrev pub shown_after : Topology → ℕ → List Setting → Request → World → Reply → Option Pictured
shown_after t crtc old r after (reply.Commit k) = if names old after.values r.assigns crtc then Some (pictured t after crtc k) else None
shown_after t crtc old r after _ = None

-- what a command makes a CRTC show: nothing new unless it is a commit that names the CRTC
abbrev pub shown_by : Topology → ℕ → List Setting → Command → Executed → Option Pictured
shown_by t crtc old (command.Atomic r) e = shown_after t crtc old r e.world e.reply
shown_by t crtc old _ e = None

-- an entry of a journal: a client and the number of its command, both counted from 1
pub record Entry : Type 0 where
  pub client : ℕ
  pub command : ℕ

abbrev pub from_one : {A : Type 0} → List A → ℕ → Option A
from_one xs zero = None
from_one xs (suc n) = slice_get xs n

-- the command of an entry
abbrev pub command_of : Script → Entry → Option Command
command_of s e = do
  commands ← from_one s.clients e.client
  from_one commands e.command

-- a command of a script, where there is one
abbrev pub execute_in : Topology → World → ℕ → Option Command → World
execute_in t w client None = w
execute_in t w client (Some c) = (execute t w client c).world

abbrev pub shown_in : Topology → ℕ → World → ℕ → Option Command → List Pictured
shown_in t crtc w client None = []
shown_in t crtc w client (Some c) = listed (shown_by t crtc w.values c (execute t w client c))

unfoldable pub serial_from : Script → World → List Entry → World
serial_from s w [] = w
serial_from s w (e ∷ es) = serial_from s (execute_in s.topology w e.client (command_of s e)) es

-- the world after a journal is executed from the start, one entry after the other
abbrev pub serial : Script → List Entry → World
serial s journal = serial_from s (start s.topology) journal

unfoldable pub show_from : Script → ℕ → World → List Entry → List Pictured
show_from s crtc w [] = []
show_from s crtc w (e ∷ es) =
    shown_in s.topology crtc w e.client (command_of s e)
    ++ show_from s crtc (execute_in s.topology w e.client (command_of s e)) es

-- what the device of one thread shows on a CRTC when it executes a journal: each commit that names the CRTC, and
-- the picture after it
abbrev pub show : Script → List Entry → ℕ → List Pictured
show s journal crtc = show_from s crtc (start s.topology) journal
