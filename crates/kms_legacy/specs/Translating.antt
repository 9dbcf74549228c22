-- How a script with older calls is translated, command by command, and what that asks for.
use Rattle.std.specs.Prelude.{◌≡◌, ◌≤◌, ◌<◌, ◌+◌, ◌^◌, ℕ, Bool, true, false, ◌&&◌, nat_lt, List, [], ◌∷◌, ◌++◌, All, is_some, length}
use Rattle.std.specs.Prelude.{Option, Some, None}
use Rattle.kms_model.specs.declared.legacy.LegacyCall.{LegacyCall}
use Rattle.kms_model.specs.declared.legacy.LegacyCall.TheVariants as call
use Rattle.kms_model.specs.declared.legacy.LegacyCommand.{LegacyCommand}
use Rattle.kms_model.specs.declared.legacy.LegacyCommand.TheVariants.{Plain, Call}
use Rattle.kms_model.specs.declared.legacy.LegacyScript.{LegacyScript}
use Rattle.kms_model.specs.declared.objects.Topology.{Topology}
use Rattle.kms_model.specs.declared.scripts.Command.{Command}
use Rattle.kms_model.specs.declared.scripts.Script.{Script}
use Rattle.kms_model.specs.Device.Execution.{execute}
use Rattle.kms_model.specs.Device.Sound.{IsDevice}
use Rattle.kms_model.specs.Device.World.{start}
use Rattle.kms_model.specs.Legacy.LegacyCalls.{call_may_stand}
use Rattle.kms_model.specs.Legacy.LegacyLines.{SpellsLegacy}
use Rattle.kms_model.specs.Legacy.Translated.{meant}
use Rattle.kms_model.specs.Script.CommandLines.{Names, command_read, is_over, words_in}
use Rattle.kms_model.specs.Script.WellFormed.{IsFitCommand, is_command_in, is_label_in}
use Rattle.kms_model.specs.Script.WholeInput.{clients_of}
use Rattle.kms_words.specs.Named.{NamesGrow, kept}
use Rattle.kms_script.specs.ReadAnew.{IsLineOf}
use Rattle.kms_legacy.specs.declared.script.Going.{Going}

-- Scripts that are translated

-- What a script with older calls is that some bytes spell: the bytes themselves are a part of it, so that the names stand in the
-- order in which they are first said, and each label is made once.
pub record IsWellFormedLegacy (s : LegacyScript) : Type 0 where
  pub device : IsDevice s.base.topology
  pub few : length s.commands ≤ 4096
  pub bytes : List ℕ
  pub spells : SpellsLegacy bytes s

-- The line of a command in the words of a script's names has few bytes, and is read behind any names of the device's profile
-- as a command that has no more than 256 assignments.
pub record IsReadAnew (profile : ℕ) (old : List (List ℕ)) (c : Command) : Type 0 where
  pub spelt : is_command_in profile old c ≡ true
  pub written : is_over c ≡ false
  pub short : (text : List ℕ) → IsLineOf old c text → length text ≤ 32768
  pub formed : (text : List ℕ) (names : Names) → IsLineOf old c text → names.profile ≡ profile → is_some (command_read names text) ≡ true
  pub few : (text : List ℕ) (names after : Names) (d : Command) → IsLineOf old c text → names.profile ≡ profile
      → command_read names text ≡ Some (d, after) → is_over d ≡ false

-- a call's labels are among the names, and its user data has 64 bits
abbrev pub is_call_in : List (List ℕ) → LegacyCall → Bool
is_call_in names (call.SetCrtc crtc fb x y mode conn) = is_label_in names fb && is_label_in names mode
is_call_in names (call.SetPlane plane crtc fb dst src) = is_label_in names fb
is_call_in names (call.PageFlip crtc fb event user) = is_label_in names fb && nat_lt user (2 ^ 64)
is_call_in names (call.Cursor crtc fb x y) = is_label_in names fb
is_call_in names _ = true

-- a call that may stand in a script with a device and names
pub record IsFitCall (t : Topology) (old : List (List ℕ)) (c : LegacyCall) : Type 0 where
  pub stands : call_may_stand t c ≡ true
  pub named : is_call_in old c ≡ true

abbrev pub IsFitLine : Topology → List (List ℕ) → LegacyCommand → Type 0
IsFitLine t old (Plain c) = IsReadAnew t.profile old c
IsFitLine t old (Call c) = IsFitCall t old c

-- Each command of such a script is one that the translation can take.
pub record IsFitLegacy (s : LegacyScript) : Type 0 where
  pub device : IsDevice s.base.topology
  pub few : length s.commands ≤ 4096
  pub lines : All (IsFitLine s.base.topology s.base.names) s.commands

-- Commands, one after the other

-- the names that the new script has said so far
abbrev pub said_names : Going → Names
said_names g = g.names.names

-- before the first command of a script over a device
pub record IsAtStart (t : Topology) (g : Going) : Type 0 where
  pub blank : g.names ≡ kept t.profile []
  pub device : g.serial ≡ record { topology = t; world = start t }
  pub lines : g.lines ≡ []

-- the names are of the device's profile, and the device of one thread is this one
pub record IsOver (t : Topology) (g : Going) : Type 0 where
  pub profile : (said_names g).profile ≡ t.profile
  pub device : g.serial.topology ≡ t

-- there is room for one command more
pub record HasRoomToGo (g : Going) : Type 0 where
  pub all : length (said_names g).all + 32770 ≤ 2 ^ 32
  pub made : (said_names g).made + 32770 ≤ 2 ^ 63
  pub ids : g.serial.world.next_id < 4294967000
  pub commits : g.serial.world.commits < 4294967000

-- a command brings at most so many names, things and commits; the device and the profile stay
pub record GoesOn (before after : Going) : Type 0 where
  pub profile : (said_names after).profile ≡ (said_names before).profile
  pub device : after.serial.topology ≡ before.serial.topology
  pub grown : NamesGrow (said_names before) (said_names after) 32770
  pub ids : after.serial.world.next_id ≤ before.serial.world.next_id + 4
  pub commits : after.serial.world.commits ≤ before.serial.world.commits + 1

-- A command of the old script is said in the words of the new one: its line is read behind the names so far, and the one
-- client executes it.
pub record IsSaidAnew (old : List (List ℕ)) (t : Topology) (c : Command) (before after : Going) : Type 0 where
  pub spelt : is_command_in t.profile old c ≡ true
  pub few : is_over c ≡ false
  pub text : List ℕ
  pub is_line : IsLineOf old c text
  pub command : Command
  pub read : command_read (said_names before) text ≡ Some (command, said_names after)
  pub fit : IsFitCommand command
  pub world : after.serial.world ≡ (execute t before.serial.world 1 command).world
  pub lines : after.lines ≡ before.lines ++ command ∷ []

abbrev pub IsLeft : List (List ℕ) → Topology → Option Command → Going → Going → Type 0
IsLeft old t None before after = after ≡ before
IsLeft old t (Some c) before after = IsSaidAnew old t c before after

-- what a command of the old script leaves is done
abbrev pub IsPassed : List (List ℕ) → Topology → LegacyCommand → Going → Going → Type 0
IsPassed old t c before after = IsLeft old t (meant old (words_in (said_names before)) t before.serial.world c) before after

-- and so for commands, one after the other
abbrev pub ArePassed : List (List ℕ) → Topology → List LegacyCommand → Going → Going → Type 0
ArePassed old t [] before after = after ≡ before
ArePassed old t (c ∷ cs) before after = (between : Going) × (IsPassed old t c before between × ArePassed old t cs between after)

-- the new script, of the names and the lines that it has then
abbrev pub script_of : LegacyScript → Going → Script
script_of s g = record {
  version = s.base.version;
  topology = s.base.topology;
  names = words_in (said_names g);
  clients = clients_of s.client g.lines;
}
