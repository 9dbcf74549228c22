-- Scripts that say by atomic requests what a script with older calls says. The relation is over the words of lines, so that
-- both scripts have their own names, each in order of first occurrence.
use Rattle.std.specs.Prelude.{◌≡◌, ℕ, Bool, false, List, [], ◌∷◌, get_or, option_map, Option, Some, None, Result, ⊤}
use Rattle.std.specs.List.{position_or_len}
use Rattle.std.specs.Result.{result_ok}
use Rattle.std.specs.Str.{bytes_eq}
use Rattle.kms_model.specs.declared.legacy.LegacyCall.{LegacyCall}
use Rattle.kms_model.specs.declared.legacy.LegacyCall.TheVariants as call
use Rattle.kms_model.specs.declared.legacy.LegacyCommand.{LegacyCommand}
use Rattle.kms_model.specs.declared.legacy.LegacyCommand.TheVariants.{Plain, Call}
use Rattle.kms_model.specs.declared.legacy.LegacyScript.{LegacyScript}
use Rattle.kms_model.specs.declared.objects.Mode.{Mode}
use Rattle.kms_model.specs.declared.objects.Topology.{Topology}
use Rattle.kms_model.specs.declared.pictures.FbInfo.{FbInfo}
use Rattle.kms_model.specs.declared.scripts.Command.{Command}
use Rattle.kms_model.specs.declared.scripts.Command.TheVariants as command
use Rattle.kms_model.specs.declared.scripts.Request.{Request}
use Rattle.kms_model.specs.declared.scripts.Script.{Script}
use Rattle.kms_model.specs.declared.worlds.Look.{Look}
use Rattle.kms_model.specs.declared.worlds.World.{World}
use Rattle.kms_model.specs.Device.Execution.{execute}
use Rattle.kms_model.specs.Device.Serial.{is_accepted}
use Rattle.kms_model.specs.Device.World.{start}
use Rattle.kms_model.specs.Legacy.Translation.{call_request, present_in}
use Rattle.kms_model.specs.Request.Lookups.{look_up}
use Rattle.kms_model.specs.Request.Sets.{fb_of_look, mode_of_look}
use Rattle.kms_model.specs.Script.Spelling.{command_words, name_word}
use Rattle.kms_model.specs.Script.WellFormed.{IsWellFormed}
use Rattle.kms_model.specs.Script.WholeInput.{clients_of}

-- What a call's labels name

-- the legal mode, where a function tells what labels name
abbrev pub mode_of_call : (ℕ → Look) → LegacyCall → Option Mode
mode_of_call look (call.SetCrtc crtc fb x y mode conn) = mode_of_look (look mode)
mode_of_call look _ = None

-- the framebuffer
abbrev pub fb_of_call : (ℕ → Look) → LegacyCall → Option FbInfo
fb_of_call look (call.SetCrtc crtc fb x y mode conn) = fb_of_look (look fb)
fb_of_call look (call.SetPlane plane crtc fb dst src) = fb_of_look (look fb)
fb_of_call look (call.PageFlip crtc fb event user) = fb_of_look (look fb)
fb_of_call look (call.Cursor crtc fb x y) = fb_of_look (look fb)
fb_of_call look _ = None

-- The number that a label of one script has among the names of another. A word that is none of these has the number after
-- the last one, under which nothing is made.
abbrev pub renumbered : List (List ℕ) → List (List ℕ) → ℕ → ℕ
renumbered old new label = position_or_len (bytes_eq (name_word old label)) new

-- what a label of the old script names in a world of the new one
abbrev pub look_anew : List (List ℕ) → List (List ℕ) → World → ℕ → Look
look_anew old new w label = look_up w (renumbered old new label)

-- What a line leaves

-- The request of a call in a world of the new script, with the labels of the old one, or the number with which the call is
-- refused. What its labels name and the values that it reads are those before it.
unfoldable pub translated : List (List ℕ) → List (List ℕ) → Topology → World → LegacyCall → Result Request ℕ
translated old new t w c = call_request t (present_in w) (mode_of_call (look_anew old new w) c) (fb_of_call (look_anew old new w) c) c

-- The command that a line of the old script leaves: a plain one as it is, and a request for a call. A call that is refused
-- before it is translated leaves none; one whose request the device will refuse leaves that request.
unfoldable pub meant : List (List ℕ) → List (List ℕ) → Topology → World → LegacyCommand → Option Command
meant old new t w (Plain c) = Some c
meant old new t w (Call c) = option_map command.Atomic (result_ok (translated old new t w c))

-- two commands are one line, each in the words of its script
abbrev pub SaysSame : List (List ℕ) → List (List ℕ) → Command → Command → Type 0
SaysSame old new c d = command_words old c ≡ command_words new d

-- the next line of the new script is that which is left, if one is
abbrev pub SaysNext : List (List ℕ) → List (List ℕ) → Option Command → List Command → Type 0
SaysNext old new None lines = ⊤
SaysNext old new (Some c) [] = ⊥
SaysNext old new (Some c) (d ∷ lines) = SaysSame old new c d

-- behind a line of the old script: the world, the lines of the new script that are still to come, and whether what the line
-- left was accepted
pub record AfterLine : Type 0 where
  pub world : World
  pub lines : List Command
  pub accepted : Bool

-- the one client executes the next line, where one is left
abbrev pub after_line : Topology → World → Option Command → List Command → AfterLine
after_line t w None lines = record { world = w; lines = lines; accepted = false }
after_line t w (Some c) [] = record { world = w; lines = []; accepted = false }
after_line t w (Some c) (d ∷ lines) =
    let executed = execute t w 1 d in
    record { world = executed.world; lines = lines; accepted = is_accepted executed.reply }

-- Scripts

-- lines of the new script are those that lines of the old one leave, from a world on
abbrev pub AreTranslated : List (List ℕ) → List (List ℕ) → Topology → World → List LegacyCommand → List Command → Type 0
AreTranslated old new t w [] lines = lines ≡ []
AreTranslated old new t w (c ∷ cs) lines =
    let left = meant old new t w c in
    let next = after_line t w left lines in
    SaysNext old new left lines × AreTranslated old new t next.world cs next.lines

-- the commands of a script of at most one client
abbrev pub lone_commands : List (List Command) → List Command
lone_commands clients = get_or clients 0 []

-- A script says by requests what a script with older calls says. It is well formed, so its names are those of its own lines in
-- order of first occurrence: a call says its framebuffer before its mode, and its request the mode first; a label of calls
-- that leave no line is no name. Its text may have more bytes than a script may have.
pub record IsTranslated (s : LegacyScript) (out : Script) : Type 0 where
  pub version : out.version ≡ s.base.version
  pub topology : out.topology ≡ s.base.topology
  pub clients : out.clients ≡ clients_of s.client (lone_commands out.clients)
  pub lines : AreTranslated s.base.names out.names s.base.topology (start s.base.topology) s.commands (lone_commands out.clients)
  pub well_formed : IsWellFormed out

-- There is at most one such script.
abbrev pub OneTranslation : Type 0
OneTranslation = (s : LegacyScript) (out other : Script) → IsTranslated s out → IsTranslated s other → out ≡ other
