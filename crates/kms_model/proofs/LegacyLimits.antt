-- Worked examples of lines of scripts with older calls at their limits, of commands that such scripts share with others, and of calls
-- by themselves, computed.
use Rattle.std.proofs.Common.{◌≡◌, ℕ, ◌-◌, true, false, List, [], ◌∷◌, ◌++◌, map, replicate, refl, codes, pos, negsuc, Option, Some, None}
use Rattle.std.proofs.Common.{is_some, Ok, Err}
use Rattle.kms_model.specs.declared.legacy.LegacyCall.{LegacyCall}
use Rattle.kms_model.specs.declared.legacy.LegacyCall.TheVariants as call
use Rattle.kms_model.specs.declared.legacy.LegacyCommand.TheVariants.{Plain}
use Rattle.kms_model.specs.declared.pictures.Rect.{Rect}
use Rattle.kms_model.specs.declared.scripts.Command.TheVariants as command
use Rattle.kms_model.specs.declared.scripts.Why.{Why}
use Rattle.kms_model.specs.declared.scripts.Why.TheVariants.{Limit}
use Rattle.kms_model.specs.Legacy.LegacyCalls.{call_may_stand}
use Rattle.kms_model.specs.Legacy.LegacyLines.{LegacyDraft, LegacyLined, legacy_input, legacy_line_after, spelt_legacy_line}
use Rattle.kms_model.specs.Script.InputLines.{Row}
use Rattle.kms_model.specs.Script.WholeInput.{blank_draft, script_limit}
use Rattle.kms_model.proofs.LegacyRows.{base_with}
use Rattle.kms_model.proofs.OnLegacy.{on_legacy}
use Rattle.kms_model.proofs.Rows.{device, head}

-- Limits

-- lines that spell so many commands, make so many labels and have so many bytes
abbrev lines_with : ℕ → ℕ → ℕ → LegacyDraft
lines_with commands labels size = record {
  draft = record blank_draft { names = record blank_draft.names { made = labels }; has_client = true; size = size };
  commands = replicate commands (Plain command.Wait);
}

abbrev line_of : List ℕ → Row
line_of text = record { text = text; is_ended = true }

abbrev why_not : LegacyLined → Option Why
why_not (Ok d) = None
why_not (Err why) = Some why

abbrev waits_behind : LegacyDraft → Option Why
waits_behind d = why_not (legacy_line_after d (line_of (codes "wait")))

abbrev fence_behind : LegacyDraft → Option Why
fence_behind d = why_not (legacy_line_after d (line_of (codes "fence f")))

-- 4096 commands, 4096 labels, of which a command without one makes none, and the bytes of a script
pub limits_are_those_of_scripts :
    map waits_behind (
    lines_with 4095 0 0 ∷ lines_with 4096 0 0 ∷ lines_with 0 4096 0
    ∷ lines_with 0 0 (script_limit - 5) ∷ lines_with 0 0 (script_limit - 4) ∷ [])
    ++ map fence_behind (lines_with 0 4095 0 ∷ lines_with 0 4096 0 ∷ [])
    ≡ None ∷ Some Limit ∷ None ∷ None ∷ Some Limit ∷ None ∷ Some Limit ∷ []
unfolding on_legacy
limits_are_those_of_scripts = refl

-- A script has those of its commands and labels, but it may have more bytes than a text that is read.
pub spelt_lines_have_no_limit_of_bytes :
    map (λ d. is_some (spelt_legacy_line d (line_of (codes "fence f"))))
    (lines_with 0 0 script_limit ∷ lines_with 4096 0 0 ∷ lines_with 0 4096 0 ∷ [])
    ≡ true ∷ false ∷ false ∷ []
unfolding on_legacy
spelt_lines_have_no_limit_of_bytes = refl

-- Commands

-- those without an effect on pictures stay
pub plain_commands_are_read : legacy_input (head ++ codes "client\nfence a\nwait\nsignal a\ndestroy x\n")
    ≡ Ok (record {
      base = base_with (codes "a" ∷ codes "x" ∷ []);
      client = true;
      commands = Plain (command.Fence 0) ∷ Plain command.Wait ∷ Plain (command.Signal 0) ∷ Plain (command.Destroy 1) ∷ [];
    })
unfolding on_legacy
plain_commands_are_read = refl

-- Calls by themselves

abbrev least_destination : Rect
least_destination = record { x = negsuc 2147483647; y = negsuc 2147483647; w = pos 0; h = pos 0 }

abbrev least_part : Rect
least_part = record { x = pos 0; y = pos 0; w = pos 0; h = pos 0 }

abbrev greatest_destination : Rect
greatest_destination = record { x = pos 2147483647; y = pos 2147483647; w = pos 2147483647; h = pos 2147483647 }

abbrev greatest_part : Rect
greatest_part = record { x = pos 4294967295; y = pos 4294967295; w = pos 4294967295; h = pos 4294967295 }

-- of a device with one object of each kind: numbers at the ends of their ranges
abbrev standing : List LegacyCall
standing =
    call.SetCrtc 0 8 0 0 9 0
    ∷ call.SetCrtc 0 8 65535 65535 9 0
    ∷ call.CrtcOff 0
    ∷ call.SetPlane 0 0 8 least_destination least_part
    ∷ call.SetPlane 0 0 8 greatest_destination greatest_part
    ∷ call.PlaneOff 0
    ∷ call.PageFlip 0 8 true 18446744073709551615
    ∷ call.Cursor 0 8 (negsuc 2147483647) (negsuc 2147483647)
    ∷ call.Cursor 0 8 (pos 2147483647) (pos 2147483647)
    ∷ call.CursorMove 0 (negsuc 2147483647) (negsuc 2147483647)
    ∷ call.CursorMove 0 (pos 2147483647) (pos 2147483647)
    ∷ call.CursorOff 0
    ∷ []

-- objects that are not there
abbrev without_objects : List LegacyCall
without_objects =
    call.SetCrtc 1 8 0 0 9 0
    ∷ call.SetCrtc 0 8 0 0 9 1
    ∷ call.CrtcOff 1
    ∷ call.SetPlane 1 0 8 least_destination least_part
    ∷ call.SetPlane 0 1 8 least_destination least_part
    ∷ call.PlaneOff 1
    ∷ call.PageFlip 1 8 true 0
    ∷ call.Cursor 1 8 (pos 0) (pos 0)
    ∷ call.CursorMove 1 (pos 0) (pos 0)
    ∷ call.CursorOff 1
    ∷ []

-- one number beyond an end of its range
abbrev out_of_range : List LegacyCall
out_of_range =
    call.SetCrtc 0 8 65536 0 9 0
    ∷ call.SetCrtc 0 8 0 65536 9 0
    ∷ call.SetPlane 0 0 8 (record least_destination { x = negsuc 2147483648 }) least_part
    ∷ call.SetPlane 0 0 8 (record least_destination { y = pos 2147483648 }) least_part
    ∷ call.SetPlane 0 0 8 (record least_destination { w = negsuc 0 }) least_part
    ∷ call.SetPlane 0 0 8 (record least_destination { h = pos 2147483648 }) least_part
    ∷ call.SetPlane 0 0 8 least_destination (record least_part { x = negsuc 0 })
    ∷ call.SetPlane 0 0 8 least_destination (record least_part { y = pos 4294967296 })
    ∷ call.SetPlane 0 0 8 least_destination (record least_part { w = pos 4294967296 })
    ∷ call.SetPlane 0 0 8 least_destination (record least_part { h = negsuc 0 })
    ∷ call.Cursor 0 8 (pos 2147483648) (pos 0)
    ∷ call.Cursor 0 8 (pos 0) (negsuc 2147483648)
    ∷ call.CursorMove 0 (negsuc 2147483648) (pos 0)
    ∷ call.CursorMove 0 (pos 0) (pos 2147483648)
    ∷ []

pub calls_that_may_stand : map (call_may_stand device) standing ≡ map (λ c. true) standing
unfolding on_legacy
calls_that_may_stand = refl

pub calls_that_may_not_stand :
    map (call_may_stand device) (without_objects ++ out_of_range) ≡ map (λ c. false) (without_objects ++ out_of_range)
unfolding on_legacy
calls_that_may_not_stand = refl
