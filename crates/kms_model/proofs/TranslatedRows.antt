-- Worked examples of a script with older calls and its translation, computed: what bytes spell them, that the one is the other's
-- translation, what the device of one thread shows of it, and what mode a call names.
use Rattle.std.proofs.Common.{◌≡◌, ℕ, true, List, [], ◌∷◌, ◌++◌, map, refl, codes, Option, Some, None, Ok, Err}
use Rattle.kms_model.specs.declared.flags.TheConstants.{ALLOW_MODESET}
use Rattle.kms_model.specs.declared.legacy.LegacyCall.{LegacyCall}
use Rattle.kms_model.specs.declared.legacy.LegacyCall.TheVariants as call
use Rattle.kms_model.specs.declared.legacy.LegacyCommand.TheVariants.{Plain, Call}
use Rattle.kms_model.specs.declared.legacy.LegacyScript.{LegacyScript}
use Rattle.kms_model.specs.declared.legacy.TheConstants.LegacyRefusal.{NOT_SHOWN}
use Rattle.kms_model.specs.declared.objects.Format.TheVariants.{Xr24}
use Rattle.kms_model.specs.declared.objects.Kind.TheVariants as kind
use Rattle.kms_model.specs.declared.objects.Mode.{Mode}
use Rattle.kms_model.specs.declared.properties.TheConstants.{FB_ID, CRTC_ID, CRTC_X, CRTC_Y, CRTC_W, CRTC_H, SRC_X, SRC_Y, SRC_W, SRC_H}
use Rattle.kms_model.specs.declared.properties.TheConstants.{ACTIVE, MODE_ID}
use Rattle.kms_model.specs.declared.scripts.Assign.{Assign}
use Rattle.kms_model.specs.declared.scripts.Command.{Command}
use Rattle.kms_model.specs.declared.scripts.Command.TheVariants as command
use Rattle.kms_model.specs.declared.scripts.Pattern.TheVariants.{Solid}
use Rattle.kms_model.specs.declared.scripts.Script.{Script}
use Rattle.kms_model.specs.declared.scripts.Value.TheVariants as value
use Rattle.kms_model.specs.declared.worlds.World.{World}
use Rattle.kms_model.specs.Device.Execution.{execute}
use Rattle.kms_model.specs.Device.ModeBytes.{mode_bytes}
use Rattle.kms_model.specs.Device.World.{start}
use Rattle.kms_model.specs.Legacy.LegacyLines.{legacy_input, SpellsLegacy}
use Rattle.kms_model.specs.Legacy.Translated.{AreTranslated, after_line, lone_commands, translated, mode_of_call}
use Rattle.kms_model.specs.Request.Lookups.{look_up}
use Rattle.kms_model.specs.Script.WholeInput.{input}
use Rattle.kms_model.proofs.LegacyRows.{base_with}
use Rattle.kms_model.proofs.MachineInputs.{plain, report_of_script}
use Rattle.kms_model.proofs.OnLegacy.{on_legacy}
use Rattle.kms_model.proofs.OnMachines.{on_machines}
use Rattle.kms_model.proofs.Rows.{device, head, made, named_tiny}
use Rattle.kms_model.proofs.VerdictRows.{number, sets}

-- A flip before the CRTC is lit, what lights it, and a flip behind that

abbrev pub names : List (List ℕ)
names = codes "b" ∷ codes "f" ∷ codes "m" ∷ []

abbrev making : List Command
making = command.Buffer 0 1 1 Xr24 (Solid 0x00616263) ∷ command.AddFb 1 0 ∷ command.Mode 2 named_tiny ∷ []

abbrev pub flips : LegacyCall
flips = call.PageFlip 0 1 true 7

abbrev pub lights : LegacyCall
lights = call.SetCrtc 0 1 0 0 2 0

abbrev pub old_script : LegacyScript
old_script = record {
  base = base_with names;
  client = true;
  commands = map (λ c. Plain c) making ++ Call flips ∷ Call lights ∷ Call flips ∷ [];
}

pub script_with_older_calls_is_read : legacy_input
    (head ++ made ++ codes "pageflip 0 @f 0x1 7\nsetcrtc 0 @f 0 0 @m 0\npageflip 0 @f 0x1 7\n") ≡ Ok old_script
unfolding on_legacy
script_with_older_calls_is_read = refl

pub script_with_older_calls_is_spelt : SpellsLegacy
    (head ++ made ++ codes "pageflip 0 @f 0x1 7\nsetcrtc 0 @f 0 0 @m 0\npageflip 0 @f 0x1 7\n") old_script
unfolding on_legacy
script_with_older_calls_is_spelt = refl

abbrev lit : List Assign
lit =
    sets kind.Crtc 0 ACTIVE (number 1)
    ∷ sets kind.Crtc 0 MODE_ID (value.Named 2)
    ∷ sets kind.Conn 0 CRTC_ID (value.Crtc 0)
    ∷ sets kind.Plane 0 FB_ID (value.Named 1)
    ∷ sets kind.Plane 0 CRTC_ID (value.Crtc 0)
    ∷ sets kind.Plane 0 CRTC_X (number 0)
    ∷ sets kind.Plane 0 CRTC_Y (number 0)
    ∷ sets kind.Plane 0 CRTC_W (number 1)
    ∷ sets kind.Plane 0 CRTC_H (number 1)
    ∷ sets kind.Plane 0 SRC_X (number 0)
    ∷ sets kind.Plane 0 SRC_Y (number 0)
    ∷ sets kind.Plane 0 SRC_W (number 65536)
    ∷ sets kind.Plane 0 SRC_H (number 65536)
    ∷ []

abbrev pub new_script : Script
new_script = record {
  version = 1;
  topology = device;
  names = names;
  clients =
      (making
      ++ command.Atomic (record { flags = ALLOW_MODESET; user_data = 0; assigns = lit })
      ∷ command.Atomic (record { flags = 0x201; user_data = 7; assigns = sets kind.Plane 0 FB_ID (value.Named 1) ∷ [] })
      ∷ [])
      ∷ [];
}

pub its_translation_is_read : input (head ++ made ++ codes "atomic 0x400 0 crtc0.ACTIVE=1 crtc0.MODE_ID=@m conn0.CRTC_ID=crtc0 plane0.FB_ID=@f plane0.CRTC_ID=crtc0 plane0.CRTC_X=0 plane0.CRTC_Y=0 plane0.CRTC_W=1 plane0.CRTC_H=1 plane0.SRC_X=0 plane0.SRC_Y=0 plane0.SRC_W=65536 plane0.SRC_H=65536\natomic 0x201 7 plane0.FB_ID=@f\n") ≡ Ok new_script
unfolding on_legacy
its_translation_is_read = refl

-- the first flip leaves no line
pub its_lines_are_translated : AreTranslated names names device (start device) old_script.commands (lone_commands new_script.clients)
unfolding on_legacy
its_lines_are_translated = (refl, (refl, (refl, (tt, (refl, (refl, refl))))))

-- the one client is the first, and owns what is made
pub lines_are_those_of_client_1 : map (λ thing. thing.owner)
    (after_line device (start device) (Some (command.Fence 0)) (command.Fence 0 ∷ [])).world.things
    ≡ 1 ∷ []
unfolding on_legacy
lines_are_those_of_client_1 = refl

-- a line too many, and a line too few, are no translation
pub line_too_many_is_none : AreTranslated [] [] device (start device) [] (command.Wait ∷ []) → ⊥
line_too_many_is_none is = absurd cc

pub line_too_few_is_none : AreTranslated [] [] device (start device) (Plain command.Wait ∷ []) [] → ⊥
unfolding on_legacy
line_too_few_is_none is = is.0

abbrev executed : World → List Command → World
executed w [] = w
executed w (c ∷ cs) = executed (execute device w 1 c).world cs

pub flip_of_a_dark_crtc_is_refused : translated names names device (executed (start device) making) flips ≡ Err NOT_SHOWN.0
unfolding on_legacy
flip_of_a_dark_crtc_is_refused = refl

-- the device shows the pixel twice
pub its_translation_shows_the_pixel_twice : report_of_script plain new_script
    ≡ codes "J 1 1\nJ 1 2\nJ 1 3\nJ 1 4\nJ 1 5\nR 1 1 0 made 1000\nR 1 2 1 made 1001\nR 1 3 2 made 1002\nR 1 4 3 commit 0\nR 1 5 4 commit 1\nL 0 0 1 ba7816bf8f01cfea414140de5dae2223b00361a396177a9cb410ff61f20015ad\nL 0 1 2 ba7816bf8f01cfea414140de5dae2223b00361a396177a9cb410ff61f20015ad\nD drained\n"
unfolding on_machines
its_translation_shows_the_pixel_twice = refl

-- the mode of a `setcrtc`, where a command has made its label
abbrev mode_after : Command → Option Mode
mode_after c = mode_of_call (look_up (executed (start device) (c ∷ []))) lights

-- a blob may hold it; a mode that is not legal is none
pub mode_that_is_not_legal_is_none :
    map mode_after (
    command.Mode 2 named_tiny
    ∷ command.Blob 2 (mode_bytes named_tiny)
    ∷ command.Mode 2 (record named_tiny { clock = 0 })
    ∷ [])
    ≡ Some named_tiny ∷ Some named_tiny ∷ None ∷ []
unfolding on_legacy on_machines
mode_that_is_not_legal_is_none = refl
