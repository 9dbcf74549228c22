-- What a proof unfolds to compute what a script with older calls spells, what it is translated to and what it shows.
use Rattle.std.specs.Prelude.{⊤}
use Rattle.kms_model.specs.Legacy.LegacyCalls.{index_at, named_at, ranged_at, rect_at, corner_at, setcrtc_fields, setcrtc_read}
use Rattle.kms_model.specs.Legacy.LegacyCalls.{setplane_fields, setplane_read, pageflip_read, cursor_fields, cursor_read, call_read}
use Rattle.kms_model.specs.Legacy.LegacyCalls.{legacy_command_read}
use Rattle.kms_model.specs.Legacy.LegacyLines.{legacy_command_line, legacy_line, legacy_line_after, legacy_lines_after, legacy_input}
use Rattle.kms_model.specs.Legacy.Screen.{screen_after, screen_picture, screen_next}
use Rattle.kms_model.specs.Legacy.Translated.{translated, meant}
use Rattle.kms_model.specs.Legacy.Translation.{special_planes, call_request}
use Rattle.kms_model.specs.Machine.Registers.{read}
use Rattle.kms_model.proofs.OnLiterals.{on_literals}
use Rattle.kms_model.proofs.OnScripts.{on_scripts}

-- the words of scripts with older calls
unfoldable pub on_legacy : ⊤
unfolding on_literals on_scripts index_at named_at ranged_at rect_at corner_at setcrtc_fields setcrtc_read setplane_fields setplane_read
    pageflip_read cursor_fields cursor_read call_read legacy_command_read legacy_command_line legacy_line legacy_line_after
    legacy_lines_after legacy_input special_planes call_request translated meant read screen_after screen_picture screen_next
on_legacy = tt
