-- What a proof unfolds to compute what a text spells.
use Rattle.std.specs.Prelude.{⊤}
use Rattle.kms_model.specs.Script.Words.{dec, is_label, field_at, dec_at, label_at, name_at}
use Rattle.kms_model.specs.Script.InputLines.{rows_of}
use Rattle.kms_model.specs.Script.Grammar.{int, hex, pixel_number, pixel_at, hex_pair, hex_bytes, format_at, crtc_list, format_list, object}
use Rattle.kms_model.specs.Script.CommandLines.{five_at, mode_fields, saying, making, solid_at, checker_at, each_pixel_at, pattern_at}
use Rattle.kms_model.specs.Script.CommandLines.{buffer_read, label_alone, addfb_read, mode_read, blob_read, making_read, naming_read}
use Rattle.kms_model.specs.Script.CommandLines.{assign_words, property_read, value_read, assign_read, atomic_read, thing_read, label_read}
use Rattle.kms_model.specs.Script.CommandLines.{command_read, line_read}
use Rattle.kms_model.specs.Script.WholeInput.{crtcs_at, plane_fields, conn_at, first_line, crtcs_line, plane_line, conn_line, client_line}
use Rattle.kms_model.specs.Script.WholeInput.{command_line, later_line, script_line, line_after, lines_after, device_after, input}

-- the words of the whole grammar
unfoldable pub on_scripts : ⊤
unfolding dec is_label field_at dec_at label_at name_at five_at mode_fields rows_of int hex pixel_number pixel_at hex_pair hex_bytes
    format_at crtc_list format_list object saying making solid_at checker_at each_pixel_at pattern_at buffer_read label_alone addfb_read
    mode_read blob_read making_read naming_read assign_words property_read value_read assign_read atomic_read thing_read label_read
    command_read line_read crtcs_at plane_fields conn_at first_line crtcs_line plane_line conn_line client_line command_line later_line
    script_line line_after lines_after device_after input
on_scripts = tt
