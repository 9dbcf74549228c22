use Rattle.std.proofs.Common.{ℕ, List, ap, ◌∙◌}
use Rattle.std.specs.List.{position_or_len}
use Rattle.std.specs.Str.{bytes_eq}
use Rattle.kms_model.specs.Request.Lookups.{look_up}
use Rattle.kms_model.specs.Script.CommandLines.{words_in}
use Rattle.kms_legacy.proofs.looking.look_anew.Goals as goal

pub returns : goal.returns
returns c =
    c.look.ensures
    ∙ ap (look_up c.args.serial.now.world)
    (c.number_of.ensures ∙ ap (λ (word : List ℕ). position_or_len (bytes_eq word) (words_in c.args.names.now.names)) c.name_word.ensures)
