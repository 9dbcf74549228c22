-- Each command is written as it was read, and the names before it are a front of a script's.
use Rattle.std.proofs.Common.{[], ◌≡◌, ℕ, List, ◌∷◌, ◌++◌, append_assoc, Some, sym, ap, ◌∙◌}
use Rattle.kms_model.specs.declared.scripts.Command.{Command}
use Rattle.kms_model.specs.Script.CommandLines.{Names, command_read}
use Rattle.kms_model.specs.Report.TextLines.{line}
use Rattle.kms_model.specs.Script.Words.{from, until}
use Rattle.kms_model.specs.Script.Spelling.{command_words}
use Rattle.kms_script.proofs.FitCommands.{Reads, command_reads}
use Rattle.kms_script.proofs.LineFields.{fields_end, fields_to, line_fields, until_from}
use Rattle.kms_script.proofs.NamesBegin.{Begins}

-- a first word and its fields as a line
line_of : (k bytes text : List ℕ) (words : List (List ℕ)) → fields_to words [] ≡ bytes → k ++ bytes ≡ text
    → line (k ∷ words) ≡ text ++ 10 ∷ []
line_of k bytes text words fields whole =
    line_fields k words
    ∙ ap (λ (bs : List ℕ). k ++ bs) (sym (fields_end words [] (10 ∷ [])) ∙ ap (λ (bs : List ℕ). bs ++ 10 ∷ []) fields)
    ∙ sym (append_assoc k bytes (10 ∷ []))
    ∙ ap (λ (bs : List ℕ). bs ++ 10 ∷ []) whole

-- a command's line is written as it was read
pub command_spelt : (all : List (List ℕ)) (before after : Names) (text : List ℕ) (c : Command) → command_read before text ≡ Some (c, after)
    → Begins after all → line (command_words all c) ≡ text ++ 10 ∷ []
command_spelt all before after text c e b =
    let r : Reads all before (until 32 text) (from 32 text) c = command_reads all before text (c, after) e b in
    rw r.known (line_of (until 32 text) (from 32 text) text r.words r.taken.spelt (until_from 32 text))

-- names before a command's line are a front of a script's where those after it are
pub names_begin : (all : List (List ℕ)) (before after : Names) (text : List ℕ) (c : Command) → command_read before text ≡ Some (c, after)
    → Begins after all → Begins before all
names_begin all before after text c e b = let r : Reads all before (until 32 text) (from 32 text) c =
    command_reads all before text (c, after) e b in r.begins
