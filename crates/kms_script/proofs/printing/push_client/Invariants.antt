-- The lines of the commands so far were added.
use Rattle.std.proofs.Common.{◌≡◌, ◌++◌, take}
use Rattle.std.specs.List.{flat_map}
use Rattle.kms_model.specs.Report.TextLines.{line}
use Rattle.kms_model.specs.Script.Spelling.{command_words}
use Rattle.kms_script.proofs.printing.push_client.Given as goal

abbrev pub invariant-loop-command : goal.invariant-loop-command
invariant-loop-command l =
    l.text.items ≡ l.initial.text.items ++ flat_map (λ c. line (command_words l.names c)) (take l.command-index l.commands)
