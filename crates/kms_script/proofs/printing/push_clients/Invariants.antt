-- The lines of the clients so far were added.
use Rattle.std.proofs.Common.{◌≡◌, ◌++◌, take}
use Rattle.std.specs.List.{flat_map}
use Rattle.kms_model.specs.Script.Spelling.{client_lines, text_of}
use Rattle.kms_script.proofs.printing.push_clients.Given as goal

abbrev pub invariant-loop-commands : goal.invariant-loop-commands
invariant-loop-commands l =
    l.text.items ≡ l.initial.text.items ++ flat_map (λ commands. text_of (client_lines l.names commands)) (take l.commands-index l.clients)
