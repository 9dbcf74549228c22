-- The assignments so far were added.
use Rattle.std.proofs.Common.{◌≡◌, ◌++◌, ◌∷◌, take}
use Rattle.std.specs.List.{flat_map}
use Rattle.kms_model.specs.Script.Spelling.{assign_word}
use Rattle.kms_words.proofs.printing_commands.push_assigns.Given as goal

abbrev pub invariant-loop-assign : goal.invariant-loop-assign
invariant-loop-assign l = l.text.items ≡ l.initial.text.items ++ flat_map (λ a. 32 ∷ assign_word l.names a) (take l.assign-index l.assigns)
