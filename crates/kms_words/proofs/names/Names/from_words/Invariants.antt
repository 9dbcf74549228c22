use Rattle.std.proofs.Common.{◌≡◌, take}
use Rattle.kms_model.specs.Script.CommandLines.{unmade}
use Rattle.kms_words.proofs.names.Names.from_words.Given as goal

abbrev pub invariant-loop-word : goal.invariant-loop-word
invariant-loop-word l = l.names.names ≡ unmade l.profile (take l.word-index l.words)
