use Rattle.std.proofs.Common.{◌≡◌, drop, map}
use Rattle.std.specs.Prelude.{string_bytes}
use Rattle.kms_run.specs.Words.{no_options, options_after}
use Rattle.kms_run.proofs.words.options_of.Given as goal

abbrev pub invariant-loop-word : goal.invariant-loop-word
invariant-loop-word l =
    options_after l.options (map string_bytes (drop l.word-index l.words)) ≡ options_after no_options (map string_bytes l.words)
