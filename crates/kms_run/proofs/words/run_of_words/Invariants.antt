use Rattle.std.proofs.Common.{◌≡◌, drop, map}
use Rattle.std.specs.Prelude.{string_bytes}
use Rattle.kms_run.specs.Words.{IsFewCount, no_words, run_after}
use Rattle.kms_run.proofs.words.run_of_words.Given as goal

abbrev pub invariant-loop-word : goal.invariant-loop-word
invariant-loop-word l = record {
  value : run_after l.told (map string_bytes (drop l.word-index l.words)) ≡ run_after no_words (map string_bytes l.words);
  few : IsFewCount l.told.threads;
}
