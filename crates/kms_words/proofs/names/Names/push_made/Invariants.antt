use Rattle.std.proofs.Common.{◌≡◌, ◌++◌, take}
use Rattle.kms_words.specs.Named.{is_in_numbers, marked_names}
use Rattle.kms_words.specs.Packed.{made_words, packed_all}
use Rattle.kms_words.proofs.names.Names.push_made.Given as goal

abbrev pub invariant-loop-word : goal.invariant-loop-word
invariant-loop-word l = record {
  number : l.number ≡ l.word-index;
  items : l.numbers.items ≡ l.fn.numbers.items ++ packed_all
      (made_words (marked_names (is_in_numbers l.self-inside.made.keys) 0 (take l.word-index l.words)));
}
