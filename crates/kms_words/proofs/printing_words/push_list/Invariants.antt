-- The words of the bits so far were added; a comma comes next where there was one.
use Rattle.std.proofs.Common.{◌≡◌, ◌++◌}
use Rattle.kms_words.specs.Printed.{item_word}
use Rattle.kms_model.specs.Script.Spelling.{list_word}
use Rattle.kms_words.proofs.Listing.{bits_below, comma_behind}
use Rattle.kms_words.proofs.printing_words.push_list.Given as goal

abbrev pub invariant-loop-bit : goal.invariant-loop-bit
invariant-loop-bit l = record {
  words : l.text.items ≡ l.initial.text.items ++ list_word (item_word l.items) l.bit l.mask;
  mark : l.separator ≡ comma_behind (bits_below l.mask l.bit);
}
