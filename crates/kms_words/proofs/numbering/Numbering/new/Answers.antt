use Rattle.kms_words.proofs.WordsNumbered.{none_numbered}
use Rattle.kms_words.proofs.numbering.Numbering.new.Goals as goal

pub invariant_of-result : goal.invariant_of-result
invariant_of-result c = rw (c.new.ensures.items, c.new-2.ensures.empty) none_numbered
