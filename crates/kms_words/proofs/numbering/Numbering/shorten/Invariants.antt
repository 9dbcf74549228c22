use Rattle.std.proofs.Common.{◌≡◌, ◌≤◌, length, take}
use Rattle.kms_words.proofs.numbering.Numbering.shorten.Given as goal

abbrev pub invariant-dropping : goal.invariant-dropping
invariant-dropping l = record {
  front : l.self ≡ take (length l.self) l.fn.self;
  enough : l.count ≤ length l.self;
}

abbrev pub decreases-dropping : goal.decreases-dropping
decreases-dropping l = length l.self
