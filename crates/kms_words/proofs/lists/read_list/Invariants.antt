use Rattle.std.proofs.Common.{◌≡◌, ◌≤◌, ◌<◌, ◌^◌, length}
use Rattle.kms_model.specs.Script.Grammar.{parted, rising}
use Rattle.kms_words.specs.Listed.{bit_of, bit_count}
use Rattle.kms_words.proofs.Parts.{with_bits}
use Rattle.kms_words.proofs.lists.read_list.Given as goal

abbrev pub invariant-parts : goal.invariant-parts
invariant-parts l = record {
  read : with_bits l.mask (rising (bit_of l.listed) l.low (parted 44 l.rest)) ≡ rising (bit_of l.listed) 0 (parted 44 l.word);
  mask : l.mask < 2 ^ l.low;
  low : l.low ≤ 4;
  below : l.low ≤ bit_count l.listed;
}

abbrev pub decreases-parts : goal.decreases-parts
decreases-parts l = length l.rest
