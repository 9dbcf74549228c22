use Rattle.std.proofs.Common.{◌≡◌, ◌+◌, ◌++◌, length, take, drop}
use Rattle.kms_model.specs.Script.Words.{until, from}
use Rattle.kms_words.proofs.words.split_at_byte.Given as goal

abbrev pub invariant-seeking : goal.invariant-seeking
invariant-seeking l = record {
  count : l.count + length l.rest ≡ length l.bytes;
  rest : l.rest ≡ drop l.count l.bytes;
  front : until l.separator l.bytes ≡ take l.count l.bytes ++ until l.separator l.rest;
  back : from l.separator l.bytes ≡ from l.separator l.rest;
}

abbrev pub decreases-seeking : goal.decreases-seeking
decreases-seeking l = length l.rest
