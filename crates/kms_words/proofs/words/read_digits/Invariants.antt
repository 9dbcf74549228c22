use Rattle.std.proofs.Common.{◌≡◌, ◌+◌, ◌^◌, ◌*◌, ◌≤◌, length}
use Rattle.std.specs.List.{list_all}
use Rattle.kms_model.specs.Script.Words.{hex_from, is_hex}
use Rattle.kms_words.proofs.words.read_digits.Given as goal

abbrev pub invariant-reading : goal.invariant-reading
invariant-reading l = record {
  number : hex_from l.number l.rest ≡ hex_from 0 l.word;
  digits : list_all is_hex l.word ≡ list_all is_hex l.rest;
  small : (l.number + 1) * 16 ^ length l.rest ≤ 2 ^ 32;
}

abbrev pub decreases-reading : goal.decreases-reading
decreases-reading l = length l.rest
