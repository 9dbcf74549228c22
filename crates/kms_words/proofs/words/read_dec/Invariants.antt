use Rattle.std.proofs.Common.{◌≡◌, ◌≤◌, length}
use Rattle.std.specs.List.{list_all}
use Rattle.kms_model.specs.Script.Words.{number_from, is_digit}
use Rattle.kms_words.proofs.words.read_dec.Given as goal

abbrev pub invariant-reading : goal.invariant-reading
invariant-reading l = record {
  number : number_from l.number l.rest ≡ number_from 0 l.word;
  digits : list_all is_digit l.word ≡ list_all is_digit l.rest;
  most : l.number ≤ l.most;
}

abbrev pub decreases-reading : goal.decreases-reading
decreases-reading l = length l.rest
