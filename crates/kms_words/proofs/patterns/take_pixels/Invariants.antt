use Rattle.std.proofs.Common.{◌≡◌, ◌-◌, length}
use Rattle.kms_model.specs.Script.CommandLines.{pixels_at}
use Rattle.kms_words.proofs.Loops.{joined}
use Rattle.kms_words.proofs.patterns.take_pixels.Given as goal

abbrev pub invariant-reading : goal.invariant-reading
invariant-reading l = record {
  read : joined l.words (pixels_at l.format (l.count - l.counter) l.rest) ≡ pixels_at l.format l.count l.bytes;
  all : length l.words ≡ l.counter;
}
