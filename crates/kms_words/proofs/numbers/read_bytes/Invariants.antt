use Rattle.std.proofs.Common.{◌≡◌, length}
use Rattle.kms_model.specs.Script.Grammar.{hex_bytes}
use Rattle.kms_words.proofs.Loops.{joined}
use Rattle.kms_words.proofs.numbers.read_bytes.Given as goal

abbrev pub invariant-reading : goal.invariant-reading
invariant-reading l = joined l.bytes (hex_bytes l.rest) ≡ hex_bytes l.word

abbrev pub decreases-reading : goal.decreases-reading
decreases-reading l = length l.rest
