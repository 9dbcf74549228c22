use Rattle.std.proofs.Common.{◌≡◌, length}
use Rattle.kms_model.specs.Script.Words.{strip}
use Rattle.kms_words.proofs.words.strip.Given as goal

abbrev pub invariant-matching : goal.invariant-matching
invariant-matching l = strip l.left l.rest ≡ strip l.front l.bytes

abbrev pub decreases-matching : goal.decreases-matching
decreases-matching l = length l.left
