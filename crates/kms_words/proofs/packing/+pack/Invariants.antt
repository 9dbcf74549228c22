use Rattle.std.proofs.Common.{length}
use Rattle.kms_words.proofs.packing.+pack.Given as goal

abbrev pub decreases-pack : goal.decreases-pack
decreases-pack l = length l.word.now
