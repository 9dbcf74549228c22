use Rattle.kms_regs.proofs.RewrittenWords.{AreWritten}
use Rattle.kms_regs.proofs.words.write_words.Given as goal

-- the words so far are written
abbrev pub invariant-loop-i : goal.invariant-loop-i
invariant-loop-i l = AreWritten l.fn.words l.old l.new l.words l.i
