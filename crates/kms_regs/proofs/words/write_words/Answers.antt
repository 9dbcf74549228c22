use Rattle.std.proofs.Common.{arith, refl, sym}
use Rattle.kms_regs.proofs.RewrittenWords.{written_all, written_next}
use Rattle.kms_regs.proofs.words.write_words.Goals as goal

pub loop-i-init : goal.loop-i-init
loop-i-init c = record { long = refl; below = λ p low. absurd (omega (arith, low)); behind = λ p from. refl }

pub loop-i-preserved : goal.loop-i-preserved
loop-i-preserved c =
    written_next c.loop-i.invariant
    (omega (arith, c.loop-i.invariant.long)) c.write.ensures

pub returns : goal.returns
returns c =
    written_all c.loop-i.invariant (omega arith)
    (sym c.requires.old) (sym c.requires.new)
