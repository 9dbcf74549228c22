use Rattle.kms_regs.proofs.BankLemmas.{AreFirst}
use Rattle.kms_regs.proofs.banks.Bank.first.Given as goal

-- the planes so far have their first words
abbrev pub invariant-loop-index : goal.invariant-loop-index
invariant-loop-index l = AreFirst l.planes l.index
