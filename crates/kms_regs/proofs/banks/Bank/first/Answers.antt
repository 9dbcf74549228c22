use Rattle.std.proofs.Common.{arith, rules}
use Rattle.kms_regs.proofs.BankLemmas.{first_all, first_next}
use Rattle.kms_regs.proofs.banks.Bank.first.Goals as goal

pub loop-index-init : goal.loop-index-init
loop-index-init c = record { long = search rules; first = λ i below. absurd (omega (arith, below)) }

pub loop-index-preserved : goal.loop-index-preserved
loop-index-preserved c =
    first_next c.loop-index.invariant c.loop-index-test.true c.first.ensures

pub returns : goal.returns
returns c =
    first_all c.loop-index.invariant c.loop-index-test.false c.first-2.ensures
