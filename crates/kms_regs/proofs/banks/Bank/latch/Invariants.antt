use Rattle.kms_regs.proofs.BankLemmas.{IsLatched}
use Rattle.kms_regs.proofs.banks.Bank.latch.Given as goal

-- the planes so far are latched
abbrev pub invariant-loop-plane : goal.invariant-loop-plane
invariant-loop-plane l = IsLatched l.shadow l.initial.self l.self l.crtc l.plane
