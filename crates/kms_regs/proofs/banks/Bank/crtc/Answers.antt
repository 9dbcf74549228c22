use Rattle.std.proofs.Common.{rules}
use Rattle.kms_regs.proofs.BankLemmas.{crtc_of_bank}
use Rattle.kms_regs.proofs.banks.Bank.crtc.Goals as goal

pub returns : goal.returns
returns c = crtc_of_bank c.self.inside.planes c.self.inside.crtcs c.args.index _ c.self.view_is (search rules)
