use Rattle.std.proofs.Common.{rules}
use Rattle.kms_regs.proofs.BankLemmas.{plane_of_bank}
use Rattle.kms_regs.proofs.banks.Bank.plane.Goals as goal

pub returns : goal.returns
returns c = plane_of_bank c.self.inside.planes c.self.inside.crtcs c.args.index _ c.self.view_is (search rules)
