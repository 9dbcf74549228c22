use Rattle.std.proofs.Common.{ap, rules, ◌∙◌}
use Rattle.kms_model.specs.Machine.Registers.{PlaneWords}
use Rattle.kms_regs.specs.Rewritten.{rewritten_plane}
use Rattle.kms_regs.proofs.BankLemmas.{plane_of_bank, plane_set}
use Rattle.kms_regs.proofs.banks.Bank.write_plane.Goals as goal

pub returns : goal.returns
returns c =
    plane_set c.self.inside.planes c.self.inside.crtcs c.args.index c.self.view_is (search rules)
    (c.write.ensures ∙ ap (λ (w : PlaneWords). rewritten_plane w c.args.old.now c.args.new.now)
    (plane_of_bank c.self.inside.planes c.self.inside.crtcs c.args.index _ c.self.view_is (search rules)))
