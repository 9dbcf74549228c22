use Rattle.std.proofs.Common.{ap, rules, ◌∙◌}
use Rattle.kms_model.specs.Machine.Registers.{CrtcWords}
use Rattle.kms_regs.specs.Rewritten.{rewritten_crtc}
use Rattle.kms_regs.proofs.BankLemmas.{crtc_of_bank, crtc_set}
use Rattle.kms_regs.proofs.banks.Bank.write_crtc.Goals as goal

pub returns : goal.returns
returns c =
    crtc_set c.self.inside.planes c.self.inside.crtcs c.args.index c.self.view_is (search rules)
    (c.write.ensures ∙ ap (λ (w : CrtcWords). rewritten_crtc w c.args.old.now c.args.new.now)
    (crtc_of_bank c.self.inside.planes c.self.inside.crtcs c.args.index _ c.self.view_is (search rules)))
