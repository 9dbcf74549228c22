use Rattle.std.proofs.Common.{sym, ap, ◌∙◌, ◌==◌}
use Rattle.std.specs.Prelude.{not}
use Rattle.kms_model.specs.Machine.Registers.{CrtcWords}
use Rattle.kms_regs.proofs.FileLemmas.{opened}
use Rattle.kms_regs.proofs.file.RegFile.is_on.Goals as goal

pub returns : goal.returns
returns c = λ t d stands.
    (let held = opened t d c.self.view_is stands in
    ap (λ (w : CrtcWords). not (w.active == 0)) (c.behind-self.view_is ∙ c.crtc.ensures ∙ sym (held.live_words.crtcs c.args.crtc)))
