use Rattle.std.proofs.Common.{ap, sym, ◌∙◌}
use Rattle.kms_regs.specs.Layers.{picture_layers}
use Rattle.kms_regs.proofs.FileLemmas.{opened}
use Rattle.kms_regs.proofs.SameWords.{same_decoded}
use Rattle.kms_regs.proofs.file.RegFile.live_layers.Goals as goal

pub returns : goal.returns
returns c = λ t d stands.
    (let held = opened t d c.self.view_is stands in
    c.shown_layers.ensures t held.planes ∙ sym (ap picture_layers (same_decoded t d.live c.self.inside.live c.args.crtc held.live_words)))
