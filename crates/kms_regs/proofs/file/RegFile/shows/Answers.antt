use Rattle.std.proofs.Common.{ap, sym, ◌∙◌}
use Rattle.kms_model.specs.Machine.Framebuffers.{picture_names}
use Rattle.kms_regs.proofs.FileLemmas.{opened}
use Rattle.kms_regs.proofs.SameWords.{same_decoded}
use Rattle.kms_regs.proofs.file.RegFile.shows.Goals as goal

pub returns : goal.returns
returns c = λ t d stands.
    (let held = opened t d c.self.view_is stands in
    c.is_shown.ensures t held.planes ∙ sym (ap (picture_names c.args.fb)
    (same_decoded t d.live c.self.inside.live c.args.crtc held.live_words)))
