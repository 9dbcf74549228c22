use Rattle.std.proofs.Common.{sym, ◌∙◌}
use Rattle.kms_regs.proofs.FileLemmas.{opened}
use Rattle.kms_regs.proofs.SameWords.{same_decoded}
use Rattle.kms_regs.proofs.file.RegFile.decode_live.Goals as goal

pub returns : goal.returns
returns c = λ t d stands.
    (let held = opened t d c.self.view_is stands in
    c.decoded_picture.ensures t held.planes ∙ sym (same_decoded t d.live c.self.inside.live c.args.crtc held.live_words))
