use Rattle.std.proofs.Common.{rules, ◌∙◌}
use Rattle.kms_regs.proofs.FileLemmas.{flushed_off, flushed_on, off_latched, opened}
use Rattle.kms_regs.proofs.file.RegFile.flush.Goals as goal

pub returns-then-crtc-ne0-clause-stands : goal.returns-then-crtc-ne0-clause-stands
returns-then-crtc-ne0-clause-stands c = λ t d k stands.
    flushed_on t d c.self.inside.planes c.self.inside.shadow c.self.inside.live c.self.inside.go c.self.inside.counts c.args.crtc k _
    (opened t d c.self.view_is stands) (search rules) (c.behind-self.view_is ∙ c.crtc.ensures) c.if-crtc-ne0.true

pub returns-clause-stands : goal.returns-clause-stands
returns-clause-stands c = λ t d k stands.
    flushed_off t d c.self.inside.planes c.self.inside.shadow c.self.inside.live c.self.inside.go c.self.inside.counts c.args.crtc k
    c.latch.new.self _ (opened t d c.self.view_is stands) c.latch.ensures (c.behind-self.view_is ∙ c.crtc.ensures)
    c.if-crtc-ne0.false

pub returns-clause-latched : goal.returns-clause-latched
returns-clause-latched c = λ t d stands.
    off_latched t d c.self.inside.planes c.self.inside.shadow c.self.inside.live c.self.inside.go c.self.inside.counts c.args.crtc _
    (opened t d c.self.view_is stands) (c.behind-self.view_is ∙ c.crtc.ensures) c.if-crtc-ne0.false
