use Rattle.std.proofs.Common.{sym, ◌∙◌}
use Rattle.kms_regs.proofs.FileLemmas.{own_go}
use Rattle.kms_regs.proofs.file.RegFile.has_go.Goals as goal

pub returns-clause-own : goal.returns-clause-own
returns-clause-own c = own_go c.self.inside.planes c.self.inside.shadow c.self.inside.live c.self.inside.go c.self.inside.counts c.args.crtc
    c.self.view_is

pub returns-clause-device : goal.returns-clause-device
returns-clause-device c = λ t d stands. own_go c.self.inside.planes c.self.inside.shadow c.self.inside.live c.self.inside.go
    c.self.inside.counts c.args.crtc c.self.view_is ∙ sym (stands.goes c.args.crtc)
