use Rattle.kms_regs.proofs.FileLemmas.{opened, rewrote_plane, writes_plane}
use Rattle.kms_regs.proofs.file.RegFile.write_plane.Goals as goal

pub returns-clause-rewrites : goal.returns-clause-rewrites
returns-clause-rewrites c = λ t d stands.
    rewrote_plane t d c.self.inside.planes c.self.inside.shadow c.self.inside.live c.self.inside.go c.self.inside.counts c.args.index
    (opened t d c.self.view_is stands) c.of.ensures c.of-2.ensures c.write_plane.ensures

pub returns-clause-writes : goal.returns-clause-writes
returns-clause-writes c = λ is. writes_plane c.args.self.now _ c.args.index c.args.old.now c.args.new.now (returns-clause-rewrites c) is
