use Rattle.std.proofs.Common.{ap, ◌∙◌}
use Rattle.kms_model.specs.Device.Objects.{object_id}
use Rattle.kms_model.specs.declared.objects.Kind.TheVariants.{Crtc}
use Rattle.kms_model.specs.Machine.Registers.{CrtcWords, crtc_register, crtc_words}
use Rattle.kms_regs.specs.File.{RegisterFile}
use Rattle.kms_regs.proofs.FileLemmas.{opened, rewrote_crtc, writes_crtc}
use Rattle.kms_regs.proofs.file.RegFile.write_crtc.Goals as goal

pub returns-clause-rewrites : goal.returns-clause-rewrites
returns-clause-rewrites c = λ t d stands.
    (let there = ap (λ (w : CrtcWords). w.conn) (c.behind-self.view_is ∙ c.crtc.ensures) ∙ ap
    (λ (f : RegisterFile). (crtc_register f.shadow (object_id Crtc c.args.index)).conn) c.self.view_is in
    rewrote_crtc t d c.self.inside.planes c.self.inside.shadow c.self.inside.live c.self.inside.go c.self.inside.counts c.args.index (opened
    t d c.self.view_is stands)
    (c.of-old.ensures ∙ ap (λ n. crtc_words n c.args.old.now) there) c.of.ensures c.write_crtc.ensures)

pub returns-clause-writes : goal.returns-clause-writes
returns-clause-writes c =
    λ is. writes_crtc c.args.self.now _ c.args.index _ c.args.conn c.args.old.now c.args.new.now (returns-clause-rewrites c) is
