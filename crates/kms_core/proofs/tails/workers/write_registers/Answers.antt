use Rattle.std.proofs.Common.{◌∙◌, None, subst, sym, ℕ}
use Rattle.std.specs.Prelude.{slice_index_or}
use Rattle.kms_model.specs.declared.objects.Kind.{Kind}
use Rattle.kms_model.specs.Device.Objects.{index_of}
use Rattle.kms_core.specs.Work.{IsCrtcWritten, IsPlaneWritten, IsWritten}
use Rattle.kms_core.proofs.tails.workers.write_registers.Goals as goal

pub returns-in-Crtc : goal.returns-in-Crtc
returns-in-Crtc c =
    subst (λ (kind : Kind). IsWritten c.args.registers.now c.write_crtc.new.registers c.args.tail.now kind (index_of c.args.id.0))
    (sym c.in-Crtc.is ∙ c.kind.ensures)
    (subst (λ (n : ℕ). IsCrtcWritten c.args.registers.now c.write_crtc.new.registers n
    (slice_index_or c.args.tail.now.checked.states.crtcs n None)) c.index.ensures c.write_crtc.ensures)

pub returns-in-Plane : goal.returns-in-Plane
returns-in-Plane c =
    subst (λ (kind : Kind). IsWritten c.args.registers.now c.write_plane.new.registers c.args.tail.now kind (index_of c.args.id.0))
    (sym c.in-Plane.is ∙ c.kind.ensures)
    (subst (λ (n : ℕ). IsPlaneWritten c.args.registers.now c.write_plane.new.registers n
    (slice_index_or c.args.tail.now.checked.states.planes n None)) c.index-in-Plane.ensures c.write_plane.ensures)
