use Rattle.std.proofs.Common.{◌≡◌, ◌<◌, ℕ, false}
use Rattle.kms_model.specs.declared.objects.Kind.TheVariants.{Crtc}
use Rattle.kms_model.specs.declared.objects.Topology.{Topology}
use Rattle.kms_model.specs.Device.Objects.{object_id}
use Rattle.kms_model.specs.Machine.Framebuffers.{picture_names}
use Rattle.kms_model.specs.Machine.Registers.{decoded_picture}
use Rattle.kms_model.specs.Machine.State.{DeviceState}
use Rattle.kms_regs.specs.File.{StandsForDevice}
use Rattle.kms_core.proofs.freeing.freed.live_names.Given as goal

-- those so far do not show it
abbrev pub invariant-loop-crtc : goal.invariant-loop-crtc
invariant-loop-crtc l = (t : Topology) (d : DeviceState) → t.crtcs ≡ l.crtcs → StandsForDevice t d l.registers → (i : ℕ) → i < l.crtc
    → picture_names l.id (decoded_picture t d.live (object_id Crtc i)) ≡ false
