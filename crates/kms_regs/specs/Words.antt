-- Registers that have a row for each index, and when registers have the same words.
use Rattle.std.specs.Prelude.{◌≡◌, ℕ, List, if◌then◌else◌}
use Rattle.kms_model.specs.Device.Objects.{object_id}
use Rattle.kms_model.specs.declared.objects.Kind.TheVariants.{Crtc, Plane}
use Rattle.kms_model.specs.Machine.Registers.{CrtcWords, PlaneWords, Registers, crtc_register, is_copied, plane_register, write_plane}
use Rattle.kms_model.specs.Request.Checks.{with_ids}

-- the registers with these words, by index
abbrev pub bank_of : List PlaneWords → List CrtcWords → Registers
bank_of planes crtcs = record { planes = with_ids (object_id Plane 0) planes; crtcs = with_ids (object_id Crtc 0) crtcs }

-- the words of each plane and of each CRTC are the same, in whatever order they stand
pub record ReadSame (a b : Registers) : Type 0 where
  pub planes : (index : ℕ) → plane_register a (object_id Plane index) ≡ plane_register b (object_id Plane index)
  pub crtcs : (index : ℕ) → crtc_register a (object_id Crtc index) ≡ crtc_register b (object_id Crtc index)

-- the live words after a latch at a CRTC has looked at one plane
abbrev pub latched_plane : Registers → Registers → ℕ → ℕ → Registers
latched_plane shadow live crtc plane =
    if is_copied shadow live crtc plane then write_plane live plane (plane_register shadow plane) else live
