-- What planes show that are not scaled, pixel by pixel. From: "Plane Composition Properties".
use Rattle.std.specs.Prelude.{◌≡◌, ℕ, ℤ, pos, ◌+ℤ◌, ◌-ℤ◌, int_div}
use Rattle.kms_model.specs.declared.states.PlaneState.{PlaneState}
use Rattle.kms_model.specs.Device.States.{natural}
use Rattle.kms_model.specs.Frames.FrameBytes.{source_at}

-- The place in the framebuffer that a pixel of the destination shows, along one axis, where each pixel of the source stands
-- at one of the destination: as far behind the source's first pixel as the pixel is behind the destination's.
abbrev pub unscaled_place : ℤ → ℤ → ℕ → ℕ
unscaled_place src dst at = natural ((int_div src (pos 65536) +ℤ pos at) -ℤ dst)

-- a plane shows at the pixel (x, y) what it shows there unscaled
pub record ShowsUnscaled (s : PlaneState) (x y : ℕ) : Type 0 where
  pub column : source_at s.src.x s.src.w s.dst.x s.dst.w x ≡ unscaled_place s.src.x s.dst.x x
  pub row : source_at s.src.y s.src.h s.dst.y s.dst.h y ≡ unscaled_place s.src.y s.dst.y y
