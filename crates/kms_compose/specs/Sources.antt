-- Where the pixels of a destination lie in the source, along one axis. From: "Plane Composition Properties".
use Rattle.std.specs.Prelude.{◌≡◌, ◌<◌, ℕ, ◌+◌, ◌*◌, Bool, true, ◌==◌, pos, ◌+ℤ◌, ◌≤ℤ◌, ◌<ℤ◌}
use Rattle.kms_model.specs.Device.Sound.{IsBetween}
use Rattle.kms_model.specs.Device.States.{natural}
use Rattle.kms_model.specs.Frames.FrameBytes.{source_at}
use Rattle.kms_model.specs.Frames.Rectangles.{is_scaled_little}
use Rattle.kms_compose.specs.declared.sources.Reach.{Reach}

-- its sizes are in the ranges of their properties, neither is more than four times the other, and the source begins and
-- ends within a framebuffer
pub record IsReach (r : Reach) : Type 0 where
  pub src : pos 0 ≤ℤ r.src
  pub long : IsBetween (pos 0) (pos 4294967295) r.long
  pub wide : IsBetween (pos 0) (pos 2147483647) r.wide
  pub little : is_scaled_little r.long r.wide ≡ true
  pub ends : (r.src +ℤ r.long) ≤ℤ pos 281474976645120

-- along one axis, the source has one pixel for each pixel of its destination
abbrev pub is_axis_unscaled : Reach → Bool
is_axis_unscaled r = natural r.long == 65536 * natural r.wide

-- the pixel of the framebuffer that a pixel of the mode shows
abbrev pub source_place : Reach → ℕ → ℕ
source_place r at = source_at r.src r.long r.dst r.wide at

-- the pixels of the mode from a place on, so many, are some of the destination
pub record IsSeen (r : Reach) (start size : ℕ) : Type 0 where
  pub reach : IsReach r
  pub from : r.dst ≤ℤ pos start
  pub to : pos (start + size) ≤ℤ (r.dst +ℤ r.wide)
  pub few : start + size < 65536

-- a pixel of the mode is one of the destination
pub record IsSeenAt (r : Reach) (at : ℕ) : Type 0 where
  pub reach : IsReach r
  pub from : r.dst ≤ℤ pos at
  pub below : pos at <ℤ (r.dst +ℤ r.wide)
  pub few : at < 65536
