-- Images of framebuffers that are kept, and the things of a machine.
use Rattle.std.specs.Prelude.{◌≡◌, ℕ, List, Some}
use Rattle.kms_model.specs.declared.worlds.Thing.{Thing}
use Rattle.kms_compose.specs.Images.{CanShow, seen_under}
use Rattle.kms_compose.specs.declared.images.FbImage.{FbImage}
use Rattle.kms_core.specs.Run.{Run, machine}
use Rattle.kms_model.specs.Things.Kept.{Seen}
use Rattle.kms_kept_frames.specs.declared.screen.Screen.{Screen}

-- the things that there are after the history
abbrev pub things_of : Run → List Thing
things_of r = (machine r).device.world.things

-- what is read of a framebuffer is still read of it
abbrev pub KeepsImages : List FbImage → List FbImage → Type 0
KeepsImages old new = (fb : ℕ) (s : Seen) → seen_under old fb ≡ Some s → seen_under new fb ≡ Some s

-- both pictures that are kept can be shown over some images
pub record ShowsKept (images : List FbImage) (s : Screen) : Type 0 where
  pub one : CanShow images s.first.drawn.picture
  pub other : CanShow images s.second.drawn.picture
