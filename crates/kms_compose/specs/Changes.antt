-- Layers that differ between two pictures.
use Rattle.std.specs.Prelude.{◌≡◌, ℕ, Bool, false, ◌||◌, List, [], ◌∷◌, Option, All}
use Rattle.kms_model.specs.declared.objects.Mode.{Mode}
use Rattle.kms_model.specs.declared.pictures.Colour.{Colour}
use Rattle.kms_model.specs.declared.pictures.Layer.{Layer}
use Rattle.kms_model.specs.Frames.FrameBytes.{composed, is_covered}
use Rattle.kms_model.specs.Frames.Images.{FitsMode}

-- one of some layers covers a pixel
abbrev pub covered_by : List Layer → ℕ → ℕ → Bool
covered_by [] x y = false
covered_by (l ∷ ls) x y = is_covered l.visible x y || covered_by ls x y

-- where none of some layers covers a pixel, two lists of layers have the same colour there
abbrev pub AgreeBeside : List Layer → List Layer → List Layer → Type 0
AgreeBeside changed old new =
    (words : ℕ → ℕ → ℕ → Option ℕ) (x y : ℕ) (under : Colour) → covered_by changed x y ≡ false
    → composed words x y under old ≡ composed words x y under new

-- some layers are those of a list with more listed: they cover what both cover, and can be shown where both can
pub record Lists (old more new : List Layer) : Type 0 where
  pub covers : (x y : ℕ) → covered_by new x y ≡ (covered_by old x y || covered_by more x y)
  pub fit : (m : Mode) → All (FitsMode m) old → All (FitsMode m) more → All (FitsMode m) new

-- two lists of layers differ in some alone: where none of them covers, both have the same colour
pub record DifferIn (changed old new : List Layer) : Type 0 where
  pub agree : AgreeBeside changed old new
  pub fit : (m : Mode) → All (FitsMode m) old → All (FitsMode m) new → All (FitsMode m) changed

-- two modes have one size
pub record IsSameSize (old new : Mode) : Type 0 where
  pub width : old.hdisplay ≡ new.hdisplay
  pub height : old.vdisplay ≡ new.vdisplay
