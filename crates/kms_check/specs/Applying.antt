-- Several sets, one after the other.
use Rattle.std.specs.Prelude.{◌≡◌, ◌<◌, ℕ, ℤ, List, [], ◌∷◌, All, IsTrue, Some, slice_get}
use Rattle.kms_model.specs.declared.objects.Topology.{Topology}
use Rattle.kms_model.specs.declared.sets.Set.{Set}
use Rattle.kms_model.specs.declared.states.Both.{Both}
use Rattle.kms_model.specs.declared.states.Duplicates.{Duplicates}
use Rattle.kms_model.specs.declared.states.PlaneState.{PlaneState}
use Rattle.kms_model.specs.declared.worlds.Setting.{Setting}
use Rattle.kms_model.specs.declared.worlds.Thing.{Thing}
use Rattle.kms_model.specs.Request.Agreement.{AgreesNew, StandsFor}
use Rattle.kms_model.specs.Request.SetRanges.{may_set}
use Rattle.kms_model.specs.Request.Sets.{set_in}
use Rattle.kms_model.specs.Device.Sound.{IsPlaneInRange}
use Rattle.kms_state.specs.Changes.{HasObject}
use Rattle.kms_model.specs.Device.Objects.{kind_of}
use Rattle.kms_state.specs.Places.{is_duplicated}

-- the values after several sets, each to the number that a function gives for it
abbrev pub set_all : List Setting → (Set → ℤ) → List Set → List Setting
set_all values number [] = values
set_all values number (s ∷ sets) = set_all (set_in values s (number s)) number sets

-- a set can be applied to duplicates: its object is duplicated, and the property may be set to the value
pub record IsApplicable (d : Duplicates) (s : Set) : Type 0 where
  pub object : IsTrue (is_duplicated d s.object.0)
  pub value : IsTrue (may_set (kind_of s.object.0) s.prop s.value)

-- a set's object is on a device, and its value stands for the number that is given for it
pub record IsNumberedBy (t : Topology) (things : List Thing) (number : Set → ℤ) (s : Set) : Type 0 where
  pub object : HasObject t s.object.0
  pub number_is : StandsFor things s.value (number s)

-- New states that agree with values before several sets agree after them with the values after them.
abbrev pub SetsAll : Duplicates → List Set → Duplicates → Type 0
SetsAll before sets after =
    (t : Topology) (things : List Thing) (values : List Setting) (number : Set → ℤ)
    → All (IsNumberedBy t things number) sets → AgreesNew t things values before
    → AgreesNew t things (set_all values number sets) after

-- the numbers of the new states of those of the first n planes that are duplicated are among those of their properties
abbrev pub HasPlanesInRange : ℕ → Duplicates → Type 0
HasPlanesInRange n d =
    (index : ℕ) (both : Both PlaneState) → index < n → slice_get d.planes index ≡ Some (Some both)
    → IsPlaneInRange both.new
