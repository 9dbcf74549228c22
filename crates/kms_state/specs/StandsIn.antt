-- Duplicates that stand for a device's values.
use Rattle.std.specs.Prelude.{◌≡◌, ℕ, List}
use Rattle.kms_model.specs.declared.objects.Topology.{Topology}
use Rattle.kms_model.specs.declared.states.Duplicates.{Duplicates}
use Rattle.kms_model.specs.declared.states.ObjState.{ObjState}
use Rattle.kms_model.specs.declared.states.ObjState.TheVariants as state
use Rattle.kms_model.specs.declared.worlds.Setting.{Setting}
use Rattle.kms_model.specs.declared.worlds.Thing.{Thing}
use Rattle.kms_model.specs.Device.States.{plane_at}
use Rattle.kms_model.specs.Request.Agreement.{AgreesNew, AgreesOld, conn_state_at, crtc_state_at}

-- a state is that of an object in a device's values
abbrev pub IsStateOf : Topology → List Thing → List Setting → ℕ → ObjState → Type 0
IsStateOf t things values id (state.Crtc s) = s ≡ crtc_state_at t things values id
IsStateOf t things values id (state.Plane s) = s ≡ plane_at things values id
IsStateOf t things values id (state.Conn s) = s ≡ conn_state_at values id

-- all duplicated states, old and new, are those of a device's values
pub record Agrees (t : Topology) (things : List Thing) (values : List Setting) (d : Duplicates) : Type 0 where
  pub old : AgreesOld t things values d
  pub new : AgreesNew t things values d

-- New states that agree with values agree after an object's state of these values is duplicated.
abbrev pub KeepsNew : Duplicates → ℕ → ObjState → Duplicates → Type 0
KeepsNew before id s after =
    (t : Topology) (things : List Thing) (values : List Setting) → IsStateOf t things values id s
    → AgreesNew t things values before → AgreesNew t things values after

-- The same of old states.
abbrev pub KeepsOld : Duplicates → ℕ → ObjState → Duplicates → Type 0
KeepsOld before id s after =
    (t : Topology) (things : List Thing) (values : List Setting) → IsStateOf t things values id s
    → AgreesOld t things values before → AgreesOld t things values after
