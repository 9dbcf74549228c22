-- The present states of a device's objects, and those after a request.
use Rattle.std.specs.Prelude.{◌≡◌, ℕ, ◌<◌, true, List, length, Option, is_some}
use Rattle.kms_model.specs.Device.Places.{state_at}
use Rattle.kms_model.specs.declared.objects.Topology.{Topology}
use Rattle.kms_model.specs.declared.states.Both.{Both}
use Rattle.kms_model.specs.declared.states.Duplicates.{Duplicates}
use Rattle.kms_model.specs.declared.worlds.World.{World}
use Rattle.kms_model.specs.declared.scripts.Request.{Request}
use Rattle.kms_model.specs.Request.Agreement.{AgreesNew, AgreesOld}
use Rattle.kms_model.specs.Request.Apply.{after}

-- of the objects of a kind, the first ones are duplicated, and no other place is taken
pub record AreWhole {S : Type 0} (count : ℕ) (states : List (Option (Both S))) : Type 0 where
  pub there : (index : ℕ) → index < count → is_some (state_at states index) ≡ true
  pub only : (index : ℕ) → is_some (state_at states index) ≡ true → index < count

-- every object of a device is duplicated
pub record IsWhole (t : Topology) (d : Duplicates) : Type 0 where
  pub crtcs : AreWhole t.crtcs d.crtcs
  pub planes : AreWhole (length t.planes) d.planes
  pub conns : AreWhole (length t.conns) d.conns

-- every object of a device is duplicated, old and new alike, in the state that it has in a world
pub record IsPresent (t : Topology) (w : World) (d : Duplicates) : Type 0 where
  pub whole : IsWhole t d
  pub old : AgreesOld t w.things w.values d
  pub new : AgreesNew t w.things w.values d

-- every object of a device is duplicated: the old states are those of a world, and the new states those after a request
pub record IsAfter (t : Topology) (w : World) (r : Request) (d : Duplicates) : Type 0 where
  pub whole : IsWhole t d
  pub old : AgreesOld t w.things w.values d
  pub new : AgreesNew t w.things (after w r) d
