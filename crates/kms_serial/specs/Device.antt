-- The device of one thread as contracts see it, and what stands beside it.
use Rattle.kms_model.specs.declared.objects.Topology.{Topology}
use Rattle.kms_model.specs.declared.states.Duplicates.{Duplicates}
use Rattle.kms_model.specs.declared.worlds.World.{World}
use Rattle.kms_model.specs.Device.Sound.{IsDevice, IsLawful}
use Rattle.kms_model.specs.Frames.Shown.{AreFramed}
use Rattle.kms_things.specs.Present.{IsPresent}

-- a device and its world
pub record Device : Type 0 where
  pub topology : Topology
  pub world : World

-- a device in a lawful world, whose framebuffers have their buffers, with the present states of its objects
pub record StandsInWorld (t : Topology) (w : World) (d : Duplicates) : Type 0 where
  pub device : IsDevice t
  pub lawful : IsLawful t w
  pub framed : AreFramed w.things
  pub present : IsPresent t w d
