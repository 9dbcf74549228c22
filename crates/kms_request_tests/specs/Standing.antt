-- The device of one thread that a course is about.
use Rattle.std.specs.Prelude.{◌≡◌}
use Rattle.kms_model.specs.declared.objects.Topology.{Topology}
use Rattle.kms_model.specs.Device.Sound.{IsDevice, IsLawful}
use Rattle.kms_serial.specs.Device.{Device}

-- a device of a topology, in a lawful world
pub record Stands (t : Topology) (d : Device) : Type 0 where
  pub device : IsDevice t
  pub same : d.topology ≡ t
  pub lawful : IsLawful t d.world
