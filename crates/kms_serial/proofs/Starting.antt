-- The device before the first command.
use Rattle.kms_model.specs.declared.objects.Topology.{Topology}
use Rattle.kms_model.specs.Device.Sound.{IsDevice}
use Rattle.kms_model.specs.Device.World.{start}
use Rattle.kms_model.proofs.SoundStart.{start_is_lawful}
use Rattle.kms_things.specs.Starting.{start_states}
use Rattle.kms_things.proofs.StartStates.{start_present}
use Rattle.kms_serial.specs.Device.{StandsInWorld}

-- the device before the first command stands
pub start_stands : (t : Topology) → IsDevice t → StandsInWorld t (start t) (start_states t)
start_stands t device = record { device = device; lawful = start_is_lawful t device; framed = tt; present = start_present t device }
