use Rattle.kms_serial.proofs.Starting.{start_stands}
use Rattle.kms_serial.proofs.serial.Serial.new.Goals as goal

pub invariant_of-result : goal.invariant_of-result
invariant_of-result c = rw (c.at_start-store.ensures, c.start_states-states.ensures.states) (start_stands c.args.topology c.requires)
