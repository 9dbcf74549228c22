use Rattle.kms_suspend.proofs.Said.{longer_forms}
use Rattle.kms_suspend.proofs.laws.longer_scripts_are_well_formed.Goals as goal

pub returns : goal.returns
returns c = longer_forms c.things_have_their_labels.ensures.own c.things_have_their_labels.ensures.names c.world_is_serial.ensures
