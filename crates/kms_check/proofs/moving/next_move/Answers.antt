use Rattle.std.proofs.lemmas.Bool.{and_parts}
use Rattle.kms_model.specs.Device.Properties.{keeps_limits}
use Rattle.kms_check.proofs.moving.next_move.Goals as goal

pub resolve-requires : goal.resolve-requires
resolve-requires c = (and_parts (keeps_limits c.args.topology.now) _ c.requires.device.legal).0
