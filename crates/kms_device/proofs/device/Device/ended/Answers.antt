use Rattle.std.proofs.Common.{rules}
use Rattle.kms_device.proofs.Turning.{adds_none, turn_same}
use Rattle.kms_device.proofs.device.Device.ended.Goals as goal

pub turn-requires-clause-steps : goal.turn-requires-clause-steps
turn-requires-clause-steps g c = λ found left r finds called. adds_none c.args.pass.now.rank found left (search rules)

pub returns : goal.returns
returns g c = turn_same _ _ _ _ _ _ _ c.turn.ensures (λ x y finds called. search rules)
