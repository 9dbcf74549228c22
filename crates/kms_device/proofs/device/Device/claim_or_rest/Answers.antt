use Rattle.std.proofs.Common.{rules}
use Rattle.kms_device.proofs.Turning.{adds_of, claims_of, turn_of}
use Rattle.kms_device.proofs.device.Device.claim_or_rest.Goals as goal

pub turn-requires-clause-steps : goal.turn-requires-clause-steps
turn-requires-clause-steps g c = λ found left r finds called. adds_of c.args.pass.now.rank found left _ (claims_of c.args.pass.now.rank r.0)
    (search rules)

pub returns : goal.returns
returns g c = turn_of _ _ _ _ _ _ _ _ c.turn.ensures (λ x y finds called. search rules)
