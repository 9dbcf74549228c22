use Rattle.std.proofs.Common.{rules}
use Rattle.std.proofs.iter.Serving.{serving}
use Rattle.kms_core.specs.Locks.{IsTaking, MayLock}
use Rattle.kms_device.proofs.Reaching.{may_take}
use Rattle.kms_device.proofs.Turning.{adds_of, locks_of, turn_of}
use Rattle.kms_device.proofs.device.Device.lock.Goals as goal

pub turn-requires-clause-callable : goal.turn-requires-clause-callable
turn-requires-clause-callable g c = λ found finds.
    let may : MayLock found c.args.t c.args.id = (may_take c.args.self.now.script c.args.pass.now found finds c.args.t c.args.id
    c.requires.may).0 in
    grind serving

pub turn-requires-clause-steps : goal.turn-requires-clause-steps
turn-requires-clause-steps g c = λ found left r finds called.
    let taking : IsTaking found c.args.pass.now.rank c.args.t =
    (may_take c.args.self.now.script c.args.pass.now found finds c.args.t c.args.id c.requires.may).1 in
    adds_of c.args.pass.now.rank found left _ (locks_of c.args.pass.now.rank c.args.id r) (search rules)

pub returns : goal.returns
returns g c = turn_of _ _ _ _ _ _ _ _ c.turn.ensures (λ x y finds called.
    let taking : IsTaking x c.args.pass.now.rank c.args.t =
    (may_take c.args.self.now.script c.args.pass.now x finds c.args.t c.args.id c.requires.may).1 in
    search rules)
