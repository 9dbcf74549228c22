use Rattle.std.proofs.Common.{rules}
use Rattle.std.proofs.iter.Serving.{serving}
use Rattle.kms_core.specs.Locks.{HasContext, MayRelock}
use Rattle.kms_device.proofs.Found.{may_relock}
use Rattle.kms_device.proofs.Turning.{adds_of, relocks_of, turn_of}
use Rattle.kms_device.proofs.device.Device.relock.Goals as goal

pub turn-requires-clause-callable : goal.turn-requires-clause-callable
turn-requires-clause-callable g c = λ found finds.
    let may : MayRelock found c.args.t = (may_relock c.args.self.now.script c.args.pass.now found finds c.args.t c.requires.off).0 in
    grind serving

pub turn-requires-clause-steps : goal.turn-requires-clause-steps
turn-requires-clause-steps g c = λ found left r finds called.
    let context : HasContext found c.args.pass.now.rank c.args.t =
    (may_relock c.args.self.now.script c.args.pass.now found finds c.args.t c.requires.off).1 in
    adds_of c.args.pass.now.rank found left _ (relocks_of c.args.pass.now.rank r) (search rules)

pub returns : goal.returns
returns g c = turn_of _ _ _ _ _ _ _ _ c.turn.ensures (λ x y finds called.
    let context : HasContext x c.args.pass.now.rank c.args.t =
    (may_relock c.args.self.now.script c.args.pass.now x finds c.args.t c.requires.off).1 in
    search rules)
