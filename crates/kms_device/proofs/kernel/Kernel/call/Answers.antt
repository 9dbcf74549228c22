use Rattle.std.proofs.Common.{rules}
use Rattle.kms_device.specs.Kernels.{AddsPlain}
use Rattle.kms_device.proofs.Counting.{plain-keeps}
use Rattle.kms_device.proofs.kernel.Kernel.call.Goals as goal

pub invariant_of-self : goal.invariant_of-self
invariant_of-self g c =
    let adds : AddsPlain c.args.self.now c.call.new.arg2 = c.requires.plain _ c.call.result (search rules) in
    plain-keeps c.self.inside.counts c.args.self.now c.call.new.arg2 (search rules) adds
