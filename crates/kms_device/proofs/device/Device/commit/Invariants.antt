use Rattle.kms_device.specs.Committing.{GoesOnWith}
use Rattle.kms_device.proofs.device.Device.commit.Given as goal

abbrev pub invariant-loop : goal.invariant-loop
invariant-loop g l = GoesOnWith l.self.script l.client l.fn.pass l.pass l.work
