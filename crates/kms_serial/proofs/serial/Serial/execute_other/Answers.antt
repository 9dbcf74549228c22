use Rattle.kms_serial.proofs.Executing.{grows_after, stands_after}
use Rattle.kms_serial.proofs.serial.Serial.execute_other.Goals as goal

pub invariant_of-self : goal.invariant_of-self
invariant_of-self c = stands_after c.self.inside.topology c.self.inside.store c.execute.new.self c.self.inside.states c.args.client
    c.args.command.now c.execute.result c.requires.other c.execute.ensures.executed c.execute.ensures.unchanged c.self.invariant

pub returns-clause-grows : goal.returns-clause-grows
returns-clause-grows c = rw (← c.self.view_is)
    (grows_after c.execute.new.self c.args.client c.args.command.now c.execute.result
    c.requires.other c.self.invariant.lawful c.execute.ensures.executed)
