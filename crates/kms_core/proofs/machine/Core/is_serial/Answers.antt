use Rattle.kms_core.proofs.machine.Core.is_serial.Goals as goal

pub returns : goal.returns
returns c = c.world_is_serial.ensures c.args.self.now.script c.args.self.now.steps c.is_a_history.ensures.formed
    c.is_a_history.ensures.history
