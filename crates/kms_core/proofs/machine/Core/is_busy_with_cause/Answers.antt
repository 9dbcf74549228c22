use Rattle.kms_core.proofs.machine.Core.is_busy_with_cause.Goals as goal

pub returns : goal.returns
returns c = c.busy_has_its_cause.ensures c.args.self.now.script c.args.self.now.steps c.is_a_history.ensures.formed
    c.is_a_history.ensures.history
