use Rattle.kms_core.proofs.machine.Core.waits_in_no_cycle.Goals as goal

pub returns : goal.returns
returns c = c.waits_have_no_cycle.ensures c.args.self.now.script c.args.self.now.steps c.is_a_history.ensures.formed
    c.is_a_history.ensures.history
