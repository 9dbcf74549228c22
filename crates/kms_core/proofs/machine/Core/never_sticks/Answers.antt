use Rattle.kms_core.proofs.machine.Core.never_sticks.Goals as goal

pub returns : goal.returns
returns c = c.histories_go_on.ensures c.args.self.now.script c.args.self.now.steps c.is_a_history.ensures.formed
    c.is_a_history.ensures.history
