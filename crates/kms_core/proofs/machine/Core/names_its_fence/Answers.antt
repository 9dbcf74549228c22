use Rattle.kms_core.proofs.machine.Core.names_its_fence.Goals as goal

pub returns : goal.returns
returns c = c.dead_histories_name_a_fence.ensures c.args.self.now.script c.args.self.now.steps c.is_a_history.ensures.formed
    c.is_a_history.ensures.history
