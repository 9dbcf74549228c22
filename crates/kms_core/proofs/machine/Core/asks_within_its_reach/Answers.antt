use Rattle.kms_core.proofs.machine.Core.asks_within_its_reach.Goals as goal

pub returns : goal.returns
returns c = c.old_look_ups_ask_within_reach.ensures c.args.self.now.script c.args.self.now.steps c.is_a_history.ensures.formed
    c.is_a_history.ensures.history
