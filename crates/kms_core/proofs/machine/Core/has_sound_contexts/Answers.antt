use Rattle.kms_core.proofs.machine.Core.has_sound_contexts.Goals as goal

pub returns : goal.returns
returns c = c.contexts_stand.ensures c.args.self.now.script c.args.self.now.steps c.is_a_history.ensures.formed
    c.is_a_history.ensures.history
