use Rattle.kms_core.proofs.machine.Core.frames_what_is_held.Goals as goal

pub returns : goal.returns
returns c = c.held_objects_are_framed.ensures c.args.self.now.script c.args.self.now.steps c.is_a_history.ensures.formed
    c.is_a_history.ensures.history
