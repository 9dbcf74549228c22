use Rattle.kms_core.proofs.machine.Core.frees_framebuffers_once.Goals as goal

pub returns : goal.returns
returns c = c.framebuffers_are_freed_once.ensures.ever c.args.self.now.script c.args.self.now.steps c.is_a_history.ensures.formed
    c.is_a_history.ensures.history
