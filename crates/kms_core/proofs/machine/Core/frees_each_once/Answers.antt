use Rattle.kms_core.proofs.machine.Core.frees_each_once.Goals as goal

pub returns : goal.returns
returns c = c.each_framebuffer_is_freed_once.ensures c.args.self.now.script c.args.self.now.steps c.is_a_history.ensures.formed
    c.is_a_history.ensures.history
