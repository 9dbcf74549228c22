use Rattle.kms_core.proofs.machine.Core.shows_all_once_cleaned.Goals as goal

pub returns : goal.returns
returns c = c.all_is_shown_once_cleaned.ensures c.args.self.now.script c.args.self.now.steps c.is_a_history.ensures.formed
    c.is_a_history.ensures.history
