use Rattle.kms_core.proofs.machine.Core.shows_its_journal.Goals as goal

pub returns : goal.returns
returns c = c.headline_holds.ensures c.args.self.now.script c.args.self.now.steps c.is_a_history.ensures.formed
    c.is_a_history.ensures.history
