use Rattle.kms_core.proofs.machine.Core.delivers_events_once.Goals as goal

pub returns-clause-delivered : goal.returns-clause-delivered
returns-clause-delivered c = λ client. (c.events_come_once.ensures c.args.self.now.script c.args.self.now.steps
    c.is_a_history.ensures.formed c.is_a_history.ensures.history client).0

pub returns-clause-reserved : goal.returns-clause-reserved
returns-clause-reserved c = λ client. (c.events_come_once.ensures c.args.self.now.script c.args.self.now.steps c.is_a_history.ensures.formed
    c.is_a_history.ensures.history client).1
