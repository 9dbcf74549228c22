use Rattle.std.proofs.Common.{[]}
use Rattle.kms_things.proofs.MadeLemmas.{if_ok}
use Rattle.kms_serial.proofs.store.WorldStore.execute.Goals as goal

pub returns-clause-executed : goal.returns-clause-executed
returns-clause-executed c =
    if_ok c.execute.result _ _
    (λ r made t. rw (← c.self.view_is) (made t (record
    { values = c.self.inside.values.settings; things = []; next_id = 0; commits = c.self.inside.commits })))
    c.execute.ensures.executed
