use Rattle.std.proofs.Common.{[]}
use Rattle.kms_serial.proofs.store.WorldStore.preview.Goals as goal

pub returns : goal.returns
returns c = λ t. rw (← c.self.view_is) (c.preview.ensures t
    (record { values = c.self.inside.values.settings; things = []; next_id = 0; commits = c.self.inside.commits }))
