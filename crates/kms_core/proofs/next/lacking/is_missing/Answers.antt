use Rattle.kms_core.proofs.next.NextLocks.{lockable_few}
use Rattle.kms_core.proofs.next.lacking.is_missing.Goals as goal

pub has-requires-clause-index : goal.has-requires-clause-index
has-requires-clause-index c = lockable_few c.args.kind c.args.index c.requires.needs.device
    c.requires.lockable

pub has-requires-clause-settable : goal.has-requires-clause-settable
has-requires-clause-settable c = c.requires.needs.settable
