use Rattle.kms_suspend.proofs.Replaying.{stops_nowhere}
use Rattle.kms_suspend.proofs.sleeping.go_on.Goals as goal

pub unreachable-requires : goal.unreachable-requires
unreachable-requires c =
    stops_nowhere c.args.core.now _ c.args.steps.now _ _ c.in-Err-Illegal.field-0-is c.requires.start c.requires.history
    c.in-Err-Illegal.ensures.stops
