use Rattle.kms_core.proofs.Applied.{back_off_asked, back_off_there}
use Rattle.kms_course.proofs.single.steps.back_off.Goals as goal

pub unreachable-requires : goal.unreachable-requires
unreachable-requires c = back_off_there c.args.core.now c.args.client c.doing.result c.requires c.doing.ensures c.in_default.not-MustBackOff

pub backoff-requires : goal.backoff-requires
backoff-requires c = back_off_asked c.args.core.now c.args.client c.doing.result c.in-MustBackOff.ticket c.in-MustBackOff._object c.requires
    c.doing.ensures c.in-MustBackOff.is
