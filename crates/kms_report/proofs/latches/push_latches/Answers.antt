use Rattle.kms_report.specs.Images.{things_of}
use Rattle.kms_report.proofs.latches.push_latches.Goals as goal

pub push_after-requires-clause-screen : goal.push_after-requires-clause-screen
push_after-requires-clause-screen g c = c.dark-screen.ensures.things (things_of c.args.told.now.core.now)
