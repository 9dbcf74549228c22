use Rattle.kms_reading.proofs.Continuing.{ended-none, ended-some}
use Rattle.kms_reading.proofs.reports.Said.finish.Goals as goal

pub returns-in-Some : goal.returns-in-Some
returns-in-Some c = ended-some c.args.self c.args.line c.in-Some.end c.requires c.in-Some.is

pub returns-in-None : goal.returns-in-None
returns-in-None c = ended-none c.args.self c.args.line c.requires c.in-None.is
