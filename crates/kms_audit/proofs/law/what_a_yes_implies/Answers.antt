use Rattle.kms_audit.proofs.Implying.{yes-implies}
use Rattle.kms_audit.proofs.law.what_a_yes_implies.Goals as goal

pub returns : goal.returns
returns c = yes-implies
