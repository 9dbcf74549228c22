use Rattle.kms_laws.proofs.NoCycle.{test_changes_nothing}
use Rattle.kms_laws.proofs.locks.tests_change_nothing.Goals as goal

pub returns : goal.returns
returns c = test_changes_nothing
