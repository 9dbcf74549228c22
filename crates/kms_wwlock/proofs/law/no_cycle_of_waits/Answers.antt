use Rattle.kms_wwlock.proofs.Cycles.{no_cycle, backed_off_holds_nothing, holders_are_open}
use Rattle.kms_wwlock.proofs.law.no_cycle_of_waits.Goals as goal

pub returns-clause-no_cycle : goal.returns-clause-no_cycle
returns-clause-no_cycle c = no_cycle

pub returns-clause-backed_off_holds_nothing : goal.returns-clause-backed_off_holds_nothing
returns-clause-backed_off_holds_nothing c = backed_off_holds_nothing

pub returns-clause-holders_are_open : goal.returns-clause-holders_are_open
returns-clause-holders_are_open c = holders_are_open
