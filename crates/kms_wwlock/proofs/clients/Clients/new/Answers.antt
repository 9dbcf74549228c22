use Rattle.std.proofs.Common.{sym, subst}
use Rattle.kms_wwlock.specs.Table.{Table}
use Rattle.kms_wwlock.specs.Standing.{AreTied}
use Rattle.kms_wwlock.proofs.Ties.{tied_first}
use Rattle.kms_wwlock.proofs.InMachine.{stands_first}
use Rattle.kms_wwlock.proofs.clients.Clients.new.Goals as goal

pub invariant_of-result : goal.invariant_of-result
invariant_of-result c = subst (λ (w : Table). AreTied _ w.contexts) (sym c.new.ensures) tied_first

pub returns-clause-stands : goal.returns-clause-stands
returns-clause-stands c = λ t. rw c.new.ensures (stands_first t)
