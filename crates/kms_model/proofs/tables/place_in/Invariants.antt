use Rattle.std.proofs.Common.{◌-◌}
use Rattle.kms_model.proofs.TableLemmas.{Narrowed}
use Rattle.kms_model.proofs.tables.place_in.Given as goal

abbrev pub invariant-loop-low : goal.invariant-loop-low
invariant-loop-low g l = Narrowed l.slots l.id l.low l.high

abbrev pub decreases-loop-low : goal.decreases-loop-low
decreases-loop-low g l = l.high - l.low
