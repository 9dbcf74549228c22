-- The first line that does not stand in its order, of those left, is the first of all; those before it do, in their blocks.
use Rattle.kms_audit.proofs.Orders.{IsOrderedTo}
use Rattle.kms_audit.proofs.order.order_of.Given as goal

abbrev pub invariant-loop-place : goal.invariant-loop-place
invariant-loop-place l = IsOrderedTo l.script l.report l.place l.before l.blocks
