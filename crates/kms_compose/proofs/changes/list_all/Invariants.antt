-- The layers so far are listed.
use Rattle.std.proofs.Common.{take}
use Rattle.kms_compose.specs.Changes.{Lists}
use Rattle.kms_compose.proofs.changes.list_all.Given as goal

abbrev pub invariant-loop-layer : goal.invariant-loop-layer
invariant-loop-layer l = Lists l.fn.listed.items (take l.layer-index l.layers) l.listed.items
