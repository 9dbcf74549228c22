-- the rest of the assignments tells the same
use Rattle.std.proofs.Common.{◌≡◌, drop}
use Rattle.kms_model.specs.Request.Touched.{sets}
use Rattle.kms_core.proofs.next.groups.sets.Given as goal

abbrev pub invariant-loop-a : goal.invariant-loop-a
invariant-loop-a l = sets (drop l.a-index l.assigns) l.id.0 ≡ sets l.assigns l.id.0
