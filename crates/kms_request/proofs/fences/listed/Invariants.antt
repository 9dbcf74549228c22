use Rattle.kms_request.specs.Fences.{ListsNumbers}
use Rattle.kms_request.proofs.fences.listed.Given as goal

abbrev pub invariant-loop-index : goal.invariant-loop-index
invariant-loop-index l = ListsNumbers l.kind l.index l.numbers l.all
