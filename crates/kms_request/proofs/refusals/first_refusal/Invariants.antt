use Rattle.std.proofs.Common.{◌≡◌, take, drop, [], reverse}
use Rattle.kms_model.specs.Request.Refusals.{assigns_refusal}
use Rattle.kms_request.specs.Fences.{TellFences}
use Rattle.kms_request.proofs.refusals.first_refusal.Given as goal

-- what is wrong with the assignments that are left is what is wrong with all
abbrev pub invariant-loop-a : goal.invariant-loop-a
invariant-loop-a g l = record {
  rest : assigns_refusal l.topology (g.L.Looker.meaning l.found) (reverse (take l.a-index l.assigns)) (drop l.a-index l.assigns)
      ≡ assigns_refusal l.topology (g.L.Looker.meaning l.found) [] l.assigns;
  fences : TellFences (reverse (take l.a-index l.assigns)) l.fenced;
}
