use Rattle.std.proofs.Common.{arith}
use Rattle.std.proofs.lemmas.Result.{IfOk-weaker}
use Rattle.kms_model.specs.Request.Sets.{in_fence, in_fences}
use Rattle.kms_model.proofs.RequestLemmas.{has_few}
use Rattle.kms_request.proofs.fences.in_fences.Goals as goal

pub returns : goal.returns
unfolding in_fences
returns g c =
    let few = has_few c.args.topology.now c.requires.limits in
    rw (← c.len.ensures) (IfOk-weaker c.listed.result _ _
    (λ listed lists. lists (in_fence (g.L.Looker.meaning c.args.found.now) c.args.assigns.now)
    (λ index less. c.in_fence_numbers-numbers.ensures index (omega (arith, few.planes)))) c.listed.ensures)
