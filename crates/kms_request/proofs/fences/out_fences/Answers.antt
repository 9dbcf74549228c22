use Rattle.std.proofs.Common.{arith}
use Rattle.std.proofs.lemmas.Result.{IfOk-weaker}
use Rattle.kms_model.specs.Request.Sets.{out_fences}
use Rattle.kms_model.specs.Request.Touched.{out_fence_label}
use Rattle.kms_model.proofs.RequestLemmas.{has_few}
use Rattle.kms_request.proofs.fences.out_fences.Goals as goal

pub returns : goal.returns
unfolding out_fences
returns c =
    let few = has_few c.args.topology.now c.requires.limits in
    IfOk-weaker c.listed.result _ _ (λ listed lists. lists (out_fence_label c.args.assigns.now)
    (λ index less. c.out_fence_numbers-numbers.ensures index (omega (arith, few.crtcs)))) c.listed.ensures
