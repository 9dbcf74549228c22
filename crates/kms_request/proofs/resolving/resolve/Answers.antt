use Rattle.std.proofs.Common.{rules, ◌∙◌, sym}
use Rattle.kms_model.specs.Request.Sets.{look_in}
use Rattle.kms_request.proofs.SameAnswers.{answer-refused}
use Rattle.kms_model.proofs.SameLooks.{early-same, resolved-same}
use Rattle.kms_request.proofs.resolving.resolve.Goals as goal

pub returns-in-Some-clause-refused_by : goal.returns-in-Some-clause-refused_by
returns-in-Some-clause-refused_by c = λ f same.
    sym (early-same c.args.topology.now (look_in c.args.found.now) f c.args.request.now same) ∙ sym c.in-Some.ensures.first

pub returns-in_err-last_sets-clause-refused_by : goal.returns-in_err-last_sets-clause-refused_by
returns-in_err-last_sets-clause-refused_by c = λ f same.
    answer-refused c.args.topology.now (look_in c.args.found.now) f c.args.request.now c.from_residual.result same (search rules)

pub returns-in_err-in_fences-clause-refused_by : goal.returns-in_err-in_fences-clause-refused_by
returns-in_err-in_fences-clause-refused_by c = λ f same.
    answer-refused c.args.topology.now (look_in c.args.found.now) f c.args.request.now c.from_residual-in_err-in_fences.result same
    (search rules)

pub returns-in_err-out_fences-clause-refused_by : goal.returns-in_err-out_fences-clause-refused_by
returns-in_err-out_fences-clause-refused_by c = λ f same.
    answer-refused c.args.topology.now (look_in c.args.found.now) f c.args.request.now c.from_residual-in_err-out_fences.result same
    (search rules)

pub returns-clause-resolved_by : goal.returns-clause-resolved_by
returns-clause-resolved_by c = λ f same.
    resolved-same c.args.topology.now (look_in c.args.found.now) f c.args.request.now _ same (search rules)
