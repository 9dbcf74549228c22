use Rattle.std.proofs.Common.{◌∙◌}
use Rattle.kms_core.specs.Run.{machine}
use Rattle.kms_core.proofs.next.JudgedRequests.{no_swap, swap_early, swap_late}
use Rattle.kms_core.proofs.next.judging.may_swap.Goals as goal

pub returns-in_default : goal.returns-in_default
returns-in_default c = no_swap c.args.core.now.script (machine c.args.core.now) c.args.client c.in_default.ensures

pub returns-in-None : goal.returns-in-None
returns-in-None c = swap_early c.args.core.now.script (machine c.args.core.now) c.args.client c.in-Some.request.now c.in-Some.ensures
    c.in-None.ensures

pub returns-in-Some-judge : goal.returns-in-Some-judge
returns-in-Some-judge c =
    c.is_committed.ensures
    ∙ swap_late c.args.core.now.script (machine c.args.core.now) c.args.client c.in-Some.request.now c.in-Some.ensures
    c.in-Some-judge.judged c.in-Some-judge.ensures c.is_test.result c.is_test.ensures
