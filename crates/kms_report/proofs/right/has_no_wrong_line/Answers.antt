use Rattle.std.proofs.Common.{length, ◌<◌, ◌^◌, ap, subst}
use Rattle.kms_report.proofs.right.has_no_wrong_line.Goals as goal

pub returns : goal.returns
returns c = λ trace.
    c.histories_have_no_wrong_line.ensures c.args.core.now.script c.args.core.now.steps c.is_a_history.ensures.formed
    c.is_a_history.ensures.history c.frees_each_once.ensures trace
    (subst (λ n. n < 2 ^ 64) (ap length c.history.ensures) c.is_length.ensures)
