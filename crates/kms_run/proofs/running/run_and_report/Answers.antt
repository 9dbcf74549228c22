use Rattle.std.proofs.Common.{subst}
use Rattle.std.specs.Prelude.{IfOk}
use Rattle.kms_run.specs.Answers.{IsReportOf}
use Rattle.kms_run.specs.Words.{run_execution}
use Rattle.kms_run.proofs.running.run_and_report.Goals as goal

pub returns : goal.returns
returns g c =
    subst (λ s. IfOk c.full_report.result (λ report. IsReportOf (run_execution c.args.asks) s c.args.schedule.now report.ended report.text))
    c.in_ok-core.ensures.script c.full_report.ensures
