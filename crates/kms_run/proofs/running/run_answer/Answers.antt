use Rattle.std.proofs.Common.{◌≡◌, Ok, subst}
use Rattle.kms_model.specs.declared.scripts.Part.TheVariants as part
use Rattle.kms_model.specs.Script.Schedules.{input_of}
use Rattle.kms_script.specs.Stated.{parts_in}
use Rattle.kms_run.specs.Answers.{IsReportOf}
use Rattle.kms_run.specs.Words.{run_execution}
use Rattle.kms_run.proofs.running.run_answer.Goals as goal

pub returns : goal.returns
returns g c =
    let parsed = c.in_ok-parsed.parsed in
    let report = c.in_ok-run_and_report.field-0 in
    record {
      parts = parts_in parsed;
      spelled = subst (λ bytes. input_of part.Script bytes ≡ Ok (parts_in parsed)) c.deref.ensures.value c.in_ok-parsed.ensures.value;
      report = subst (λ steps. IsReportOf (run_execution c.args.asks) parsed.script steps report.ended report.text)
          c.as_slice-steps.ensures.value c.in_ok-run_and_report.ensures;
    }
