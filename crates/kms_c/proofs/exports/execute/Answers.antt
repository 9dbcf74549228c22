use Rattle.std.proofs.Common.{ap, arith, subst, sym, ◌∙◌}
use Rattle.kms_report.specs.declared.histories.Options.{Options}
use Rattle.kms_run.specs.Answers.{Answers}
use Rattle.kms_c.specs.declared.told.Told.{Told}
use Rattle.kms_c.proofs.Known.{known}
use Rattle.kms_c.proofs.exports.execute.Goals as goal

pub returns-clause-unknown : goal.returns-clause-unknown
returns-clause-unknown c =
    let few = c.if-options-ge-UNKNOWN_OPTIONS.false in (
      λ usage. absurd (known c.answer_to.result c.args.out.now (ap (λ (t : Told). t.status) (sym c.put_answer.ensures.told) ∙ usage)),
      λ many. absurd (omega (arith, few, many)),
    )

pub returns-clause-answered : goal.returns-clause-answered
returns-clause-answered c = λ few. record {
  answer = c.answer_to.result;
  holds = subst (λ (o : Options). Answers (record { action = c.args.action; options = o }) c.args.script.now c.answer_to.result)
      c.options_of.ensures c.answer_to.ensures;
  is_told = c.put_answer.ensures.told;
  is_left = c.put_answer.ensures.left;
}
