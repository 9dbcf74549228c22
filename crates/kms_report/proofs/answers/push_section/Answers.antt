use Rattle.kms_report.specs.Telling.{section_text}
use Rattle.kms_report.proofs.Pieces.{at_last, one_more, sections-join}
use Rattle.kms_report.proofs.answers.push_section.Goals as goal

pub loop-answer-preserved : goal.loop-answer-preserved
loop-answer-preserved c =
    one_more (λ answers. section_text c.args.section answers c.args.client)
    (sections-join c.args.section c.args.client) c.args.answers.now c.loop-answer.answer-index _ c.args.text.now.items _ _
    c.loop-answer-test.true c.loop-answer.invariant c.in_ok-push_answer.ensures

pub returns : goal.returns
returns c = at_last (λ answers. section_text c.args.section answers c.args.client) c.args.answers.now c.loop-answer.answer-index
    c.args.text.now.items _ c.loop-answer-test.false c.loop-answer.invariant
