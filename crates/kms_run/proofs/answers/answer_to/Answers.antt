use Rattle.std.proofs.Common.{rules}
use Rattle.kms_script.specs.Stated.{parts_in}
use Rattle.kms_run.proofs.Answering.{answers_told}
use Rattle.kms_run.proofs.answers.answer_to.Goals as goal

pub returns : goal.returns
returns g c =
    answers_told c.args.asked.now c.args.input.now (parts_in c.in_ok-parsed.parsed) c.parts_answer.result
    (search rules) (search rules)
