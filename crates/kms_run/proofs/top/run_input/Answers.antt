use Rattle.kms_run.specs.Outcome.{Meets}
use Rattle.kms_run.specs.Words.{run_execution}
use Rattle.kms_run.proofs.Outcomes.{moved_on}
use Rattle.kms_run.proofs.top.run_input.Goals as goal

pub returns-in-Ok-clause-moved : goal.returns-in-Ok-clause-moved
returns-in-Ok-clause-moved g c =
    let input = c.in-Ok.input.items in
    let left = g.S.Source.left c.read_input.new.source in
    let asks = run_execution c.args.asks in
    moved_on (g.S.Source.left c.args.source.now) left (g.K.Sink.written c.args.sink.now) (g.K.Sink.written c.write_answer.new.sink) input
    (Meets asks c.write_answer.result left) c.in-Ok.ensures.taken (c.write_answer.ensures.put asks left input c.in-Ok.ensures.whole
    c.run_answer-answer.ensures)
