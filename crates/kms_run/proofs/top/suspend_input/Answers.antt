use Rattle.kms_run.specs.Outcome.{MeetsSleep}
use Rattle.kms_run.proofs.Outcomes.{moved_on}
use Rattle.kms_run.proofs.top.suspend_input.Goals as goal

pub returns-in-Ok-clause-moved : goal.returns-in-Ok-clause-moved
returns-in-Ok-clause-moved g c =
    let input = c.in-Ok.input.items in
    let left = g.S.Source.left c.read_input.new.source in
    moved_on (g.S.Source.left c.args.source.now) left (g.K.Sink.written c.args.sink.now) (g.K.Sink.written c.write_slept.new.sink) input
    (MeetsSleep c.write_slept.result left) c.in-Ok.ensures.taken
    (c.write_slept.ensures.put left input c.in-Ok.ensures.whole c.answer_suspend.ensures)
