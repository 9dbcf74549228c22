use Rattle.std.proofs.Common.{arith}
use Rattle.kms_audit.proofs.NextEvents.{owed-few, owed-next}
use Rattle.kms_audit.proofs.events.owed_of.Goals as goal

pub note_line-requires-clause-few : goal.note_line-requires-clause-few
note_line-requires-clause-few c =
    owed-few c.args.owners.now c.args.lines.now c.loop-line.line-index c.loop-line.owed c.loop-line.invariant (omega arith) c.requires.few

pub loop-line-preserved : goal.loop-line-preserved
loop-line-preserved c =
    owed-next c.args.owners.now c.args.lines.now c.loop-line.line-index _ c.loop-line.owed c.note_line.new.owed
    (omega arith) c.loop-line.invariant
    c.in_ok-note_line.ensures
