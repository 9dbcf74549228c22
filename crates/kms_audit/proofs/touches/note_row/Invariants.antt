use Rattle.kms_audit.proofs.Noting.{IsNoted}
use Rattle.kms_audit.proofs.touches.note_row.Given as goal

abbrev pub invariant-loop-index : goal.invariant-loop-index
invariant-loop-index l = IsNoted l.initial.row l.row l.index l.touched l.commit
