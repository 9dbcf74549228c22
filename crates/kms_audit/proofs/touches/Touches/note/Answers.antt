use Rattle.std.proofs.Common.{rules}
use Rattle.kms_audit.proofs.Noting.{note-all}
use Rattle.kms_audit.proofs.touches.Touches.note.Goals as goal

pub returns : goal.returns
returns c =
    note-all c.args.self.now _ c.args.touched.now c.args.commit (search rules) (search rules) (search rules)
    c.note_row.ensures c.note_row-2.ensures c.note_row-3.ensures
