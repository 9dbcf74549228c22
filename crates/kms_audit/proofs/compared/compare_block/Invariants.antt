use Rattle.std.proofs.Common.{◌≡◌, ◌≤◌, ◌-◌}
use Rattle.kms_audit.specs.Compared.{wrong_between}
use Rattle.kms_audit.specs.Indexed.{IsIndexOf}
use Rattle.kms_audit.specs.Judged.{IsAt}
use Rattle.kms_audit.specs.Sections.{earliest}
use Rattle.kms_model.specs.declared.reports.Report.{Report}
use Rattle.kms_audit.proofs.compared.compare_block.Given as goal

abbrev pub invariant-lines : goal.invariant-lines
invariant-lines l = record {
  end : l.block.end ≡ l.initial.block.end;
  least : l.initial.block.next ≤ l.block.next;
  most : l.initial.block.next ≤ l.initial.block.end → l.block.next ≤ l.block.end;
  told : (r : Report) → IsIndexOf r l.standing.index.now → r.replies ≡ l.replies
      → IsAt l.standing.script.now r l.place l.standing.serial.now l.standing.touches.now
      → l.first ≡ earliest l.fn.differing (wrong_between l.standing.script.now r l.initial.block.next l.block.next);
}

abbrev pub decreases-lines : goal.decreases-lines
decreases-lines l = l.block.end - l.block.next
