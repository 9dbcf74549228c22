-- The first line that is not right, of those left, is the first of all; the reader and the map stand behind the lines before.
use Rattle.std.proofs.Common.{◌≡◌, ◌≤◌, [], length, take, drop}
use Rattle.kms_audit.specs.Eventing.{AreLeft, AreRightBefore, IsReadTo}
use Rattle.kms_model.specs.declared.scripts.Script.{Script}
use Rattle.kms_model.specs.Report.Right.{event_is_right, number_at}
use Rattle.kms_model.specs.Report.RightAnswers.{first_off}
use Rattle.kms_audit.proofs.events.events_off.Given as goal

abbrev pub invariant-loop-place : goal.invariant-loop-place
invariant-loop-place l = record {
  rest : (s : Script) → AreRightBefore s l.report l.blocks l.owners →
      number_at l.place (first_off (event_is_right s l.report) (take l.place l.report.events) (drop l.place l.report.events))
      ≡ first_off (event_is_right s l.report) [] l.report.events;
  read : (s : Script) → AreRightBefore s l.report l.blocks l.owners → IsReadTo l.report (take l.place l.report.events) l.reader;
  own : l.reader.block.end ≤ length l.report.replies;
  owed : AreLeft l.owners l.report.latches (take l.place l.report.events) l.owed;
}
