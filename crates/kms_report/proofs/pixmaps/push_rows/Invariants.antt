-- The lines so far, and those of the rest, are all lines; the rest has as many numbers as its lines take.
use Rattle.std.proofs.Common.{◌≡◌, ◌*◌, ◌-◌, ◌++◌, length}
use Rattle.kms_model.specs.Frames.Ppm.{number_lines}
use Rattle.kms_report.proofs.pixmaps.push_rows.Given as goal

abbrev pub invariant-loop : goal.invariant-loop
invariant-loop l = record {
  lines : l.text.items ++ number_lines (l.count - l.counter) l.size l.rest ≡ l.initial.text.items ++ number_lines l.count l.size l.numbers;
  left : length l.rest ≡ l.size * (l.count - l.counter);
}
