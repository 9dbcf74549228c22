use Rattle.std.proofs.Common.{◌≡◌, ◌+◌, ◌≤◌, length, true}
use Rattle.kms_model.specs.Legacy.LegacyLines.{legacy_lines_after}
use Rattle.kms_model.specs.Script.InputLines.{rows_of}
use Rattle.kms_legacy.specs.Reading.{AreSoundLines, device_draft, lines_in}
use Rattle.kms_legacy.proofs.reading.behind_client.Given as goal

abbrev pub invariant-lines : goal.invariant-lines
invariant-lines l = record {
  read : legacy_lines_after (lines_in l.lines) l.line (rows_of l.rest)
      ≡ legacy_lines_after (device_draft l.fn.topology true l.size) l.first (rows_of l.bytes);
  sound : AreSoundLines l.lines;
  topology : l.lines.topology ≡ l.fn.topology;
  line : l.line + length l.rest ≤ 4294967295;
  rest : length l.rest ≤ length l.bytes;
}

abbrev pub decreases-lines : goal.decreases-lines
decreases-lines l = length l.rest
