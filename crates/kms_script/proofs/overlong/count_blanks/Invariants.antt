use Rattle.std.proofs.Common.{◌≡◌, ◌+◌, ◌≤◌, length}
use Rattle.kms_script.specs.Overlong.{blank_count}
use Rattle.kms_script.proofs.overlong.count_blanks.Given as goal

abbrev pub invariant-counting : goal.invariant-counting
invariant-counting l = record {
  whole : l.count + blank_count l.rest ≡ blank_count l.bytes;
  few : l.count + length l.rest ≤ length l.bytes;
}

abbrev pub decreases-counting : goal.decreases-counting
decreases-counting l = length l.rest
