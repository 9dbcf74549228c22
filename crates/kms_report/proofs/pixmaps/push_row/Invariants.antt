-- The numbers so far were added.
use Rattle.std.proofs.Common.{◌≡◌, ◌++◌, take}
use Rattle.kms_report.proofs.Decimals.{spaced}
use Rattle.kms_report.proofs.pixmaps.push_row.Given as goal

abbrev pub invariant-loop-number : goal.invariant-loop-number
invariant-loop-number l = l.text.items ≡ l.initial.text.items ++ spaced (take l.number-index l.others)
