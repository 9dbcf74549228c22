-- The first of the names that are left is the first of all.
use Rattle.std.proofs.Common.{◌≡◌, drop}
use Rattle.std.specs.List.{position}
use Rattle.std.specs.Str.{bytes_eq}
use Rattle.kms_model.specs.Report.Right.{number_at}
use Rattle.kms_audit.proofs.ends.number_of.Given as goal

abbrev pub invariant-loop-number : goal.invariant-loop-number
invariant-loop-number l = number_at l.number (position (bytes_eq l.label) (drop l.number l.names)) ≡ position (bytes_eq l.label) l.names
