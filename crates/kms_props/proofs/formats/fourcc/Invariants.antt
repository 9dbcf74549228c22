use Rattle.std.proofs.Common.{◌≡◌, drop, map, find}
use Rattle.kms_model.specs.Device.Properties.{has_code, formats}
use Rattle.kms_props.specs.Rows.{format_row_of}
use Rattle.kms_props.proofs.formats.fourcc.Given as goal

-- the first row of those left is the first of all
abbrev pub invariant-loop-row : goal.invariant-loop-row
invariant-loop-row l = find (has_code l.code) (map format_row_of (drop l.row-index l.row-items)) ≡ find (has_code l.code) formats
