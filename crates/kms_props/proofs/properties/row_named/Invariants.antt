use Rattle.std.proofs.Common.{◌≡◌, drop, map, find}
use Rattle.kms_model.specs.Device.Properties.{is_named, properties}
use Rattle.kms_props.specs.Rows.{property_of}
use Rattle.kms_props.proofs.properties.row_named.Given as goal

-- the first row of those left is the first of all
abbrev pub invariant-loop-row : goal.invariant-loop-row
invariant-loop-row l = find (is_named l.profile l.kind l.name) (map property_of (drop l.row-index l.row-items))
    ≡ find (is_named l.profile l.kind l.name) properties
