use Rattle.std.proofs.Common.{◌≡◌, drop, map, find}
use Rattle.std.specs.Prelude.{◌&&◌}
use Rattle.kms_model.specs.Device.Properties.{has_id, is_in_profile, properties}
use Rattle.kms_props.specs.Rows.{property_of}
use Rattle.kms_props.proofs.properties.row_in.Given as goal

-- the first row of those left is the first of all
abbrev pub invariant-loop-row : goal.invariant-loop-row
invariant-loop-row l =
    find (λ p. has_id l.prop p && is_in_profile l.profile p) (map property_of (drop l.row-index l.row-items))
    ≡ find (λ p. has_id l.prop p && is_in_profile l.profile p) properties
