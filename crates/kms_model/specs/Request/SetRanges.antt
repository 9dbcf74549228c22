-- What a property may be set to, with labels looked up. From: `drm_atomic_uapi.c`, drm_atomic_set_property.
use Rattle.std.specs.Prelude.{ℕ, Bool, true, false, not, ◌&&◌, ◌==◌, int_le, Option, Some, None}
use Rattle.kms_model.specs.declared.objects.Kind.{Kind}
use Rattle.kms_model.specs.declared.properties.TheConstants.{FB_ID, MODE_ID, GAMMA_LUT}
use Rattle.kms_model.specs.declared.ranges.Range.{Range}
use Rattle.kms_model.specs.declared.ranges.Range.TheVariants.{Numbers, Thing, CrtcName}
use Rattle.kms_model.specs.declared.sets.SetValue.{SetValue}
use Rattle.kms_model.specs.declared.sets.SetValue.TheVariants as to
use Rattle.kms_model.specs.Device.Properties.{Property, property}
use Rattle.kms_model.specs.Request.Apply.{is_kept}
use Rattle.kms_model.specs.Request.Refusals.{is_of_kind, is_immutable_row}

-- a value is among those of a property's range
abbrev pub range_takes : ℕ → Range → SetValue → Bool
range_takes prop (Numbers low high) (to.Num n) = int_le low n && int_le n high
range_takes prop CrtcName (to.Crtc id) = true
range_takes prop (Thing none) (to.Fb fb) = prop == FB_ID
range_takes prop (Thing none) (to.Mode mode) = prop == MODE_ID
range_takes prop (Thing none) (to.Gamma gamma) = prop == GAMMA_LUT
range_takes prop (Thing none) to.Fence = not (is_kept prop)
range_takes _ _ _ = false

abbrev pub is_among_row : Option Property → SetValue → Bool
is_among_row None value = false
is_among_row (Some p) value = range_takes p.id p.range value

-- a kind of object has a property, a request may set it, and a value is among its values
abbrev pub may_set : Kind → ℕ → SetValue → Bool
may_set kind prop value = is_of_kind kind (property prop) && (not (is_immutable_row (property prop)) && is_among_row (property prop) value)
