-- Sets of objects as masks: bit i stands for the object with index i. From: "Atomic Mode Setting"; drm_crtc_mask,
-- drm_plane_mask, drm_connector_mask.
use Rattle.std.specs.Prelude.{ℕ, zero, suc, ◌+◌, ◌^◌, Bool, not, ◌==◌, bit_and, if◌then◌else◌}

-- the object with an index is in a set
abbrev pub has_bit : ℕ → ℕ → Bool
has_bit mask index = not (bit_and mask (2 ^ index) == 0)

-- the set of those of the first n objects that pass a test
unfoldable pub mask_below : (ℕ → Bool) → ℕ → ℕ
mask_below test zero = 0
mask_below test (suc n) = mask_below test n + (if test n then 2 ^ n else 0)
