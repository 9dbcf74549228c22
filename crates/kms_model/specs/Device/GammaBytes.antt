-- The bytes of a gamma table: 256 entries of red, green, blue and a reserved number, each of 16 bits and
-- little-endian. From: `drm_mode.h`, struct drm_color_lut; "Color Management Properties", GAMMA_LUT.
use Rattle.std.specs.Prelude.{ℕ, ◌+◌, ◌*◌, ◌/◌, ◌==◌, ◌≡◌, List, length, map, Option, Some, None, if◌then◌else◌}
use Rattle.std.specs.List.{range_with_len}
use Rattle.kms_model.specs.declared.objects.Gamma.{Gamma}
use Rattle.kms_model.specs.Device.ModeBytes.{AreBytes, two_at}

-- what each value of a channel becomes: the upper 8 bits of the channel's number in the entry of the value; red is the
-- first number of an entry, green the second, blue the third, and the reserved one is not looked at
abbrev pub channel_values : List ℕ → ℕ → List ℕ
channel_values bytes channel = map (λ value. two_at bytes (8 * value + 2 * channel) / 256) (range_with_len 0 256)

-- the table that 2048 bytes hold
abbrev pub gamma_held : List ℕ → Gamma
gamma_held bytes = record { red = channel_values bytes 0; green = channel_values bytes 1; blue = channel_values bytes 2 }

-- the table that bytes hold; none where they are not 2048
abbrev pub gamma_of_bytes : List ℕ → Option Gamma
gamma_of_bytes bytes = if length bytes == 2048 then Some (gamma_held bytes) else None

-- a table has a byte for each of the 256 values of each channel
pub record IsGammaTable (g : Gamma) : Type 0 where
  pub red : length g.red ≡ 256
  pub green : length g.green ≡ 256
  pub blue : length g.blue ≡ 256
  pub red_bytes : AreBytes g.red
  pub green_bytes : AreBytes g.green
  pub blue_bytes : AreBytes g.blue
