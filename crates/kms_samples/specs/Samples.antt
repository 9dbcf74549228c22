-- Modes, devices, gamma tables and requests that tests are about.
use Rattle.std.specs.Prelude.{ℕ, ◌+◌, ◌-◌, ◌/◌, ◌%◌, pos, List, [], ◌∷◌, map, replicate}
use Rattle.std.specs.List.{range_with_len}
use Rattle.kms_model.specs.declared.objects.Gamma.{Gamma}
use Rattle.kms_model.specs.declared.objects.Kind.TheVariants.{Crtc, Plane, Conn}
use Rattle.kms_model.specs.declared.objects.Mode.{Mode}
use Rattle.kms_model.specs.declared.objects.PlaneInfo.{PlaneInfo}
use Rattle.kms_model.specs.declared.objects.Topology.{Topology}
use Rattle.kms_model.specs.declared.properties.TheConstants.{ACTIVE, CRTC_H, CRTC_ID, CRTC_W, FB_ID, MODE_ID, SRC_H, SRC_W}
use Rattle.kms_model.specs.declared.scripts.Assign.{Assign}
use Rattle.kms_model.specs.declared.scripts.Request.{Request}
use Rattle.kms_model.specs.declared.scripts.Value.TheVariants as value
use Rattle.kms_model.specs.Device.Modes.{plain_mode}
use Rattle.kms_model.specs.Script.Generated.{assigns_to}

-- so many pixels in a row, and so many rows, with nothing around them
abbrev pub sized_mode : ℕ → ℕ → Mode
sized_mode columns rows = plain_mode 1 columns rows (replicate 32 0)

-- one pixel
abbrev pub tiny : Mode
tiny = sized_mode 1 1

-- a primary plane of some CRTCs that takes XR24 alone
abbrev pub plane_of : ℕ → PlaneInfo
plane_of crtcs = record { kind = 1; crtcs = crtcs; formats = 1 }

abbrev pub device_with : ℕ → List PlaneInfo → List ℕ → Topology
device_with crtcs planes conns = record { profile = 1; crtcs = crtcs; planes = planes; conns = conns }

-- one CRTC, a plane of it and a connector of it
abbrev pub single : Topology
single = device_with 1 (plane_of 1 ∷ []) (1 ∷ [])

-- one CRTC, a plane and two connectors of it
abbrev pub cloned : Topology
cloned = device_with 1 (plane_of 1 ∷ []) (1 ∷ 1 ∷ [])

-- two CRTCs, a plane of both, one of the first alone and a connector of the first alone
abbrev pub pair : Topology
pair = device_with 2 (plane_of 3 ∷ plane_of 1 ∷ []) (1 ∷ [])

-- the same with a second connector of the first CRTC alone
abbrev pub double : Topology
double = device_with 2 (plane_of 3 ∷ plane_of 1 ∷ []) (1 ∷ 1 ∷ [])

-- a plane of two CRTCs that takes every format
abbrev pub plane_of_both : PlaneInfo
plane_of_both = record { kind = 1; crtcs = 3; formats = 7 }

-- two CRTCs, and two planes and a connector that go on each of them
abbrev pub split : Topology
split = device_with 2 (plane_of_both ∷ plane_of_both ∷ []) (3 ∷ [])

-- a device in profile 2
abbrev pub in_profile_2 : Topology → Topology
in_profile_2 t = record t { profile = 2 }

-- a table of which red inverts, green adds 1 and blue halves
abbrev pub mixed_gamma : Gamma
mixed_gamma = record {
  red = map (λ value. 255 - value) (range_with_len 0 256);
  green = map (λ value. (value + 1) % 256) (range_with_len 0 256);
  blue = map (λ value. value / 2) (range_with_len 0 256);
}

-- what lights the first CRTC, by the labels of a framebuffer and of a mode of one pixel
abbrev pub light : ℕ → ℕ → List Assign
light fb mode =
    assigns_to Crtc 0 ACTIVE (value.Num (pos 1))
    ∷ assigns_to Crtc 0 MODE_ID (value.Named mode)
    ∷ assigns_to Conn 0 CRTC_ID (value.Crtc 0)
    ∷ assigns_to Plane 0 FB_ID (value.Named fb)
    ∷ assigns_to Plane 0 CRTC_ID (value.Crtc 0)
    ∷ assigns_to Plane 0 CRTC_W (value.Num (pos 1))
    ∷ assigns_to Plane 0 CRTC_H (value.Num (pos 1))
    ∷ assigns_to Plane 0 SRC_W (value.Num (pos 65536))
    ∷ assigns_to Plane 0 SRC_H (value.Num (pos 65536))
    ∷ []

-- a request that sets what assignments say
abbrev pub request : ℕ → List Assign → Request
request flags assigns = record { flags = flags; user_data = 7; assigns = assigns }
