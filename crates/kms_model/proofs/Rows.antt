-- Worked examples of the definitions, computed: what scripts spell, buffers that are refused, colours and pixmaps.
use Rattle.std.proofs.Common.{◌≡◌, ℕ, List, [], ◌∷◌, ◌++◌, refl, codes, pos, Some, None, replicate, Ok}
use Rattle.kms_model.specs.Device.Modes.{plain_mode}
use Rattle.kms_model.specs.declared.objects.Kind.TheVariants as kind
use Rattle.kms_model.specs.declared.objects.Format.TheVariants.{Xr24, Rg16}
use Rattle.kms_model.specs.declared.objects.Mode.{Mode}
use Rattle.kms_model.specs.declared.objects.Topology.{Topology}
use Rattle.kms_model.specs.declared.properties.TheConstants.{FB_ID, CRTC_ID, CRTC_W, CRTC_H, SRC_W, SRC_H, ACTIVE, MODE_ID}
use Rattle.kms_model.specs.declared.scripts.Assign.{Assign}
use Rattle.kms_model.specs.declared.scripts.Command.{Command}
use Rattle.kms_model.specs.declared.scripts.Command.TheVariants as command
use Rattle.kms_model.specs.declared.scripts.Pattern.TheVariants.{Solid}
use Rattle.kms_model.specs.declared.scripts.PropRef.TheVariants.{Known}
use Rattle.kms_model.specs.declared.scripts.Script.{Script}
use Rattle.kms_model.specs.declared.scripts.Value.TheVariants as value
use Rattle.kms_model.specs.Script.WholeInput.{input}
use Rattle.kms_model.specs.Frames.FrameBytes.{colour_of}
use Rattle.kms_model.specs.Device.Execution.{new_buffer_refusal}
use Rattle.kms_model.specs.Frames.Ppm.{ppm}
use Rattle.kms_model.proofs.OnLiterals.{on_literals}
use Rattle.kms_model.proofs.OnScripts.{on_scripts}

-- one CRTC, one primary plane and one connector
abbrev pub device : Topology
device = record { profile = 1; crtcs = 1; planes = record { kind = 1; crtcs = 1; formats = 1 } ∷ []; conns = 1 ∷ [] }

abbrev pub named_tiny : Mode
named_tiny = plain_mode 1 1 1 (codes "tiny" ++ replicate 28 0)

abbrev sets : ℕ → List Assign
sets plane =
    record { kind = kind.Crtc; index = 0; prop = Known ACTIVE; value = value.Num (pos 1) }
    ∷ record { kind = kind.Crtc; index = 0; prop = Known MODE_ID; value = value.Named 2 }
    ∷ record { kind = kind.Conn; index = 0; prop = Known CRTC_ID; value = value.Crtc 0 }
    ∷ record { kind = kind.Plane; index = plane; prop = Known FB_ID; value = value.Named 1 }
    ∷ record { kind = kind.Plane; index = 0; prop = Known CRTC_ID; value = value.Crtc 0 }
    ∷ record { kind = kind.Plane; index = 0; prop = Known CRTC_W; value = value.Num (pos 1) }
    ∷ record { kind = kind.Plane; index = 0; prop = Known CRTC_H; value = value.Num (pos 1) }
    ∷ record { kind = kind.Plane; index = 0; prop = Known SRC_W; value = value.Num (pos 65536) }
    ∷ record { kind = kind.Plane; index = 0; prop = Known SRC_H; value = value.Num (pos 65536) }
    ∷ []

abbrev commands : ℕ → ℕ → List Command
commands flags plane =
    command.Buffer 0 1 1 Xr24 (Solid 0x00616263)
    ∷ command.AddFb 1 0
    ∷ command.Mode 2 named_tiny
    ∷ command.Atomic (record { flags = flags; user_data = 0; assigns = sets plane })
    ∷ []

abbrev pub script : ℕ → ℕ → Script
script flags plane = record {
  version = 1;
  topology = device;
  names = codes "b" ∷ codes "f" ∷ codes "m" ∷ [];
  clients = commands flags plane
      ∷ [];
}

abbrev pub head : List ℕ
head = codes "kms 1\ncrtcs 1\nplane primary 0 XR24\nconn 0\n"

-- two CRTCs, a plane that may go on both, and a connector of each
abbrev pub head_of_two : List ℕ
head_of_two = codes "kms 1\ncrtcs 2\nplane overlay 0,1 XR24\nconn 0\nconn 1\n"

abbrev pub pixel_made : List ℕ
pixel_made = codes "buffer b 1 1 XR24 solid 00616263\naddfb f b\n"

abbrev pub mode_made : List ℕ
mode_made = codes "mode m 1 1 1 1 1 0 1 1 1 1 0 60 0 0 tiny\n"

abbrev pub made : List ℕ
made = codes "client\n" ++ pixel_made ++ mode_made

-- the text of the first script
pub first_script_is_read : input (head ++ made ++ codes "atomic 0x400 0 crtc0.ACTIVE=1 crtc0.MODE_ID=@m conn0.CRTC_ID=crtc0 plane0.FB_ID=@f plane0.CRTC_ID=crtc0 plane0.CRTC_W=1 plane0.CRTC_H=1 plane0.SRC_W=65536 plane0.SRC_H=65536\n") ≡ Ok (script 0x400 0)
unfolding on_scripts
first_script_is_read = refl

-- the head and an empty client
pub empty_client_is_read : input (head ++ codes "client\n") ≡ Ok (record { version = 1; topology = device; names = []; clients = [] ∷ [] })
unfolding on_scripts
empty_client_is_read = refl

-- five and six bits of a channel of RG16
pub channels_of_rg16 : colour_of Rg16 0x0821 ≡ record { alpha = 255; red = 8; green = 4; blue = 8 }
channels_of_rg16 = refl

-- the brightest red of RG16
pub red_of_rg16 : colour_of Rg16 0xf800 ≡ record { alpha = 255; red = 255; green = 0; blue = 0 }
red_of_rg16 = refl

-- a buffer without width
pub no_width_is_refused : new_buffer_refusal [] 0 1 Xr24 ≡ Some 31
no_width_is_refused = refl

-- the widest and highest buffer
pub widest_buffer_is_made : new_buffer_refusal [] 4096 4096 Xr24 ≡ None
widest_buffer_is_made = refl

-- a buffer that is too high
pub too_high_is_refused : new_buffer_refusal [] 1 4097 Xr24 ≡ Some 31
too_high_is_refused = refl

-- a frame of two rows, and one without pixels
pub two_rows_are_written : ppm (0 ∷ 97 ∷ 255 ∷ 10 ∷ 100 ∷ 9 ∷ []) 1 2 ≡ codes "P3\n1 2\n255\n0 97 255\n10 100 9\n"
unfolding on_literals
two_rows_are_written = refl

pub one_row_of_two_pixels_is_written : ppm (1 ∷ 2 ∷ 3 ∷ 4 ∷ 5 ∷ 6 ∷ []) 2 1 ≡ codes "P3\n2 1\n255\n1 2 3 4 5 6\n"
unfolding on_literals
one_row_of_two_pixels_is_written = refl
