-- The registers of planes and CRTCs, each with a shadow word, which workers write, and a live word, which a latch copies
-- from it. All words have 32 bits. From: "Plane Helper Reference" and "Vertical Blanking": a display controller takes what
-- was programmed at its next vblank; the registers and their layout are this device's own.
use Rattle.std.specs.Prelude.{ℕ, ◌==◌, ◌||◌, Bool, not, pos, List, [], ◌∷◌, replicate, Option, Some, None, if◌then◌else◌, slice_range}
use Rattle.std.specs.Prelude.{is_some, ◌++◌}
use Rattle.std.specs.List.{flat_map}
use Rattle.std.specs.Int.{w32, to_le_bytes, from_le_bytes, cast_signed, cast_unsigned}
use Rattle.std.specs.Option.{option_map_or}
use Rattle.kms_model.specs.Firsts.{one_if}
use Rattle.kms_model.specs.declared.objects.Format.{Format}
use Rattle.kms_model.specs.declared.objects.Format.TheVariants.{Xr24, Ar24, Rg16}
use Rattle.kms_model.specs.declared.objects.Kind.TheVariants.{Plane}
use Rattle.kms_model.specs.declared.objects.Mode.{Mode}
use Rattle.kms_model.specs.declared.objects.Topology.{Topology}
use Rattle.kms_model.specs.declared.pictures.FbInfo.{FbInfo}
use Rattle.kms_model.specs.declared.pictures.Picture.{Picture}
use Rattle.kms_model.specs.declared.pictures.Picture.TheVariants.{Off, On}
use Rattle.kms_model.specs.declared.states.CrtcState.{CrtcState}
use Rattle.kms_model.specs.declared.states.PlaneState.{PlaneState}
use Rattle.kms_model.specs.Device.ModeBytes.{mode_bytes, mode_held}
use Rattle.kms_model.specs.Device.Objects.{ids_of, index_of}
use Rattle.kms_model.specs.Device.Properties.{format_of}
use Rattle.kms_model.specs.Device.States.{natural}
use Rattle.kms_model.specs.Frames.Pictures.{layers_with, shown_with}
use Rattle.kms_model.specs.declared.objects.Gamma.{Gamma}

-- the words of a plane
pub record PlaneWords : Type 0 where
  -- 0, or the CRTC's id
  pub crtc : ℕ
  -- the framebuffer's id, or 0; its width and height in pixels, and the code of its format
  pub fb : ℕ
  pub fb_width : ℕ
  pub fb_height : ℕ
  pub fb_format : ℕ
  -- the destination in pixels; its place in two's complement
  pub x : ℕ
  pub y : ℕ
  pub w : ℕ
  pub h : ℕ
  -- the source in 16.16 fixed point
  pub src_x : ℕ
  pub src_y : ℕ
  pub src_w : ℕ
  pub src_h : ℕ
  pub alpha : ℕ
  pub blend : ℕ
  pub zpos : ℕ

-- the words of a CRTC
pub record CrtcWords : Type 0 where
  -- 0 or 1
  pub active : ℕ
  -- 0, or the connector's id
  pub conn : ℕ
  -- the 17 little-endian words of the bytes of its mode, all 0 without a mode
  pub mode : List ℕ
  -- 0 or 1: whether it has a gamma table
  pub gamma_on : ℕ
  -- the 192 little-endian words of the 256 values of red, of green and of blue, all 0 without a table
  pub gamma : List ℕ

-- The code of a format. From: `drm_fourcc.h`.
abbrev pub code_of : Format → ℕ
code_of Xr24 = 0x34325258
code_of Ar24 = 0x34325241
code_of Rg16 = 0x36314752

abbrev pub fb_number : (FbInfo → ℕ) → Option FbInfo → ℕ
fb_number number fb = option_map_or number fb 0

-- the words of a plane in a state
unfoldable pub plane_words : PlaneState → PlaneWords
plane_words s = record {
  crtc = s.crtc;
  fb = fb_number (λ fb. fb.id) s.fb;
  fb_width = fb_number (λ fb. fb.width) s.fb;
  fb_height = fb_number (λ fb. fb.height) s.fb;
  fb_format = fb_number (λ fb. code_of fb.format) s.fb;
  x = cast_unsigned w32 s.dst.x;
  y = cast_unsigned w32 s.dst.y;
  w = natural s.dst.w;
  h = natural s.dst.h;
  src_x = natural s.src.x;
  src_y = natural s.src.y;
  src_w = natural s.src.w;
  src_h = natural s.src.h;
  alpha = s.alpha;
  blend = s.blend;
  zpos = s.zpos;
}

-- the format of a code, that of the first row of the table where no row has it
abbrev pub format_in : ℕ → Format
format_in code = option_map_or (λ format. format) (format_of code) Xr24

abbrev pub fb_in : PlaneWords → Option FbInfo
fb_in p =
    if p.fb == 0 then None
    else Some (record { id = p.fb; width = p.fb_width; height = p.fb_height; format = format_in p.fb_format })

-- the state of a plane that has these words
unfoldable pub plane_in : PlaneWords → PlaneState
plane_in p = record {
  fb = fb_in p;
  crtc = p.crtc;
  dst = record { x = cast_signed w32 p.x; y = cast_signed w32 p.y; w = pos p.w; h = pos p.h };
  src = record { x = pos p.src_x; y = pos p.src_y; w = pos p.src_w; h = pos p.src_h };
  alpha = p.alpha;
  blend = p.blend;
  zpos = p.zpos;
}

-- the words of bytes, four at a time
unfoldable pub words_of_bytes : List ℕ → List ℕ
words_of_bytes (a ∷ b ∷ c ∷ d ∷ bytes) = from_le_bytes w32 (a ∷ b ∷ c ∷ d ∷ []) ∷ words_of_bytes bytes
words_of_bytes _ = []

abbrev pub bytes_of_words : List ℕ → List ℕ
bytes_of_words words = flat_map (to_le_bytes w32) words

abbrev pub no_mode_words : List ℕ
no_mode_words = replicate 17 0

abbrev pub mode_words : Option Mode → List ℕ
mode_words None = no_mode_words
mode_words (Some m) = words_of_bytes (mode_bytes m)

-- the bytes of a gamma table: the values of red, then those of green, then those of blue
abbrev pub gamma_bytes : Gamma → List ℕ
gamma_bytes g = g.red ++ (g.green ++ g.blue)

abbrev pub no_gamma_words : List ℕ
no_gamma_words = replicate 192 0

abbrev pub gamma_words : Option Gamma → List ℕ
gamma_words None = no_gamma_words
gamma_words (Some g) = words_of_bytes (gamma_bytes g)

-- the words of a CRTC in a state, with the connector whose CRTC it is, or 0
unfoldable pub crtc_words : ℕ → CrtcState → CrtcWords
crtc_words conn s = record {
  active = one_if s.active;
  conn = conn;
  mode = mode_words s.mode;
  gamma_on = one_if (is_some s.gamma);
  gamma = gamma_words s.gamma;
}

-- the mode that a CRTC's words hold
abbrev pub mode_in_words : CrtcWords → Mode
mode_in_words c = mode_held (bytes_of_words c.mode)

-- the gamma table that bytes hold, red before green before blue
abbrev pub gamma_with : List ℕ → Gamma
gamma_with bytes = record { red = slice_range bytes 0 256; green = slice_range bytes 256 512; blue = slice_range bytes 512 768 }

-- the gamma table that a CRTC's words hold, where it has one
abbrev pub gamma_in_words : CrtcWords → Option Gamma
gamma_in_words c = if c.gamma_on == 1 then Some (gamma_with (bytes_of_words c.gamma)) else None

-- Tables by id: the newest row of an id counts, and a default where there is none

unfoldable pub read : {A : Type 0} → A → List (ℕ × A) → ℕ → A
read d [] id = d
read d (row ∷ rows) id = if row.0 == id then row.1 else read d rows id

-- the words of planes and CRTCs
pub record Registers : Type 0 where
  pub planes : List (ℕ × PlaneWords)
  pub crtcs : List (ℕ × CrtcWords)

-- at the start all words are 0, but a plane's alpha, 65535, and its zpos, which is its index
abbrev pub first_plane_words : ℕ → PlaneWords
first_plane_words plane = record {
  crtc = 0;
  fb = 0;
  fb_width = 0;
  fb_height = 0;
  fb_format = 0;
  x = 0;
  y = 0;
  w = 0;
  h = 0;
  src_x = 0;
  src_y = 0;
  src_w = 0;
  src_h = 0;
  alpha = 65535;
  blend = 0;
  zpos = index_of plane;
}

abbrev pub first_crtc_words : CrtcWords
first_crtc_words = record { active = 0; conn = 0; mode = no_mode_words; gamma_on = 0; gamma = no_gamma_words }

abbrev pub first_registers : Registers
first_registers = record { planes = []; crtcs = [] }

abbrev pub plane_register : Registers → ℕ → PlaneWords
plane_register rs plane = read (first_plane_words plane) rs.planes plane

abbrev pub crtc_register : Registers → ℕ → CrtcWords
crtc_register rs crtc = read first_crtc_words rs.crtcs crtc

abbrev pub write_plane : Registers → ℕ → PlaneWords → Registers
write_plane rs plane words = record rs { planes = (plane, words) ∷ rs.planes }

abbrev pub write_crtc : Registers → ℕ → CrtcWords → Registers
write_crtc rs crtc words = record rs { crtcs = (crtc, words) ∷ rs.crtcs }

-- Latches

-- a latch at a CRTC copies the words of a plane that is on it in the live or in the shadow words
abbrev pub is_copied : Registers → Registers → ℕ → ℕ → Bool
is_copied shadow live crtc plane = ((plane_register live plane).crtc == crtc) || ((plane_register shadow plane).crtc == crtc)

unfoldable pub copied_planes : Registers → Registers → ℕ → List ℕ → List (ℕ × PlaneWords)
copied_planes shadow live crtc [] = live.planes
copied_planes shadow live crtc (plane ∷ planes) =
    if is_copied shadow live crtc plane then (plane, plane_register shadow plane) ∷ copied_planes shadow live crtc planes
    else copied_planes shadow live crtc planes

-- the live words after a latch at a CRTC
abbrev pub latched_registers : Topology → Registers → Registers → ℕ → Registers
latched_registers t shadow live crtc = record {
  planes = copied_planes shadow live crtc (ids_of t Plane);
  crtcs = (crtc, crtc_register shadow crtc) ∷ live.crtcs;
}

-- a CRTC is on in its words
abbrev pub is_on_in : Registers → ℕ → Bool
is_on_in rs crtc = not ((crtc_register rs crtc).active == 0)

abbrev pub shown_in_words : Topology → Registers → ℕ → CrtcWords → Picture
shown_in_words t rs crtc c =
    let m = mode_in_words c in
    On (shown_with m c.conn (gamma_in_words c) (layers_with (λ plane. plane_in (plane_register rs plane)) m crtc (ids_of t Plane)))

-- the picture that words show at a CRTC
unfoldable pub decoded_picture : Topology → Registers → ℕ → Picture
decoded_picture t rs crtc = if is_on_in rs crtc then shown_in_words t rs crtc (crtc_register rs crtc) else Off
