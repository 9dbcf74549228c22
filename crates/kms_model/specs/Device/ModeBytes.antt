-- The bytes of a mode, all numbers little-endian. From: `drm_mode.h`, struct drm_mode_modeinfo, whose fields stand one
-- behind the other without gaps.
use Rattle.std.specs.Prelude.{ℕ, ◌+◌, not, ◌&&◌, ◌==◌, ◌<◌, nat_le, List, ◌++◌, length, slice_range, Result, Ok, Err, if◌then◌else◌}
use Rattle.std.specs.List.{AllByRecursion}
use Rattle.std.specs.Int.{w16, w32, to_le_bytes, from_le_bytes}
use Rattle.kms_model.specs.declared.objects.Mode.{Mode}
use Rattle.kms_model.specs.declared.things.BadMode.{BadMode}
use Rattle.kms_model.specs.declared.things.BadMode.TheVariants.{Length, Horizontal, Vertical, Clock, Size}
use Rattle.kms_model.specs.Device.Modes.{is_axis}

-- numbers below 256
abbrev pub AreBytes : List ℕ → Type 0
AreBytes bytes = AllByRecursion (λ byte. byte < 256) bytes

-- the 68 bytes of a mode
abbrev pub mode_bytes : Mode → List ℕ
mode_bytes m =
    to_le_bytes w32 m.clock
    ++ (to_le_bytes w16 m.hdisplay ++ (to_le_bytes w16 m.hsync_start
    ++ (to_le_bytes w16 m.hsync_end ++ (to_le_bytes w16 m.htotal ++ (to_le_bytes w16 m.hskew
    ++ (to_le_bytes w16 m.vdisplay ++ (to_le_bytes w16 m.vsync_start
    ++ (to_le_bytes w16 m.vsync_end ++ (to_le_bytes w16 m.vtotal ++ (to_le_bytes w16 m.vscan
    ++ (to_le_bytes w32 m.vrefresh ++ (to_le_bytes w32 m.flags ++ (to_le_bytes w32 m.kind
    ++ m.name)))))))))))))

-- the number of two bytes, and of four, from a place on
abbrev pub two_at : List ℕ → ℕ → ℕ
two_at bytes at = from_le_bytes w16 (slice_range bytes at (at + 2))

abbrev pub four_at : List ℕ → ℕ → ℕ
four_at bytes at = from_le_bytes w32 (slice_range bytes at (at + 4))

-- the mode, legal or not, that 68 bytes hold
abbrev pub mode_held : List ℕ → Mode
mode_held bytes = record {
  clock = four_at bytes 0;
  hdisplay = two_at bytes 4;
  hsync_start = two_at bytes 6;
  hsync_end = two_at bytes 8;
  htotal = two_at bytes 10;
  hskew = two_at bytes 12;
  vdisplay = two_at bytes 14;
  vsync_start = two_at bytes 16;
  vsync_end = two_at bytes 18;
  vtotal = two_at bytes 20;
  vscan = two_at bytes 22;
  vrefresh = four_at bytes 24;
  flags = four_at bytes 28;
  kind = four_at bytes 32;
  name = slice_range bytes 36 68;
}

-- a mode where it is legal, else the first cause that it is not
abbrev pub if_legal : Mode → Result Mode BadMode
if_legal m =
    if not (is_axis m.hdisplay m.hsync_start m.hsync_end m.htotal) then Err Horizontal
    else (if not (is_axis m.vdisplay m.vsync_start m.vsync_end m.vtotal) then Err Vertical
    else (if m.clock == 0 then Err Clock
    else (if not (nat_le m.hdisplay 4096 && nat_le m.vdisplay 4096) then Err Size
    else Ok m)))

-- the legal mode that bytes hold, else the first cause that they hold none
abbrev pub decoded : List ℕ → Result Mode BadMode
decoded bytes = if length bytes == 68 then if_legal (mode_held bytes) else Err Length
