-- The parts of a mode's bytes. From: `drm_mode.h`, struct drm_mode_modeinfo.
use Rattle.std.specs.Prelude.{ℕ, List, ◌++◌}
use Rattle.std.specs.Int.{w16, w32, to_le_bytes}
use Rattle.kms_model.specs.declared.objects.Mode.{Mode}

-- the clock and the columns
abbrev pub front_bytes : Mode → List ℕ
front_bytes m =
    to_le_bytes w32 m.clock
    ++ (to_le_bytes w16 m.hdisplay ++ (to_le_bytes w16 m.hsync_start
    ++ (to_le_bytes w16 m.hsync_end ++ (to_le_bytes w16 m.htotal ++ to_le_bytes w16 m.hskew))))

-- the rows
abbrev pub middle_bytes : Mode → List ℕ
middle_bytes m =
    to_le_bytes w16 m.vdisplay
    ++ (to_le_bytes w16 m.vsync_start ++ (to_le_bytes w16 m.vsync_end ++ (to_le_bytes w16 m.vtotal ++ to_le_bytes w16 m.vscan)))

-- the refresh rate, the flags, the type and the name
abbrev pub back_bytes : Mode → List ℕ
back_bytes m = to_le_bytes w32 m.vrefresh ++ (to_le_bytes w32 m.flags ++ (to_le_bytes w32 m.kind ++ m.name))
