-- Legal modes. From: `drm_mode.h`, struct drm_mode_modeinfo; drm_mode_validate_basic.
use Rattle.std.specs.Prelude.{ℕ, Bool, true, false, ◌&&◌, nat_lt, nat_le, nat_eq, List, [], ◌∷◌, ◌++◌, replicate, codes, Option, Some, None}
use Rattle.std.specs.Cmp.Lexicographic.{pointwise}
use Rattle.kms_model.specs.declared.objects.Mode.{Mode}

-- 0 < display <= start of the sync <= its end <= total
abbrev pub is_axis : ℕ → ℕ → ℕ → ℕ → Bool
is_axis display start end total = nat_lt 0 display && (nat_le display start && (nat_le start end && nat_le end total))

-- both axes and the clock are legal, and no side passes 4096 pixels
abbrev pub is_legal_mode : Mode → Bool
is_legal_mode m =
    is_axis m.hdisplay m.hsync_start m.hsync_end m.htotal
    && (is_axis m.vdisplay m.vsync_start m.vsync_end m.vtotal
    && (nat_lt 0 m.clock
    && (nat_le m.hdisplay 4096 && nat_le m.vdisplay 4096)))

-- a mode of a clock, this many pixels in a row and this many rows, with nothing around them
abbrev pub plain_mode : ℕ → ℕ → ℕ → List ℕ → Mode
plain_mode clock columns rows name = record {
  clock = clock;
  hdisplay = columns;
  hsync_start = columns;
  hsync_end = columns;
  htotal = columns;
  hskew = 0;
  vdisplay = rows;
  vsync_start = rows;
  vsync_end = rows;
  vtotal = rows;
  vscan = 0;
  vrefresh = 60;
  flags = 0;
  kind = 0;
  name = name;
}

-- the 1920x1080 mode of CEA-861
abbrev pub full_hd : Mode
full_hd = record {
  clock = 148500;
  hdisplay = 1920;
  hsync_start = 2008;
  hsync_end = 2052;
  htotal = 2200;
  hskew = 0;
  vdisplay = 1080;
  vsync_start = 1084;
  vsync_end = 1089;
  vtotal = 1125;
  vscan = 0;
  vrefresh = 60;
  flags = 5;
  kind = 64;
  name = codes "1920x1080" ++ replicate 23 0;
}

-- all contents of a mode
abbrev pub mode_numbers : Mode → List ℕ
mode_numbers m = m.clock ∷ m.hdisplay ∷ m.hsync_start ∷ m.hsync_end ∷ m.htotal ∷ m.hskew ∷ m.vdisplay ∷ m.vsync_start ∷ m.vsync_end
    ∷ m.vtotal ∷ m.vscan ∷ m.vrefresh ∷ m.flags ∷ m.kind ∷ []

-- equal lists of numbers
abbrev pub same_numbers : List ℕ → List ℕ → Bool
same_numbers = pointwise nat_eq

-- Two modes are the same where all their contents are, whichever blobs hold them.
abbrev pub same_mode : Option Mode → Option Mode → Bool
same_mode None None = true
same_mode None (Some b) = false
same_mode (Some a) None = false
same_mode (Some a) (Some b) = same_numbers (mode_numbers a) (mode_numbers b) && same_numbers a.name b.name
