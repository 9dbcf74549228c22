-- A mode whose fields are within the widths that they have in its bytes. From: `drm_mode.h`, struct drm_mode_modeinfo.
use Rattle.std.specs.Prelude.{◌≡◌, ◌<◌, ◌^◌, length}
use Rattle.kms_model.specs.declared.objects.Mode.{Mode}

pub record FitsFront (m : Mode) : Type 0 where
  pub clock : m.clock < 2 ^ 32
  pub hdisplay : m.hdisplay < 2 ^ 16
  pub hsync_start : m.hsync_start < 2 ^ 16
  pub hsync_end : m.hsync_end < 2 ^ 16
  pub htotal : m.htotal < 2 ^ 16
  pub hskew : m.hskew < 2 ^ 16

pub record FitsMiddle (m : Mode) : Type 0 where
  pub vdisplay : m.vdisplay < 2 ^ 16
  pub vsync_start : m.vsync_start < 2 ^ 16
  pub vsync_end : m.vsync_end < 2 ^ 16
  pub vtotal : m.vtotal < 2 ^ 16
  pub vscan : m.vscan < 2 ^ 16

pub record FitsBack (m : Mode) : Type 0 where
  pub vrefresh : m.vrefresh < 2 ^ 32
  pub flags : m.flags < 2 ^ 32
  pub kind : m.kind < 2 ^ 32
  pub name : length m.name ≡ 32

-- the fields of a mode are within their types
pub record FitsTypes (m : Mode) : Type 0 where
  pub front : FitsFront m
  pub middle : FitsMiddle m
  pub back : FitsBack m
