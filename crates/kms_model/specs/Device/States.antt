-- The states of display objects, read from the values.
use Rattle.std.specs.Prelude.{ℕ, ◌==◌, ℤ, pos, negsuc, List, [], ◌∷◌, Option, Some, None, if◌then◌else◌}
use Rattle.kms_model.specs.declared.objects.Mode.{Mode}
use Rattle.kms_model.specs.declared.pictures.FbInfo.{FbInfo}
use Rattle.kms_model.specs.declared.properties.TheConstants.{FB_ID, CRTC_ID, CRTC_X, CRTC_Y, CRTC_W, CRTC_H, SRC_X, SRC_Y, SRC_W, SRC_H}
use Rattle.kms_model.specs.declared.properties.TheConstants.{ALPHA, BLEND, ZPOS, MODE_ID, GAMMA_LUT}
use Rattle.kms_model.specs.declared.states.PlaneState.{PlaneState}
use Rattle.kms_model.specs.declared.worlds.Content.{Content}
use Rattle.kms_model.specs.declared.worlds.Content.TheVariants as content
use Rattle.kms_model.specs.declared.worlds.Setting.{Setting}
use Rattle.kms_model.specs.declared.worlds.Thing.{Thing}
use Rattle.std.specs.Result.{result_ok}
use Rattle.kms_model.specs.Device.ModeBytes.{decoded}
use Rattle.kms_model.specs.Device.World.{value, thing_numbered}
use Rattle.kms_model.specs.Device.GammaBytes.{gamma_of_bytes}
use Rattle.kms_model.specs.declared.objects.Gamma.{Gamma}

-- a number that is not negative
abbrev pub natural : ℤ → ℕ
natural (pos n) = n
natural (negsuc n) = 0

abbrev pub framebuffer_in : Content → Option FbInfo
framebuffer_in (content.Framebuffer info buffer) = Some info
framebuffer_in _ = None

abbrev pub framebuffer_of : Option Thing → Option FbInfo
framebuffer_of (Some t) = framebuffer_in t.content
framebuffer_of None = None

-- the mode that a blob holds, if any
abbrev pub mode_in : Content → Option Mode
mode_in (content.Mode m) = Some m
mode_in (content.Blob bytes) = result_ok (decoded bytes)
mode_in _ = None

abbrev pub mode_of : Option Thing → Option Mode
mode_of (Some t) = mode_in t.content
mode_of None = None

-- the gamma table that a blob holds, if any
abbrev pub gamma_in : Content → Option Gamma
gamma_in (content.Blob bytes) = gamma_of_bytes bytes
gamma_in _ = None

abbrev pub gamma_of : Option Thing → Option Gamma
gamma_of (Some t) = gamma_in t.content
gamma_of None = None

-- the gamma table of a CRTC, by its content
abbrev pub gamma_at : List Thing → List Setting → ℕ → Option Gamma
gamma_at things values crtc = gamma_of (thing_numbered things (value values crtc GAMMA_LUT))

-- the mode of a CRTC, by its content
abbrev pub mode_at : List Thing → List Setting → ℕ → Option Mode
mode_at things values crtc = mode_of (thing_numbered things (value values crtc MODE_ID))

-- the CRTC of a plane or a connector, 0 without one
abbrev pub crtc_at : List Setting → ℕ → ℕ
crtc_at values object = natural (value values object CRTC_ID)

-- the state of a plane with a framebuffer, where property q has the value v q
abbrev pub plane_with : (ℕ → ℤ) → Option FbInfo → PlaneState
plane_with v fb = record {
  fb = fb;
  crtc = natural (v CRTC_ID);
  dst = record { x = v CRTC_X; y = v CRTC_Y; w = v CRTC_W; h = v CRTC_H };
  src = record { x = v SRC_X; y = v SRC_Y; w = v SRC_W; h = v SRC_H };
  alpha = natural (v ALPHA);
  blend = natural (v BLEND);
  zpos = natural (v ZPOS);
}

-- the state of a plane where property q has the value v q
abbrev pub plane_from : (ℕ → ℤ) → List Thing → PlaneState
plane_from v things = plane_with v (framebuffer_of (thing_numbered things (v FB_ID)))

-- the state of a plane
abbrev pub plane_at : List Thing → List Setting → ℕ → PlaneState
plane_at things values plane = plane_from (value values plane) things

-- the first of some connectors whose CRTC it is, 0 without one
abbrev pub connector_on : List Setting → ℕ → List ℕ → ℕ
connector_on values crtc [] = 0
connector_on values crtc (conn ∷ conns) = if crtc_at values conn == crtc then conn else connector_on values crtc conns
