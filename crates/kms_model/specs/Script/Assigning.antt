-- Assignments that take objects off. From: `drm_atomic.c`, __drm_atomic_helper_disable_plane; `drm_atomic_helper.c`,
-- drm_atomic_helper_disable_plane, drm_atomic_helper_disable_all.
use Rattle.std.specs.Prelude.{ℕ, pos, List, [], ◌∷◌}
use Rattle.kms_model.specs.declared.objects.Kind.TheVariants.{Crtc, Plane, Conn}
use Rattle.kms_model.specs.declared.properties.TheConstants.{ACTIVE, MODE_ID, CRTC_ID, FB_ID}
use Rattle.kms_model.specs.declared.scripts.Assign.{Assign}
use Rattle.kms_model.specs.declared.scripts.Value.{Value}
use Rattle.kms_model.specs.declared.scripts.Value.TheVariants.{Num}
use Rattle.kms_model.specs.Script.Generated.{assigns_to}

-- no framebuffer, no mode, no CRTC, not active
abbrev pub unset : Value
unset = Num (pos 0)

abbrev pub plane_off : ℕ → List Assign
plane_off plane = assigns_to Plane plane FB_ID unset ∷ assigns_to Plane plane CRTC_ID unset ∷ []

abbrev pub conn_off : ℕ → Assign
conn_off conn = assigns_to Conn conn CRTC_ID unset

abbrev pub crtc_off : ℕ → List Assign
crtc_off crtc = assigns_to Crtc crtc ACTIVE unset ∷ assigns_to Crtc crtc MODE_ID unset ∷ []
