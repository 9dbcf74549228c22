-- What a request sets, where a function tells what its labels name. From: "Atomic Mode Setting"; `drm_atomic_uapi.c`,
-- drm_atomic_plane_set_property, drm_atomic_crtc_set_property, drm_atomic_connector_set_property.
use Rattle.std.specs.Prelude.{ℕ, Bool, ◌&&◌, ◌==◌, ℤ, pos, List, [], ◌∷◌, Option, Some, None, if◌then◌else◌}
use Rattle.std.specs.List.{list_any, filter_map}
use Rattle.std.specs.Option.{option_map}
use Rattle.kms_model.specs.declared.objects.Kind.TheVariants as kind
use Rattle.kms_model.specs.declared.objects.Mode.{Mode}
use Rattle.kms_model.specs.declared.objects.ObjId.{ObjId}
use Rattle.kms_model.specs.declared.objects.Topology.{Topology}
use Rattle.kms_model.specs.declared.pictures.FbInfo.{FbInfo}
use Rattle.kms_model.specs.declared.properties.TheConstants.{FB_ID, CRTC_ID, MODE_ID, IN_FENCE_FD, GAMMA_LUT}
use Rattle.kms_model.specs.declared.scripts.Assign.{Assign}
use Rattle.kms_model.specs.declared.scripts.Value.{Value}
use Rattle.kms_model.specs.declared.scripts.Value.TheVariants.{Num, Named, Crtc}
use Rattle.kms_model.specs.declared.sets.Set.{Set}
use Rattle.kms_model.specs.declared.sets.SetValue.{SetValue}
use Rattle.kms_model.specs.declared.sets.SetValue.TheVariants as to
use Rattle.kms_model.specs.declared.worlds.Look.{Look}
use Rattle.kms_model.specs.declared.worlds.Look.TheVariants as look
use Rattle.kms_model.specs.declared.worlds.Setting.{Setting}
use Rattle.kms_model.specs.Script.Words.{◌>>=◌}
use Rattle.kms_model.specs.Device.Objects.{object_id, ids_of}
use Rattle.kms_model.specs.Device.World.{put}
use Rattle.kms_model.specs.Request.Lookups.{label_of}
use Rattle.kms_model.specs.Request.Apply.{object_of, prop_of, is_kept}
use Rattle.kms_model.specs.Request.Touched.{last_value, out_fence_label}
use Rattle.kms_model.specs.declared.objects.Gamma.{Gamma}

-- what a label names in a list of labels with what they name
unfoldable pub look_in : List (ℕ × Look) → ℕ → Look
look_in [] label = look.Missing
look_in (l ∷ ls) label = if l.0 == label then l.1 else look_in ls label

abbrev pub fb_of_look : Look → Option FbInfo
fb_of_look (look.Fb info) = Some info
fb_of_look _ = None

abbrev pub mode_of_look : Look → Option Mode
mode_of_look (look.Mode m id) = Some m
mode_of_look _ = None

abbrev pub gamma_of_look : Look → Option Gamma
gamma_of_look (look.Gamma g id) = Some g
gamma_of_look _ = None

abbrev pub fence_of_look : Look → Option ℕ
fence_of_look (look.Fence id) = Some id
fence_of_look _ = None

abbrev pub fb_value : (ℕ → Look) → Value → Option FbInfo
fb_value f (Named label) = fb_of_look (f label)
fb_value f _ = None

abbrev pub mode_value : (ℕ → Look) → Value → Option Mode
mode_value f (Named label) = mode_of_look (f label)
mode_value f _ = None

abbrev pub gamma_value : (ℕ → Look) → Value → Option Gamma
gamma_value f (Named label) = gamma_of_look (f label)
gamma_value f _ = None

abbrev pub crtc_value : Value → ℕ
crtc_value (Crtc index) = object_id kind.Crtc index
crtc_value _ = 0

abbrev pub number_value : Value → ℤ
number_value (Num n) = n
number_value _ = pos 0

-- what a property is set to by a value that is among its values
abbrev pub set_value : (ℕ → Look) → ℕ → Value → SetValue
set_value f prop v =
    if prop == FB_ID then to.Fb (fb_value f v)
    else (if prop == MODE_ID then to.Mode (mode_value f v)
    else (if prop == GAMMA_LUT then to.Gamma (gamma_value f v)
    else (if prop == CRTC_ID then to.Crtc (crtc_value v)
    else (if is_kept prop then to.Num (number_value v)
    else to.Fence))))

abbrev pub obj_id : ℕ → ObjId
obj_id id = record { 0 = id }

-- what one assignment sets
abbrev pub set_of : (ℕ → Look) → Assign → Set
set_of f a = record { object = obj_id (object_of a); prop = prop_of a.prop; value = set_value f (prop_of a.prop) a.value }

-- two assignments set one property of one object
abbrev pub has_target_of : Assign → Assign → Bool
has_target_of a b = (object_of a == object_of b) && (prop_of a.prop == prop_of b.prop)

-- What assignments set, without what a later one of them sets again.
unfoldable pub last_sets : (ℕ → Look) → List Assign → List Set
last_sets f [] = []
last_sets f (a ∷ assigns) = if list_any (has_target_of a) assigns then last_sets f assigns else set_of f a ∷ last_sets f assigns

-- the fence that the commit waits for on behalf of a plane
abbrev pub in_fence : (ℕ → Look) → List Assign → ℕ → Option ℕ
in_fence f assigns plane = do
  v ← last_value assigns plane IN_FENCE_FD
  label ← label_of v
  fence_of_look (f label)

-- the planes for which assignments name a fence, each with the fence's id, in order
unfoldable pub in_fences : Topology → (ℕ → Look) → List Assign → List (ObjId × ℕ)
in_fences t f assigns = filter_map (λ plane. option_map (λ fence. (obj_id plane, fence)) (in_fence f assigns plane)) (ids_of t kind.Plane)

-- the CRTCs for which assignments ask for an out-fence, each with the label that it gets, in order
unfoldable pub out_fences : Topology → List Assign → List (ObjId × ℕ)
out_fences t assigns = filter_map (λ crtc. option_map (λ label. (obj_id crtc, label)) (out_fence_label assigns crtc)) (ids_of t kind.Crtc)

-- the values after a property of an object is set to what stands for a number
abbrev pub set_in : List Setting → Set → ℤ → List Setting
set_in values s number = if is_kept s.prop then put values s.object.0 s.prop number else values
