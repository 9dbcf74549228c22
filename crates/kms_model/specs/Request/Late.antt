-- The late refusals of duplicated states: those of the objects of a set, in the order of their indices. From:
-- `drm_atomic.c`, drm_atomic_check_only; `drm_atomic_helper.c`, drm_atomic_helper_check_modeset,
-- drm_atomic_helper_check_planes.
use Rattle.std.specs.Prelude.{ℕ, ◌-◌, ◌<◌, Bool, false, not, ◌&&◌, ◌||◌, ◌==◌, nat_lt, List, length, filter, is_some, slice_get, Option}
use Rattle.std.specs.Prelude.{Some, None, IfSome, if◌then◌else◌}
use Rattle.std.specs.List.{list_any, range_with_len}
use Rattle.std.specs.Option.{option_and_then}
use Rattle.kms_model.specs.Device.Places.{state_at}
use Rattle.kms_model.specs.declared.objects.Kind.TheVariants.{Crtc, Plane, Conn}
use Rattle.kms_model.specs.declared.objects.Mode.{Mode}
use Rattle.kms_model.specs.declared.objects.Topology.{Topology}
use Rattle.kms_model.specs.declared.states.Both.{Both}
use Rattle.kms_model.specs.declared.states.ConnState.{ConnState}
use Rattle.kms_model.specs.declared.states.CrtcState.{CrtcState}
use Rattle.kms_model.specs.declared.states.Duplicates.{Duplicates}
use Rattle.kms_model.specs.declared.states.Mask.{Mask}
use Rattle.kms_model.specs.declared.states.PlaneState.{PlaneState}
use Rattle.kms_model.specs.declared.replies.TheConstants.Refusal.{EVENT_WITHOUT_CRTC, CLONED_CONNECTORS, MODE_XOR_CONNECTOR}
use Rattle.kms_model.specs.declared.replies.TheConstants.Refusal.{MODESET_NOT_ALLOWED}
use Rattle.kms_model.specs.Firsts.{or_else, first_some, refused_if}
use Rattle.kms_model.specs.Request.Flags.{wants_event, allows_modeset}
use Rattle.kms_model.specs.Device.Masks.{has_bit}
use Rattle.kms_model.specs.Device.Modes.{same_mode}
use Rattle.kms_model.specs.Request.Named.{differs}
use Rattle.kms_model.specs.Device.Objects.{first_id, count_of}
use Rattle.kms_model.specs.Device.Sound.{IsPlaneInRange}
use Rattle.kms_model.specs.Request.Checks.{plane_refusal, crtc_refusal, conn_refusal, shown_refusal}

-- what is duplicated of an object of a set
abbrev pub duplicate_in : {S : Type 0} → ℕ → List (Option (Both S)) → ℕ → Option (Both S)
duplicate_in mask states index = if has_bit mask index then state_at states index else None

-- how many of the first n objects are in a set
abbrev pub members : ℕ → ℕ → ℕ
members mask n = length (filter (has_bit mask) (range_with_len 0 n))

abbrev pub plane_refusal_of : Topology → ℕ → Both PlaneState → Option ℕ
plane_refusal_of t index both = option_and_then (λ info. plane_refusal info both.old both.new) (slice_get t.planes index)

-- `named` and `fenced` are the CRTCs that the request names, and those for which it asks for an out-fence
abbrev pub crtc_refusal_of : ℕ → ℕ → ℕ → ℕ → Both CrtcState → Option ℕ
crtc_refusal_of flags named fenced index both = crtc_refusal (has_bit named index && (wants_event flags || has_bit fenced index))
    both.old.active both.new.active both.new.mode

abbrev pub conn_refusal_of : Topology → ℕ → Both ConnState → Option ℕ
conn_refusal_of t index both = option_and_then (λ possible. conn_refusal possible both.new.crtc) (slice_get t.conns index)

abbrev pub clone_refusal_of : Topology → Both CrtcState → Option ℕ
clone_refusal_of t both = refused_if CLONED_CONNECTORS (nat_lt 1 (members both.new.conns (count_of t Conn)))

abbrev pub route_refusal_of : Both CrtcState → Option ℕ
route_refusal_of both = refused_if MODE_XOR_CONNECTOR (differs (is_some both.new.mode) (not (both.new.conns == 0)))

-- the mode of a CRTC that is duplicated, by its id
abbrev pub new_mode : List (Option (Both CrtcState)) → ℕ → Option Mode
new_mode crtcs id = option_and_then (λ both. both.new.mode) (state_at crtcs (id - first_id Crtc))

abbrev pub shown_refusal_of : ℕ → List (Option (Both CrtcState)) → Both PlaneState → Option ℕ
shown_refusal_of profile crtcs both = shown_refusal profile (new_mode crtcs both.new.crtc) both.new

-- a CRTC that goes from one state to another needs a modeset
abbrev pub needs_modeset_between : Both CrtcState → Bool
needs_modeset_between both = not (same_mode both.old.mode both.new.mode)
    || (differs both.old.active both.new.active || not (both.old.conns == both.new.conns))

abbrev pub needs_modeset_if : Option (Both CrtcState) → Bool
needs_modeset_if None = false
needs_modeset_if (Some both) = needs_modeset_between both

-- the first refusal of the objects of a set, by what is wrong with each of the first n
abbrev pub first_in : {S : Type 0} → ℕ → List (Option (Both S)) → (ℕ → Both S → Option ℕ) → ℕ → Option ℕ
first_in mask states f n = first_some (λ index. option_and_then (f index) (duplicate_in mask states index)) (range_with_len 0 n)

abbrev pub needs_any_modeset : Topology → Duplicates → Mask → Bool
needs_any_modeset t d objects = list_any (λ index. needs_modeset_if (duplicate_in objects.crtcs d.crtcs index))
    (range_with_len 0 (count_of t Crtc))

-- the first late refusal of a set of objects
unfoldable pub late_of_states : Topology → Duplicates → Mask → ℕ → ℕ → ℕ → Option ℕ
late_of_states t d objects flags named fenced =
    or_else (refused_if EVENT_WITHOUT_CRTC (wants_event flags && (named == 0)))
    (or_else (first_in objects.planes d.planes (plane_refusal_of t) (count_of t Plane))
    (or_else (first_in objects.crtcs d.crtcs (crtc_refusal_of flags named fenced) (count_of t Crtc))
    (or_else (first_in objects.conns d.conns (conn_refusal_of t) (count_of t Conn))
    (or_else (first_in objects.crtcs d.crtcs (λ index both. clone_refusal_of t both) (count_of t Crtc))
    (or_else (first_in objects.crtcs d.crtcs (λ index both. route_refusal_of both) (count_of t Crtc))
    (or_else (first_in objects.planes d.planes (λ index both. shown_refusal_of t.profile d.crtcs both) (count_of t Plane))
    (refused_if MODESET_NOT_ALLOWED (not (allows_modeset flags) && needs_any_modeset t d objects))))))))

-- the numbers of the planes of a set are in the ranges of their properties
abbrev pub ArePlanesInRange : Topology → Duplicates → ℕ → Type 0
ArePlanesInRange t d planes = (index : ℕ) → index < count_of t Plane
    → IfSome (duplicate_in planes d.planes index) (λ both. IsPlaneInRange both.new)
