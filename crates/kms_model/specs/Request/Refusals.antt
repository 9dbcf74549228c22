-- The refusals of a request that its flags, its assignments and what its labels name decide, before any state is looked
-- at. Their numbers and their order are this device's own. From: `drm_atomic_uapi.c`, drm_mode_atomic_ioctl,
-- drm_atomic_set_property.
use Rattle.std.specs.Prelude.{ℕ, Bool, true, false, not, ◌&&◌, ◌==◌, pos, int_le, List, [], ◌∷◌, Option, Some, None}
use Rattle.std.specs.List.{list_any}
use Rattle.std.specs.Ordering.{int_eq}
use Rattle.kms_model.specs.declared.objects.Kind.{Kind}
use Rattle.kms_model.specs.declared.objects.Kind.TheVariants as kind
use Rattle.kms_model.specs.declared.objects.Topology.{Topology}
use Rattle.kms_model.specs.declared.properties.TheConstants.{FB_ID, GAMMA_LUT, IN_FENCE_FD, MODE_ID, OUT_FENCE_PTR}
use Rattle.kms_model.specs.declared.ranges.Range.{Range}
use Rattle.kms_model.specs.declared.ranges.Range.TheVariants.{Numbers, Thing, CrtcName}
use Rattle.kms_model.specs.declared.scripts.Assign.{Assign}
use Rattle.kms_model.specs.declared.scripts.PropRef.{PropRef}
use Rattle.kms_model.specs.declared.scripts.PropRef.TheVariants.{Known, Unknown}
use Rattle.kms_model.specs.declared.scripts.Request.{Request}
use Rattle.kms_model.specs.declared.scripts.Value.{Value}
use Rattle.kms_model.specs.declared.scripts.Value.TheVariants.{Num, Named, New, Crtc}
use Rattle.kms_model.specs.declared.worlds.Look.{Look}
use Rattle.kms_model.specs.declared.worlds.Look.TheVariants as look
use Rattle.kms_model.specs.declared.replies.TheConstants.Refusal.{UNKNOWN_FLAG, ASYNC_FLIP, TEST_WITH_EVENT, NO_OBJECT, NO_PROPERTY}
use Rattle.kms_model.specs.declared.replies.TheConstants.Refusal.{IMMUTABLE_PROPERTY, INVALID_VALUE, SECOND_IN_FENCE}
use Rattle.kms_model.specs.Firsts.{or_else, refused_if}
use Rattle.kms_model.specs.Request.Flags.{wants_event, is_async, is_test}
use Rattle.kms_model.specs.Device.Objects.{exists}
use Rattle.kms_model.specs.Device.Properties.{Property, property, property_in, same_kind, are_flags}
use Rattle.kms_model.specs.Request.Apply.{object_of, prop_of}

-- what is wrong with the flags: there is another bit; PAGE_FLIP_ASYNC is set; TEST_ONLY and PAGE_FLIP_EVENT are set
abbrev pub flags_refusal : ℕ → Option ℕ
flags_refusal flags =
    or_else (refused_if UNKNOWN_FLAG (not (are_flags flags)))
    (or_else (refused_if ASYNC_FLIP (is_async flags))
    (refused_if TEST_WITH_EVENT (is_test flags && wants_event flags)))

-- a row of the table is a property of objects of a kind
abbrev pub is_of_kind : Kind → Option Property → Bool
is_of_kind kind None = false
is_of_kind kind (Some p) = list_any (same_kind kind) p.kinds

-- an object of a kind has a property, on a device
abbrev pub has_property : Topology → Kind → PropRef → Bool
has_property t kind (Known id) = is_of_kind kind (property_in t.profile id)
has_property t kind (Unknown name) = false

abbrev pub is_immutable_row : Option Property → Bool
is_immutable_row None = false
is_immutable_row (Some p) = p.immutable

-- no request may set the property
abbrev pub is_immutable : PropRef → Bool
is_immutable prop = is_immutable_row (property (prop_of prop))

-- What a label names is what the property takes: FB_ID an open framebuffer, MODE_ID an open blob that holds a legal
-- mode, GAMMA_LUT an open blob of 2048 bytes, IN_FENCE_FD a fence.
abbrev pub takes : ℕ → Look → Bool
takes prop (look.Fb info) = prop == FB_ID
takes prop (look.Mode m id) = prop == MODE_ID
takes prop (look.Gamma g id) = prop == GAMMA_LUT
takes prop (look.Fence id) = prop == IN_FENCE_FD
takes prop (look.Blob id) = false
takes prop (look.Buffer id) = false
takes prop look.Missing = false
takes prop look.Closed = false

-- a value is among those of a range, where a function tells what labels name
abbrev pub is_in_range : Topology → (ℕ → Look) → ℕ → Range → Value → Bool
is_in_range t f prop (Numbers low high) (Num n) = int_le low n && int_le n high
is_in_range t f prop (Numbers low high) (Named label) = false
is_in_range t f prop (Numbers low high) (New label) = false
is_in_range t f prop (Numbers low high) (Crtc index) = false
is_in_range t f prop CrtcName (Num n) = int_eq n (pos 0)
is_in_range t f prop CrtcName (Named label) = false
is_in_range t f prop CrtcName (New label) = false
is_in_range t f prop CrtcName (Crtc index) = exists t kind.Crtc index
is_in_range t f prop (Thing none) (Num n) = int_eq n none
is_in_range t f prop (Thing none) (Named label) = takes prop (f label)
is_in_range t f prop (Thing none) (New label) = prop == OUT_FENCE_PTR
is_in_range t f prop (Thing none) (Crtc index) = false

abbrev pub is_in_range_of : Topology → (ℕ → Look) → Value → Option Property → Bool
is_in_range_of t f value None = false
is_in_range_of t f value (Some p) = is_in_range t f p.id p.range value

-- a value is among those of a property
abbrev pub is_value : Topology → (ℕ → Look) → PropRef → Value → Bool
is_value t f prop value = is_in_range_of t f value (property (prop_of prop))

abbrev pub names_label : Value → Bool
names_label (Named label) = true
names_label (Num n) = false
names_label (New label) = false
names_label (Crtc index) = false

-- an assignment names a fence that an object's commit waits for
abbrev pub names_fence : ℕ → Assign → Bool
names_fence object a = (object_of a == object) && ((prop_of a.prop == IN_FENCE_FD) && names_label a.value)

-- IN_FENCE_FD of an object for which one of the earlier assignments named a fence
abbrev pub is_second_fence : List Assign → Assign → Bool
is_second_fence earlier a = (prop_of a.prop == IN_FENCE_FD) && list_any (names_fence (object_of a)) earlier

-- What is wrong with an assignment by itself: the object does not exist; it does not have the property; the property is
-- immutable; the value is not among the property's values.
unfoldable pub own_refusal : Topology → (ℕ → Look) → Assign → Option ℕ
own_refusal t f a =
    or_else (refused_if NO_OBJECT (not (exists t a.kind a.index)))
    (or_else (refused_if NO_PROPERTY (not (has_property t a.kind a.prop)))
    (or_else (refused_if IMMUTABLE_PROPERTY (is_immutable a.prop))
    (refused_if INVALID_VALUE (not (is_value t f a.prop a.value)))))

-- what is wrong with an assignment behind earlier ones: what is wrong with it by itself, or that it is a second fence
unfoldable pub assign_refusal : Topology → (ℕ → Look) → List Assign → Assign → Option ℕ
assign_refusal t f earlier a = or_else (own_refusal t f a) (refused_if SECOND_IN_FENCE (is_second_fence earlier a))

-- the first that is wrong with assignments behind earlier ones, of which the last is the first of the list
unfoldable pub assigns_refusal : Topology → (ℕ → Look) → List Assign → List Assign → Option ℕ
assigns_refusal t f earlier [] = None
assigns_refusal t f earlier (a ∷ assigns) = or_else (assign_refusal t f earlier a) (assigns_refusal t f (a ∷ earlier) assigns)

-- the first early refusal of a request, where a function tells what labels name
unfoldable pub early_refusal : Topology → (ℕ → Look) → Request → Option ℕ
early_refusal t f r = or_else (flags_refusal r.flags) (assigns_refusal t f [] r.assigns)
