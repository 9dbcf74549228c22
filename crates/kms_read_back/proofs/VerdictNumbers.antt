-- The number that refuses a request is one of 1 to 24.
use Rattle.std.proofs.Common.{◌≡◌, ℕ, Bool, true, false, List, [], ◌∷◌, length, Option, Some, None, refl, subst}
use Rattle.std.specs.Prelude.{◌==◌, ◌&&◌, is_none, is_some, nat_lt, not, if◌then◌else◌}
use Rattle.std.specs.List.{list_any}
use Rattle.kms_model.specs.declared.objects.Kind.TheVariants.{Crtc, Plane, Conn}
use Rattle.kms_model.specs.declared.objects.Mode.{Mode}
use Rattle.kms_model.specs.declared.objects.PlaneInfo.{PlaneInfo}
use Rattle.kms_model.specs.declared.objects.Topology.{Topology}
use Rattle.kms_model.specs.declared.pictures.FbInfo.{FbInfo}
use Rattle.kms_model.specs.declared.replies.Refusal.{Refusal}
use Rattle.kms_model.specs.declared.replies.TheConstants.Refusal.{UNKNOWN_FLAG, ASYNC_FLIP, TEST_WITH_EVENT, NO_OBJECT, NO_PROPERTY}
use Rattle.kms_model.specs.declared.replies.TheConstants.Refusal.{IMMUTABLE_PROPERTY, INVALID_VALUE, SECOND_IN_FENCE, EVENT_WITHOUT_CRTC}
use Rattle.kms_model.specs.declared.replies.TheConstants.Refusal.{FRAMEBUFFER_XOR_CRTC, CRTC_NOT_POSSIBLE, FORMAT_NOT_SUPPORTED}
use Rattle.kms_model.specs.declared.replies.TheConstants.Refusal.{DESTINATION_TOO_FAR, SOURCE_OUTSIDE_FRAMEBUFFER, SWITCHES_CRTC}
use Rattle.kms_model.specs.declared.replies.TheConstants.Refusal.{ACTIVE_WITHOUT_MODE, SIGNAL_WHILE_OFF, CONNECTOR_NOT_POSSIBLE}
use Rattle.kms_model.specs.declared.replies.TheConstants.Refusal.{CLONED_CONNECTORS, MODE_XOR_CONNECTOR, CRTC_NOT_ENABLED, SCALED}
use Rattle.kms_model.specs.declared.replies.TheConstants.Refusal.{FRACTIONAL_SOURCE, MODESET_NOT_ALLOWED}
use Rattle.kms_model.specs.declared.scripts.Assign.{Assign}
use Rattle.kms_model.specs.declared.scripts.Request.{Request}
use Rattle.kms_model.specs.declared.states.PlaneState.{PlaneState}
use Rattle.kms_model.specs.declared.worlds.Look.{Look}
use Rattle.kms_model.specs.declared.worlds.Setting.{Setting}
use Rattle.kms_model.specs.declared.worlds.Thing.{Thing}
use Rattle.kms_model.specs.declared.worlds.World.{World}
use Rattle.kms_model.specs.Device.Masks.{has_bit}
use Rattle.kms_model.specs.Device.Objects.{exists, first_id, ids_of}
use Rattle.kms_model.specs.Device.Properties.{are_flags}
use Rattle.kms_model.specs.Device.States.{crtc_at, mode_at, plane_at}
use Rattle.kms_model.specs.Firsts.{first_some, number_if, or_else, refused_if}
use Rattle.kms_model.specs.Frames.Rectangles.{fits_source}
use Rattle.kms_model.specs.Request.Apply.{after}
use Rattle.kms_model.specs.Request.Checks.{clone_refusal_at, conn_refusal_at, conns_on, crtc_refusal_at, event_refusal, has_crtc, has_sizes}
use Rattle.kms_model.specs.Request.Checks.{has_start, is_active, is_beyond, late_refusal, modeset_refusal, placed_refusal, plane_refusal}
use Rattle.kms_model.specs.Request.Checks.{plane_refusal_at, plane_refusal_with, route_refusal_at, shown_refusal, shown_refusal_at}
use Rattle.kms_model.specs.Request.Checks.{switches_crtc, with_ids}
use Rattle.kms_model.specs.Request.Flags.{allows_modeset, is_async, is_test, wants_event}
use Rattle.kms_model.specs.Request.Lookups.{look_up}
use Rattle.kms_model.specs.Request.Named.{differs, names, needs_modeset}
use Rattle.kms_model.specs.Request.Refusals.{assign_refusal, assigns_refusal, early_refusal, flags_refusal, has_property, is_immutable}
use Rattle.kms_model.specs.Request.Refusals.{is_second_fence, is_value, own_refusal}
use Rattle.kms_model.specs.Request.Touched.{asks_signal}
use Rattle.kms_model.specs.Request.Verdict.{early_in, late_in, verdict}
use Rattle.kms_model.specs.Script.Grammar.{format_bit}
use Rattle.kms_model.specs.Script.Words.{between}

-- a number, if there is one, is between two
abbrev pub IsAmong : ℕ → ℕ → Option ℕ → Type 0
IsAmong low high o = (n : ℕ) → o ≡ Some n → between low high n ≡ true

module _ (low high : ℕ) where
  pub nothing : IsAmong low high None
  nothing n e = absurd cc

  pub just : (k : ℕ) → between low high k ≡ true → IsAmong low high (Some k)
  just k is n e = let same : k ≡ n = cc in subst (λ z. between low high z ≡ true) same is

  pub one-of : (a b : Option ℕ) → IsAmong low high a → IsAmong low high b → IsAmong low high (or_else a b)
  one-of None b A B = B
  one-of (Some x) b A B = A

  pub if-so : (k : ℕ) (b : Bool) → between low high k ≡ true → IsAmong low high (number_if k b)
  if-so k true is = just k is
  if-so k false is = nothing

abbrev pub IsRefusal : Option ℕ → Type 0
IsRefusal o = IsAmong 1 24 o

first-of : (a b : Option ℕ) → IsRefusal a → IsRefusal b → IsRefusal (or_else a b)
first-of = one-of 1 24

refused : (r : Refusal) (b : Bool) → between 1 24 r.0 ≡ true → IsRefusal (refused_if r b)
refused r b is = if-so 1 24 r.0 b is

some-of : {A : Type 0} (f : A → Option ℕ) → ((x : A) → IsRefusal (f x)) → (xs : List A) → IsRefusal (first_some f xs)
some-of f each [] = nothing 1 24
some-of f each (x ∷ xs) = first-of (f x) (first_some f xs) (each x) (some-of f each xs)

flags-are : (flags : ℕ) → IsRefusal (flags_refusal flags)
flags-are flags =
    first-of _ _ (refused UNKNOWN_FLAG (not (are_flags flags)) refl)
    (first-of _ _ (refused ASYNC_FLIP (is_async flags) refl)
    (refused TEST_WITH_EVENT (is_test flags && wants_event flags) refl))

own-are : (t : Topology) (f : ℕ → Look) (a : Assign) → IsRefusal (own_refusal t f a)
unfolding own_refusal
own-are t f a =
    first-of _ _ (refused NO_OBJECT (not (exists t a.kind a.index)) refl)
    (first-of _ _ (refused NO_PROPERTY (not (has_property t a.kind a.prop)) refl)
    (first-of _ _ (refused IMMUTABLE_PROPERTY (is_immutable a.prop) refl)
    (refused INVALID_VALUE (not (is_value t f a.prop a.value)) refl)))

assign-are : (t : Topology) (f : ℕ → Look) (earlier : List Assign) (a : Assign) → IsRefusal (assign_refusal t f earlier a)
unfolding assign_refusal
assign-are t f earlier a = first-of (own_refusal t f a) _ (own-are t f a) (refused SECOND_IN_FENCE (is_second_fence earlier a) refl)

assigns-are : (t : Topology) (f : ℕ → Look) (earlier assigns : List Assign) → IsRefusal (assigns_refusal t f earlier assigns)
unfolding assigns_refusal
assigns-are t f earlier [] = nothing 1 24
assigns-are t f earlier (a ∷ assigns) =
    first-of (assign_refusal t f earlier a) (assigns_refusal t f (a ∷ earlier) assigns) (assign-are t f earlier a)
    (assigns-are t f (a ∷ earlier) assigns)

early-are : (t : Topology) (f : ℕ → Look) (r : Request) → IsRefusal (early_refusal t f r)
unfolding early_refusal
early-are t f r =
    first-of (flags_refusal r.flags) (assigns_refusal t f [] r.assigns) (flags-are r.flags) (assigns-are t f [] r.assigns)

placed-are : (info : PlaneInfo) (fb : FbInfo) (old new : PlaneState) → IsRefusal (placed_refusal info fb old new)
placed-are info fb old new =
    first-of _ _ (refused CRTC_NOT_POSSIBLE (not (has_crtc info.crtcs new.crtc)) refl)
    (first-of _ _ (refused FORMAT_NOT_SUPPORTED (not (has_bit info.formats (format_bit fb.format))) refl)
    (first-of _ _ (refused DESTINATION_TOO_FAR (is_beyond new.dst) refl)
    (first-of _ _ (refused SOURCE_OUTSIDE_FRAMEBUFFER (not (fits_source new.src fb.width fb.height)) refl)
    (refused SWITCHES_CRTC (switches_crtc old.crtc new.crtc) refl))))

plane-with : (info : PlaneInfo) (old new : PlaneState) (fb : Option FbInfo) (off : Bool)
    → IsRefusal (plane_refusal_with info old new fb off)
plane-with info old new None true = nothing 1 24
plane-with info old new None false = just 1 24 FRAMEBUFFER_XOR_CRTC.0 refl
plane-with info old new (Some fb) true = just 1 24 FRAMEBUFFER_XOR_CRTC.0 refl
plane-with info old new (Some fb) false = placed-are info fb old new

plane-are : (info : PlaneInfo) (old new : PlaneState) → IsRefusal (plane_refusal info old new)
unfolding plane_refusal
plane-are info old new = plane-with info old new new.fb (new.crtc == 0)

unless : (b : Bool) (o : Option ℕ) → IsRefusal o → IsRefusal (if b then None else o)
unless true o O = nothing 1 24
unless false o O = O

shown-with : (profile : ℕ) (mode : Option Mode) (s : PlaneState) → IsRefusal (shown_refusal profile mode s)
unfolding shown_refusal
shown-with profile mode s =
    unless (s.crtc == 0) _
    (first-of _ _ (refused CRTC_NOT_ENABLED (is_none mode) refl)
    (first-of _ _ (refused SCALED (not (has_sizes profile s.src s.dst)) refl)
    (refused FRACTIONAL_SOURCE (not (has_start profile s.src)) refl)))

module _ (t : Topology) (things : List Thing) (old new : List Setting) (r : Request) where
  event-is : IsRefusal (event_refusal t old new r)
  event-is = refused EVENT_WITHOUT_CRTC (wants_event r.flags && not (list_any (names old new r.assigns) (ids_of t Crtc))) refl

  modeset-is : IsRefusal (modeset_refusal t things old new r.flags)
  modeset-is =
      refused MODESET_NOT_ALLOWED (not (allows_modeset r.flags) && list_any (needs_modeset t things old new) (ids_of t Crtc)) refl

  plane-at : (p : ℕ × PlaneInfo) → IsRefusal (plane_refusal_at things old new p)
  plane-at p = plane-are p.1 (plane_at things old p.0) (plane_at things new p.0)

  crtc-at : (crtc : ℕ) → IsRefusal (crtc_refusal_at things old new r crtc)
  crtc-at crtc =
      first-of _ _ (refused ACTIVE_WITHOUT_MODE (is_active new crtc && is_none (mode_at things new crtc)) refl)
      (refused SIGNAL_WHILE_OFF (asks_signal old new r crtc && (not (is_active old crtc) && not (is_active new crtc))) refl)

  conn-at : (c : ℕ × ℕ) → IsRefusal (conn_refusal_at new c)
  conn-at c = refused CONNECTOR_NOT_POSSIBLE (not (crtc_at new c.0 == 0) && not (has_crtc c.1 (crtc_at new c.0))) refl

  clone-at : (crtc : ℕ) → IsRefusal (clone_refusal_at t new crtc)
  clone-at crtc = refused CLONED_CONNECTORS (nat_lt 1 (length (conns_on t new crtc))) refl

  route-at : (crtc : ℕ) → IsRefusal (route_refusal_at t things new crtc)
  route-at crtc =
      refused MODE_XOR_CONNECTOR (differs (is_some (mode_at things new crtc)) (nat_lt 0 (length (conns_on t new crtc)))) refl

  shown-at : (plane : ℕ) → IsRefusal (shown_refusal_at t.profile things new plane)
  shown-at plane = shown-with t.profile (mode_at things new (plane_at things new plane).crtc) (plane_at things new plane)

  late-are : IsRefusal (late_refusal t things old new r)
  unfolding late_refusal
  late-are =
      first-of (event_refusal t old new r) _ event-is
      (first-of (first_some (plane_refusal_at things old new) (with_ids (first_id Plane) t.planes)) _
      (some-of (plane_refusal_at things old new) plane-at (with_ids (first_id Plane) t.planes))
      (first-of (first_some (crtc_refusal_at things old new r) (ids_of t Crtc)) _
      (some-of (crtc_refusal_at things old new r) crtc-at (ids_of t Crtc))
      (first-of (first_some (conn_refusal_at new) (with_ids (first_id Conn) t.conns)) _
      (some-of (conn_refusal_at new) conn-at (with_ids (first_id Conn) t.conns))
      (first-of (first_some (clone_refusal_at t new) (ids_of t Crtc)) _ (some-of (clone_refusal_at t new) clone-at (ids_of t Crtc))
      (first-of (first_some (route_refusal_at t things new) (ids_of t Crtc)) _
      (some-of (route_refusal_at t things new) route-at (ids_of t Crtc))
      (first-of (first_some (shown_refusal_at t.profile things new) (ids_of t Plane)) (modeset_refusal t things old new r.flags)
      (some-of (shown_refusal_at t.profile things new) shown-at (ids_of t Plane)) modeset-is))))))

pub verdict-number : (t : Topology) (w : World) (r : Request) → IsRefusal (verdict t w r)
unfolding verdict
verdict-number t w r =
    first-of (early_in t w r) (late_in t w r) (early-are t (look_up w) r) (late-are t w.things w.values (after w r) r)
