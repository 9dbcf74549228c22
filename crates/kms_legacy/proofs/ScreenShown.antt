-- A device whose values are those of a screen shows it.
use Rattle.std.proofs.Common.{◌≡◌, ℕ, zero, suc, ◌+◌, ◌<◌, ◌≤◌, Bool, true, false, inl, inr, List, [], ◌∷◌, cond, length, map, Option, Some}
use Rattle.std.proofs.Common.{None, pos, refl, sym, ap, ◌∙◌, arith}
use Rattle.std.specs.Prelude.{◌==◌, filter, nat_lt, option_map}
use Rattle.std.specs.List.{filter_map, range_with_len}
use Rattle.std.proofs.lemmas.Bool.{eq-eqb}
use Rattle.std.proofs.lemmas.Bool.Decides.{nat_tests}
use Rattle.kms_model.specs.declared.objects.Kind.TheVariants.{Crtc, Plane, Conn}
use Rattle.kms_model.specs.declared.objects.Mode.{Mode}
use Rattle.kms_model.specs.declared.objects.Topology.{Topology}
use Rattle.kms_model.specs.declared.properties.TheConstants.{ACTIVE}
use Rattle.kms_model.specs.declared.states.PlaneState.{PlaneState}
use Rattle.kms_model.specs.declared.worlds.Setting.{Setting}
use Rattle.kms_model.specs.declared.worlds.World.{World}
use Rattle.kms_model.specs.Device.Objects.{first_id, ids_of, indices_of, object_id}
use Rattle.kms_model.specs.Device.Sound.{IsSound, empty_request}
use Rattle.kms_model.specs.Device.States.{connector_on, crtc_at, gamma_at, mode_at, plane_at}
use Rattle.kms_model.specs.Device.World.{value}
use Rattle.kms_model.specs.Frames.Pictures.{layer_of, layers_of, picture, seen_on}
use Rattle.kms_model.specs.Legacy.Screen.{Lit, Placed, Screen, ShowsScreen, lit_at, lit_picture, placed_at, placed_layer, screen_layer}
use Rattle.kms_model.specs.Legacy.Screen.{screen_picture}
use Rattle.kms_model.specs.Firsts.{first_some}
use Rattle.kms_model.specs.Request.Checks.{clone_refusal_at, conn_refusal_at, conns_on, crtc_refusal_at, event_refusal, late_refusal}
use Rattle.kms_model.specs.Request.Checks.{plane_refusal_at, with_ids}
use Rattle.kms_model.specs.Script.Words.{◌>>=◌}
use Rattle.kms_model.proofs.Items.{IsIn, first_some-at, ids-has, number_if-none, or_else-none}
use Rattle.kms_model.proofs.SoundKept.{late-empty}
use Rattle.kms_legacy.proofs.OrderedLayers.{layers_by_index, seen_layer}

-- What a screen has is what the values have

pub record HasPlaced (s : PlaneState) (x : Placed) : Type 0 where
  pub crtc : s.crtc ≡ object_id Crtc x.crtc
  pub fb : s.fb ≡ Some x.fb
  pub dst : s.dst ≡ x.dst
  pub src : s.src ≡ x.src

-- a plane has what the screen has, or is on no CRTC
abbrev pub IsPlaced : PlaneState → Option Placed → Type 0
IsPlaced s None = s.crtc ≡ 0
IsPlaced s (Some x) = HasPlaced s x

-- opaque, Pre-multiplied, and above the planes of lower indices
pub record IsPlainPlane (s : PlaneState) (plane : ℕ) : Type 0 where
  pub alpha : s.alpha ≡ 65535
  pub blend : s.blend ≡ 0
  pub zpos : s.zpos ≡ plane

pub record HasLit (t : Topology) (w : World) (crtc : ℕ) (l : Lit) : Type 0 where
  pub active : value w.values (object_id Crtc crtc) ACTIVE ≡ pos 1
  pub mode : mode_at w.things w.values (object_id Crtc crtc) ≡ Some l.mode
  pub there : l.conn < length t.conns
  pub on : crtc_at w.values (object_id Conn l.conn) ≡ object_id Crtc crtc

-- a CRTC has what the screen has, or is off
abbrev pub IsLit : Topology → World → ℕ → Option Lit → Type 0
IsLit t w crtc None = value w.values (object_id Crtc crtc) ACTIVE ≡ pos 0
IsLit t w crtc (Some l) = HasLit t w crtc l

-- the values of a world are those of a screen
pub record IsScreenOf (t : Topology) (screen : Screen) (w : World) : Type 0 where
  pub plain : (plane : ℕ) → plane < length t.planes → IsPlainPlane (plane_at w.things w.values (object_id Plane plane)) plane
  pub placed : (plane : ℕ) → plane < length t.planes
      → IsPlaced (plane_at w.things w.values (object_id Plane plane)) (placed_at screen plane)
  pub lit : (crtc : ℕ) → crtc < t.crtcs → IsLit t w crtc (lit_at screen crtc)
  pub gamma : (crtc : ℕ) → crtc < t.crtcs → gamma_at w.things w.values (object_id Crtc crtc) ≡ None

-- Connectors

-- a passing item makes a list of those that pass longer
some_passes : (p : ℕ → Bool) (xs : List ℕ) (x : ℕ) → IsIn x xs → p x ≡ true → 1 ≤ length (filter p xs)
some_passes p [] x is passes = absurd is
some_passes p (y ∷ ys) x (inl same) passes = let own : p y ≡ true = ap p same ∙ passes in rw own (omega arith)
some_passes p (y ∷ ys) x (inr rest) passes = step (p y) (some_passes p ys x rest passes)
  where
    step : (t : Bool) → 1 ≤ length (filter p ys) → 1 ≤ length (cond t (y ∷ filter p ys) (filter p ys))
    step true le = omega (arith, le)
    step false le = le

-- where no two connectors have a CRTC, the first one that has it is any that has it
pub only_conn : (values : List Setting) (crtc : ℕ) (conns : List ℕ) (x : ℕ) → IsIn x conns → (crtc_at values x == crtc) ≡ true
    → length (filter (λ conn. crtc_at values conn == crtc) conns) ≤ 1 → connector_on values crtc conns ≡ x
only_conn values crtc [] x is on few = absurd is
only_conn values crtc (y ∷ ys) x is on few = step (crtc_at values y == crtc) refl is few (only_conn values crtc ys x)
  where
    later : IsIn x ys → 1 ≤ length (filter (λ conn. crtc_at values conn == crtc) ys)
    later rest = some_passes (λ conn. crtc_at values conn == crtc) ys x rest on

    step : (t : Bool) → (crtc_at values y == crtc) ≡ t → IsIn x (y ∷ ys)
        → length (cond t (y ∷ filter (λ conn. crtc_at values conn == crtc) ys) (filter (λ conn. crtc_at values conn == crtc) ys)) ≤ 1
        → (IsIn x ys → (crtc_at values x == crtc) ≡ true → length (filter (λ conn. crtc_at values conn == crtc) ys) ≤ 1
        → connector_on values crtc ys ≡ x)
        → cond t y (connector_on values crtc ys) ≡ x
    step true own (inl same) few again = same
    step true own (inr rest) few again = absurd (omega (arith, few, later rest))
    step false own (inl same) few again = absurd (let clash : false ≡ true = sym own ∙ (ap (λ n. crtc_at values n == crtc) same ∙ on) in cc)
    step false own (inr rest) few again = again rest on few

-- Layers

crtc_same : (a b : ℕ) → (object_id Crtc a == object_id Crtc b) ≡ (a == b)
crtc_same a b = grind (arith, nat_tests)

pub off_crtc : (b : ℕ) → (0 == object_id Crtc b) ≡ false
off_crtc b = grind (arith, nat_tests)

picked : (t : Bool) (m : Mode) (plane : ℕ) (s : PlaneState) (x : Placed) → IsPlainPlane s plane → HasPlaced s x
    → option_map (layer_of m (object_id Plane plane) s) (cond t s.fb None) ≡ cond t (Some (placed_layer m plane x)) None
picked true m plane s x plain has = rw (has.fb, has.dst, has.src, plain.alpha, plain.blend) refl
picked false m plane s x plain has = refl

layer_same : (m : Mode) (crtc plane : ℕ) (s : PlaneState) (o : Option Placed) → IsPlainPlane s plane → IsPlaced s o
    → option_map (layer_of m (object_id Plane plane) s)
    (seen_on (object_id Crtc crtc) s) ≡ (o >>= (λ x. cond (x.crtc == crtc) (Some (placed_layer m plane x)) None))
layer_same m crtc plane s None plain placed = rw (placed, off_crtc crtc) refl
layer_same m crtc plane s (Some x) plain placed =
    ap (λ (t : Bool). option_map (layer_of m (object_id Plane plane) s) (cond t s.fb None))
    (ap (λ n. n == object_id Crtc crtc) placed.crtc ∙ crtc_same x.crtc crtc)
    ∙ picked (x.crtc == crtc) m plane s x plain placed

layers_same : {A : Type 0} (f g : ℕ → Option A) (from n : ℕ) → ((index : ℕ) → from ≤ index → index < from + n → f index ≡ g index)
    → filter_map f (range_with_len from n) ≡ filter_map g (range_with_len from n)
layers_same f g from zero same = refl
layers_same f g from (suc n) same =
    rw (
      same from (omega arith) (omega arith),
      layers_same f g (from + 1) n
          (λ index low high. same index (omega (arith, low)) (omega (arith, high))),
    ) refl

-- Pictures

pub no_clones : (t : Topology) (w : World) (crtc : ℕ) → IsSound t w → crtc < t.crtcs
    → length (conns_on t w.values (object_id Crtc crtc)) ≤ 1
unfolding late_refusal
no_clones t w crtc sound lt =
    let events = or_else-none (event_refusal t w.values w.values empty_request) _ (late-empty t w sound.accepted) in
    let planes = or_else-none (first_some (plane_refusal_at w.things w.values w.values) (with_ids (first_id Plane) t.planes)) _
    events.second_none in
    let crtcs = or_else-none (first_some (crtc_refusal_at w.things w.values w.values empty_request) (ids_of t Crtc)) _ planes.second_none in
    let conns = or_else-none (first_some (conn_refusal_at w.values) (with_ids (first_id Conn) t.conns)) _ crtcs.second_none in
    let clones = or_else-none (first_some (clone_refusal_at t w.values) (ids_of t Crtc)) _ conns.second_none in
    let one = first_some-at (clone_refusal_at t w.values) (ids_of t Crtc) (object_id Crtc crtc) clones.first_none
    (ids-has t Crtc crtc lt) in
    at_most (length (conns_on t w.values (object_id Crtc crtc))) (number_if-none 19 _ one)
  where
    at_most : (n : ℕ) → nat_lt 1 n ≡ false → n ≤ 1
    at_most n e = grind (arith, nat_tests)

-- the connector of a CRTC that is lit
lit_conn : (t : Topology) (w : World) (crtc : ℕ) (l : Lit) → IsSound t w → crtc < t.crtcs → HasLit t w crtc l
    → connector_on w.values (object_id Crtc crtc) (ids_of t Conn) ≡ object_id Conn l.conn
lit_conn t w crtc l sound lt has =
    only_conn w.values (object_id Crtc crtc) (ids_of t Conn) (object_id Conn l.conn) (ids-has t Conn l.conn has.there) (eq-eqb _ _ has.on)
    (no_clones t w crtc sound lt)

shown_layers : (t : Topology) (screen : Screen) (w : World) (m : Mode) (crtc : ℕ) → IsScreenOf t screen w
    → map (λ l. l.1) (layers_of w.things w.values m (object_id Crtc crtc) (ids_of t Plane)) ≡ filter_map (screen_layer screen m crtc)
    (indices_of t Plane)
shown_layers t screen w m crtc is =
    layers_by_index (plane_at w.things w.values) m (object_id Crtc crtc) (length t.planes) (λ index lt. (is.plain index lt).zpos)
    ∙ layers_same (λ index. seen_layer (plane_at w.things w.values) m (object_id Crtc crtc) (object_id Plane index))
    (screen_layer screen m crtc) 0 (length t.planes)
    (λ index low high. layer_same m crtc index (plane_at w.things w.values (object_id Plane index)) (placed_at screen index)
    (is.plain index (omega (arith, high))) (is.placed index (omega (arith, high))))

lit_same : (t : Topology) (screen : Screen) (w : World) (crtc : ℕ) (o : Option Lit) → IsSound t w → crtc < t.crtcs → IsScreenOf t screen w
    → IsLit t w crtc o
    → picture t w.things w.values (object_id Crtc crtc) ≡ lit_picture t screen crtc o
unfolding picture
lit_same t screen w crtc None sound lt is dark = rw dark refl
lit_same t screen w crtc (Some l) sound lt is has =
    rw (has.active, has.mode, lit_conn t w crtc l sound lt has, is.gamma crtc lt, shown_layers t screen w l.mode crtc is) refl

pub shows : (t : Topology) (screen : Screen) (w : World) → IsSound t w → IsScreenOf t screen w → ShowsScreen t w screen
unfolding ShowsScreen screen_picture
shows t screen w sound is crtc lt = lit_same t screen w crtc (lit_at screen crtc) sound lt is (is.lit crtc lt)
