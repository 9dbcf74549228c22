-- The device before the first command is sound.
use Rattle.std.proofs.Common.{◌≡◌, ℕ, ◌+◌, ◌<◌, ◌≤◌, ◌⊎◌, Bool, true, false, List, [], ◌∷◌, ◌++◌, length, None, inl, inr, arith, refl, sym}
use Rattle.std.proofs.Common.{ap, ◌∙◌, subst}
use Rattle.std.specs.Prelude.{◌||◌, ◌==◌, not, ℤ, pos, int_le, filter}
use Rattle.std.specs.List.{list_all, flat_map, range_with_len, All}
use Rattle.std.specs.Ordering.{int_eq}
use Rattle.std.proofs.lemmas.Bool.{eq-eqb, ne_eqb, and_from}
use Rattle.std.proofs.lemmas.Bool.Decides.{Decides-int_eq, nat_tests}
use Rattle.std.proofs.lemmas.List.Elements.{All-head, All-tail}
use Rattle.std.proofs.lemmas.List.Folds.{list_all-append}
use Rattle.kms_model.specs.declared.objects.Kind.{Kind}
use Rattle.kms_model.specs.declared.objects.Kind.TheVariants as kind
use Rattle.kms_model.specs.declared.objects.PlaneInfo.{PlaneInfo}
use Rattle.kms_model.specs.declared.objects.Topology.{Topology}
use Rattle.kms_model.specs.declared.properties.TheConstants.{FB_ID, CRTC_ID, ACTIVE, GAMMA_LUT, MODE_ID}
use Rattle.kms_model.specs.declared.states.PlaneState.{PlaneState}
use Rattle.kms_model.specs.declared.worlds.Setting.{Setting}
use Rattle.kms_model.specs.Device.Objects.{first_id, count_of, ids_of}
use Rattle.kms_model.specs.Device.Properties.{Property, properties}
use Rattle.kms_model.specs.Device.World.{value, start_crtc, start_plane, start_planes, start_conn, start}
use Rattle.kms_model.specs.Device.States.{natural, mode_at, crtc_at, plane_at}
use Rattle.kms_model.specs.Request.Apply.{is_kept}
use Rattle.kms_model.specs.Request.Named.{needs_modeset}
use Rattle.kms_model.specs.Device.Sound.{HasPlaneKind, IsDevice, is_held, empty_request, IsLawful}
use Rattle.kms_model.specs.Request.Checks.{with_ids, conns_on, plane_refusal, plane_refusal_at, crtc_refusal_at, conn_refusal_at}
use Rattle.kms_model.specs.Request.Checks.{clone_refusal_at, route_refusal_at, shown_refusal, shown_refusal_at, late_refusal}
use Rattle.kms_model.proofs.Items.{IsIn, IsObject, ids-in, list_all-at, list_any-none, or_else-nones, none-number_if, first_some-none}
use Rattle.kms_model.proofs.AppliedValues.{ComesFrom, value-cases}
use Rattle.kms_model.proofs.HeldValues.{IsKeptRow, HoldsAll, kept_row, are_held-from}
use Rattle.kms_model.proofs.SoundKept.{needs_modeset-self, verdict-empty}
use Rattle.kms_model.proofs.TouchedLemmas.{few_objects}

-- All settings pass a test

list_all-flat_map : (test : Setting → Bool) (f : ℕ → List Setting) (ns : List ℕ) → ((n : ℕ) → list_all test (f n) ≡ true)
    → list_all test (flat_map f ns) ≡ true
list_all-flat_map test f [] each = refl
list_all-flat_map test f (n ∷ ns) each = list_all-append test (f n) (flat_map f ns) ∙ and_from (list_all test (f n))
    (list_all test (flat_map f ns)) (each n) (list_all-flat_map test f ns each)

planes-pass : (test : Setting → Bool) (index : ℕ) (infos : List PlaneInfo) → index + length infos ≤ 256 → All HasPlaneKind infos
    → ((i : ℕ) (info : PlaneInfo) → i ≤ 255 → info.kind ≤ 2 → list_all test (start_plane i info) ≡ true)
    → list_all test (start_planes index infos) ≡ true
planes-pass test index [] few kinds each = refl
planes-pass test index (info ∷ infos) few kinds each =
    list_all-append test (start_plane index info) (start_planes (index + 1) infos)
    ∙ and_from (list_all test (start_plane index info)) (list_all test (start_planes (index + 1) infos))
    (each index info (omega arith) (All-head HasPlaneKind info infos kinds))
    (planes-pass test (index + 1) infos (omega arith) (All-tail HasPlaneKind info infos kinds) each)

start-passes : (test : Setting → Bool) (t : Topology) → IsDevice t
    → ((i : ℕ) → list_all test (start_crtc i) ≡ true)
    → ((i : ℕ) (info : PlaneInfo) → i ≤ 255 → info.kind ≤ 2 → list_all test (start_plane i info) ≡ true)
    → ((i : ℕ) → list_all test (start_conn i) ≡ true)
    → list_all test (start t).values ≡ true
start-passes test t device crtcs planes conns =
    let c : List Setting = flat_map start_crtc (range_with_len 0 (count_of t kind.Crtc)) in
    let p : List Setting = start_planes 0 t.planes in
    let n : List Setting = flat_map start_conn (range_with_len 0 (count_of t kind.Conn)) in
    list_all-append test (c ++ p) n
    ∙ and_from (list_all test (c ++ p)) (list_all test n)
    (list_all-append test c p ∙ and_from (list_all test c) (list_all test p)
    (list_all-flat_map test start_crtc (range_with_len 0 (count_of t kind.Crtc)) crtcs)
    (planes-pass test 0 t.planes (omega (arith, (few_objects t device).planes)) device.kinds planes))
    (list_all-flat_map test start_conn (range_with_len 0 (count_of t kind.Conn)) conns)

-- Each value is held

-- the setting's number is among the values of its property
abbrev starts_held : Topology → Setting → Bool
starts_held t s = list_all (λ p. not (p.id == s.prop) || (not (is_kept p.id) || is_held t [] p.id p.range s.number)) properties

crtc-starts_held : (t : Topology) (i : ℕ) → list_all (starts_held t) (start_crtc i) ≡ true
crtc-starts_held t i = refl

conn-starts_held : (t : Topology) (i : ℕ) → list_all (starts_held t) (start_conn i) ≡ true
conn-starts_held t i = refl

int_le-le : (m n : ℕ) → m ≤ n → int_le (pos m) (pos n) ≡ true
int_le-le m n h = grind (arith, nat_tests)

plane-starts_held : (t : Topology) (i : ℕ) (info : PlaneInfo) → i ≤ 255 → info.kind ≤ 2 → list_all (starts_held t) (start_plane i info)
    ≡ true
plane-starts_held t i info few kinds = rw (
  int_le-le 0 info.kind (omega arith),
  int_le-le info.kind 2 kinds,
  int_le-le 0 i (omega arith),
  int_le-le i 255 few,
) refl

zero-held : (t : Topology) → list_all (λ p. not (is_kept p.id) || is_held t [] p.id p.range (pos 0)) properties ≡ true
zero-held t = refl

implied : (a b : Bool) → a ≡ true → (not a || b) ≡ true → b ≡ true
implied true b is holds = holds
implied false b is holds = absurd cc

start-held : (t : Topology) (object : ℕ) (p : Property) → IsDevice t → IsKeptRow p
    → is_held t [] p.id p.range (value (start t).values object p.id) ≡ true
start-held t object p device row = go (value (start t).values object p.id) (value-cases (start t).values object p.id)
  where
    passed : list_all (starts_held t) (start t).values ≡ true
    passed = start-passes (starts_held t) t device (crtc-starts_held t) (plane-starts_held t) (conn-starts_held t)

    from_setting : (number : ℤ) → ComesFrom (start t).values p.id number → is_held t [] p.id p.range number ≡ true
    from_setting number from =
        let all : starts_held t from.from ≡ true = list_all-at (starts_held t) (start t).values from.from passed from.is_in in
        let one = list_all-at (λ q. not (q.id == from.from.prop) || (not (is_kept q.id) || is_held t [] q.id q.range from.from.number))
        properties p all row.is_in in
        subst (λ n. is_held t [] p.id p.range n ≡ true) from.has_number
        (implied (is_kept p.id) _ row.kept (implied (p.id == from.from.prop) _ (eq-eqb p.id from.from.prop (sym from.of_prop)) one))

    go : (number : ℤ) → (number ≡ pos 0) ⊎ ComesFrom (start t).values p.id number → is_held t [] p.id p.range number ≡ true
    go number (inl nowhere) = subst (λ n. is_held t [] p.id p.range n ≡ true) (sym nowhere)
        (implied (is_kept p.id) _ row.kept (list_all-at (λ q. not (is_kept q.id) || is_held t [] q.id q.range (pos 0)) properties p
        (zero-held t) row.is_in))
    go number (inr from) = from_setting number from

all-start : (t : Topology) (k : Kind) → IsDevice t → HoldsAll t [] (start t).values k
all-start t k device = record { at = λ object p is row. start-held t object p device (kept_row k p row) }

-- Nothing is on

-- a property that is 0 at the start
abbrev pub is_zero_prop : ℕ → Bool
is_zero_prop prop = (prop == FB_ID) || ((prop == CRTC_ID) || ((prop == ACTIVE) || ((prop == MODE_ID) || (prop == GAMMA_LUT))))

abbrev starts_zero : Setting → Bool
starts_zero s = not (is_zero_prop s.prop) || int_eq s.number (pos 0)

pub start-zero : (t : Topology) (object prop : ℕ) → IsDevice t → is_zero_prop prop ≡ true → value (start t).values object prop ≡ pos 0
start-zero t object prop device is = go (value (start t).values object prop) (value-cases (start t).values object prop)
  where
    passed : list_all starts_zero (start t).values ≡ true
    passed = start-passes starts_zero t device (λ i. refl) (λ i info few kinds. refl) (λ i. refl)

    from_setting : (number : ℤ) → ComesFrom (start t).values prop number → number ≡ pos 0
    from_setting number from =
        let one : starts_zero from.from ≡ true = list_all-at starts_zero (start t).values from.from passed from.is_in in
        sym from.has_number ∙ (Decides-int_eq from.from.number (pos 0)).0
        (implied (is_zero_prop from.from.prop) _ (ap is_zero_prop from.of_prop ∙ is) one)

    go : (number : ℤ) → (number ≡ pos 0) ⊎ ComesFrom (start t).values prop number → number ≡ pos 0
    go number (inl nowhere) = nowhere
    go number (inr from) = from_setting number from

pub start-crtc : (t : Topology) (object : ℕ) → IsDevice t → crtc_at (start t).values object ≡ 0
start-crtc t object device = ap natural (start-zero t object CRTC_ID device refl)

none_on : (values : List Setting) (crtc : ℕ) (conns : List ℕ) → ((conn : ℕ) → crtc_at values conn ≡ 0) → 0 < crtc
    → filter (λ conn. crtc_at values conn == crtc) conns ≡ []
none_on values crtc [] off some = refl
none_on values crtc (conn ∷ conns) off some = rw (off conn, ne_eqb 0 crtc (λ e. omega arith), none_on values crtc conns off some) refl

crtc-above : (t : Topology) (crtc : ℕ) → IsIn crtc (ids_of t kind.Crtc) → 0 < crtc
crtc-above t crtc is = let o : IsObject t kind.Crtc crtc = ids-in t kind.Crtc crtc is in omega (arith, o.same)

start-clones : (t : Topology) (crtc : ℕ) → IsDevice t → IsIn crtc (ids_of t kind.Crtc) → conns_on t (start t).values crtc ≡ []
start-clones t crtc device is = none_on (start t).values crtc (ids_of t kind.Conn) (λ conn. start-crtc t conn device) (crtc-above t crtc is)

off-plane : (info : PlaneInfo) (s : PlaneState) → s.fb ≡ None → s.crtc ≡ 0 → plane_refusal info s s ≡ None
unfolding plane_refusal
off-plane info s fb crtc = rw (fb, crtc) refl

off-shown : (profile : ℕ) (mode : _) (s : PlaneState) → s.crtc ≡ 0 → shown_refusal profile mode s ≡ None
unfolding shown_refusal
off-shown profile mode s crtc = rw crtc refl

start-accepted : (t : Topology) → IsDevice t → late_refusal t [] (start t).values (start t).values empty_request ≡ None
unfolding late_refusal
start-accepted t device =
    let values : List Setting = (start t).values in
    or_else-nones _ _ (first_some-none (plane_refusal_at [] values values) (with_ids (first_id kind.Plane) t.planes)
    (λ p is. off-plane p.1 (plane_at [] values p.0) refl (start-crtc t p.0 device)))
    (or_else-nones _ _ (first_some-none (crtc_refusal_at [] values values empty_request) (ids_of t kind.Crtc)
    (λ crtc is. rw (start-zero t crtc ACTIVE device refl) refl))
    (or_else-nones _ _ (first_some-none (conn_refusal_at values) (with_ids (first_id kind.Conn) t.conns)
    (λ c is. rw (start-crtc t c.0 device) refl))
    (or_else-nones _ _ (first_some-none (clone_refusal_at t values) (ids_of t kind.Crtc)
    (λ crtc is. rw (start-clones t crtc device is) refl))
    (or_else-nones _ _ (first_some-none (route_refusal_at t [] values) (ids_of t kind.Crtc)
    (λ crtc is. rw (start-clones t crtc device is) refl))
    (or_else-nones _ _ (first_some-none (shown_refusal_at t.profile [] values) (ids_of t kind.Plane)
    (λ plane is. off-shown t.profile (mode_at [] values (crtc_at values plane)) (plane_at [] values plane) (start-crtc t plane device)))
    (none-number_if 24 _ (list_any-none (needs_modeset t [] values values) (ids_of t kind.Crtc)
    (λ crtc is. needs_modeset-self t [] values crtc))))))))

-- The device of one thread is sound before the first command.
pub start_is_lawful : (t : Topology) → IsDevice t → IsLawful t (start t)
start_is_lawful t device = record {
  sound = record {
    held = are_held-from t [] (start t).values (record
        { crtcs = all-start t kind.Crtc device; planes = all-start t kind.Plane device; conns = all-start t kind.Conn device });
    accepted = verdict-empty t (start t) (start-accepted t device);
  };
  numbered = record { things = tt; next = refl };
}
