-- Objects that a request does not touch keep passing what they passed in a sound world.
use Rattle.std.proofs.Common.{◌≡◌, ℕ, ◌+◌, ◌*◌, ◌<◌, ◌≤◌, Bool, true, false, List, [], ◌∷◌, length, Option, Some, None, inl, inr, arith}
use Rattle.std.proofs.Common.{refl, sym, ap, ◌∙◌, subst}
use Rattle.std.specs.Prelude.{◌&&◌, ◌==◌, not, pos, is_none, is_some, nat_lt, if◌then◌else◌}
use Rattle.std.specs.Ordering.{int_eq}
use Rattle.std.proofs.lemmas.Bool.{eqb-true, eq-eqb, and_parts, and_from, or_parts, or_from, or_left, cases_Bool, ltb-true}
use Rattle.std.proofs.lemmas.Bool.{not-false, not_from_true, both_ways, false_from_ne_true}
use Rattle.std.proofs.lemmas.Bool.Decides.{Decides-int_eq}
use Rattle.kms_model.specs.declared.objects.Kind.{Kind}
use Rattle.kms_model.specs.declared.objects.Kind.TheVariants as kind
use Rattle.kms_model.specs.declared.objects.Mode.{Mode}
use Rattle.kms_model.specs.declared.objects.PlaneInfo.{PlaneInfo}
use Rattle.kms_model.specs.declared.objects.Topology.{Topology}
use Rattle.kms_model.specs.declared.properties.TheConstants.{ACTIVE, GAMMA_LUT, MODE_ID, CRTC_ID}
use Rattle.kms_model.specs.declared.scripts.Assign.{Assign}
use Rattle.kms_model.specs.declared.scripts.Request.{Request}
use Rattle.kms_model.specs.declared.states.PlaneState.{PlaneState}
use Rattle.kms_model.specs.declared.worlds.World.{World}
use Rattle.kms_model.specs.Firsts.{first_some, number_if}
use Rattle.kms_model.specs.Device.Modes.{same_mode}
use Rattle.kms_model.specs.Device.Objects.{first_id, object_id, count_of, ids_of}
use Rattle.kms_model.specs.Device.Properties.{keeps_limits}
use Rattle.kms_model.specs.Device.World.{thing_numbered, value}
use Rattle.kms_model.specs.Device.States.{gamma_at, gamma_of, natural, mode_at, mode_of, crtc_at, plane_at, plane_from}
use Rattle.kms_model.specs.Request.Lookups.{look_up}
use Rattle.kms_model.specs.Request.Apply.{object_of}
pub use Rattle.kms_model.specs.Request.Apply.{after}
use Rattle.kms_model.specs.Request.Named.{is_routed, moves_on, is_named_by, names, differs, is_rerouted, needs_modeset}
use Rattle.kms_model.specs.Request.Touched.{sets, is_affected, touches_crtc, touches_routed}
use Rattle.kms_model.specs.Request.Refusals.{assigns_refusal, early_refusal}
use Rattle.kms_model.specs.Request.Checks.{with_ids, is_active, conns_on, plane_refusal, plane_refusal_at, crtc_refusal_at, conn_refusal_at}
use Rattle.kms_model.specs.Request.Checks.{clone_refusal_at, route_refusal_at, shown_refusal, shown_refusal_at, event_refusal, late_refusal}
use Rattle.kms_model.specs.Device.Sound.IsCrtcOrNone.{IsNone, IsCrtc}
use Rattle.kms_model.specs.Device.Sound.{IsDevice, IsCrtcOrNone, IsSound, empty_request}
use Rattle.kms_model.proofs.RequestLemmas.{has_few}
use Rattle.kms_model.proofs.Items.{IsIn, IsObject, ids-in, ids-has, or_else-none, first_some-at, list_any-at, list_any-none, list_any-some}
use Rattle.kms_model.proofs.Items.{Passes, filter-same}
use Rattle.kms_model.proofs.AppliedValues.{value-apply_unset}
use Rattle.kms_model.proofs.HeldValues.{IsAccepted, accepted-assign, plain_held-from}
use Rattle.kms_model.proofs.SeenLemmas.{plane_crtc-held, shown-off}
use Rattle.kms_model.proofs.SoundKept.{same_mode-self, differs-self, early-parts, late-empty}

-- a request that the early refusals let through, in a sound world of a device
pub record IsRequestAt (t : Topology) (w : World) (r : Request) : Type 0 where
  pub device : IsDevice t
  pub sound : IsSound t w
  pub early : early_refusal t (look_up w) r ≡ None

-- Objects of several kinds have different ids

pub record HasFewObjects (t : Topology) : Type 0 where
  pub crtcs : t.crtcs ≤ 4
  pub planes : length t.planes ≤ 16
  pub conns : length t.conns ≤ 8

pub few_objects : (t : Topology) → IsDevice t → HasFewObjects t
few_objects t device =
    let few = has_few t (and_parts (keeps_limits t) _ device.legal).0 in
    record { crtcs = few.crtcs; planes = few.planes; conns = few.conns }

pub few_of : (t : Topology) (k : Kind) → HasFewObjects t → count_of t k ≤ 16
few_of t kind.Crtc few = omega (arith, few.crtcs)
few_of t kind.Plane few = few.planes
few_of t kind.Conn few = omega (arith, few.conns)
few_of t kind.Enc few = omega (arith, few.conns)

-- the place of a kind among the hundreds of ids
abbrev place_of : Kind → ℕ
place_of kind.Crtc = 0
place_of kind.Plane = 1
place_of kind.Conn = 2
place_of kind.Enc = 3

abbrev kind_at : ℕ → Kind
kind_at place = if place == 0 then kind.Crtc else (if place == 1 then kind.Plane else (if place == 2 then kind.Conn else kind.Enc))

kind_at-place : (k : Kind) → kind_at (place_of k) ≡ k
kind_at-place kind.Crtc = refl
kind_at-place kind.Plane = refl
kind_at-place kind.Conn = refl
kind_at-place kind.Enc = refl

first_id-place : (k : Kind) → first_id k ≡ 100 + 100 * place_of k
first_id-place kind.Crtc = refl
first_id-place kind.Plane = refl
first_id-place kind.Conn = refl
first_id-place kind.Enc = refl

pub first_id-apart : (j k : Kind) (m n : ℕ) → m < 16 → n < 16 → object_id j m ≡ object_id k n → j ≡ k
first_id-apart j k m n a b same =
    let places : place_of j ≡ place_of k = omega (arith, first_id-place j, first_id-place k) in
    sym (kind_at-place j) ∙ (ap kind_at places ∙ kind_at-place k)

-- the object of an accepted assignment is of one kind
pub kind_of_object : (t : Topology) (w : World) (a : Assign) (k : Kind) (object : ℕ) → IsDevice t → IsAccepted t w a
    → IsIn object (ids_of t k) → object_of a ≡ object → a.kind ≡ k
kind_of_object t w a k object device ok is same =
    let few = few_objects t device in
    let o : IsObject t k object = ids-in t k object is in
    let below : a.index < count_of t a.kind = ltb-true a.index (count_of t a.kind) ok.object_exists in
    let few_a : count_of t a.kind ≤ 16 = few_of t a.kind few in
    let few_k : count_of t k ≤ 16 = few_of t k few in
    first_id-apart a.kind k a.index o.index (omega arith) (omega (arith, o.within)) (same ∙ o.same)

accepted_in : (t : Topology) (w : World) (earlier assigns : List Assign) (a : Assign) → assigns_refusal t (look_up w) earlier assigns ≡ None
    → IsIn a assigns → IsAccepted t w a
unfolding assigns_refusal
accepted_in t w earlier [] a none is = absurd is
accepted_in t w earlier (b ∷ assigns) a none (inl same) = subst (IsAccepted t w) same
    (accepted-assign t w earlier b (or_else-none _ (assigns_refusal t (look_up w) (b ∷ earlier) assigns) none).first_none)
accepted_in t w earlier (b ∷ assigns) a none (inr rest) = accepted_in t w (b ∷ earlier) assigns a
    (or_else-none _ (assigns_refusal t (look_up w) (b ∷ earlier) assigns) none).second_none rest

-- each assignment of the request is accepted
pub accepted-each : (t : Topology) (w : World) (r : Request) (a : Assign) → IsRequestAt t w r → IsIn a r.assigns → IsAccepted t w a
accepted-each t w r a at is = accepted_in t w [] r.assigns a (early-parts t w r at.early).second_none is

-- What is not set stays

pub crtc_at-unset : (w : World) (r : Request) (object : ℕ) → sets r.assigns object ≡ false → crtc_at (after w r) object
    ≡ crtc_at w.values object
crtc_at-unset w r object unset = ap natural (value-apply_unset w.things w.values r.assigns object CRTC_ID unset)

pub plane_at-unset : (w : World) (r : Request) (plane : ℕ) → sets r.assigns plane ≡ false → plane_at w.things (after w r) plane
    ≡ plane_at w.things w.values plane
plane_at-unset w r plane unset = ap (λ v. plane_from v w.things)
    (λ i prop. value-apply_unset w.things w.values r.assigns plane prop unset i)

pub mode_at-unset : (w : World) (r : Request) (crtc : ℕ) → sets r.assigns crtc ≡ false → mode_at w.things (after w r) crtc
    ≡ mode_at w.things w.values crtc
mode_at-unset w r crtc unset = ap (λ n. mode_of (thing_numbered w.things n))
    (value-apply_unset w.things w.values r.assigns crtc MODE_ID unset)

pub gamma_at-unset : (w : World) (r : Request) (crtc : ℕ) → sets r.assigns crtc ≡ false → gamma_at w.things (after w r) crtc
    ≡ gamma_at w.things w.values crtc
gamma_at-unset w r crtc unset = ap (λ n. gamma_of (thing_numbered w.things n))
    (value-apply_unset w.things w.values r.assigns crtc GAMMA_LUT unset)

-- a CRTC that is not named has the same objects of a kind before and after
pub routed-unnamed : (t : Topology) (w : World) (r : Request) (k : Kind) (crtc object : ℕ) → IsRequestAt t w r → is_routed k ≡ true
    → IsIn object (ids_of t k) → names w.values (after w r) r.assigns crtc ≡ false
    → (crtc_at (after w r) object == crtc) ≡ (crtc_at w.values object == crtc)
routed-unnamed t w r k crtc object at routed is unnamed =
    elim (cases_Bool (sets r.assigns object)) [
      | inl set ↦ by_assign (list_any-some (λ a. object_of a == object) r.assigns set)
      | inr unset ↦ ap (λ n. n == crtc) (crtc_at-unset w r object unset)
    ]
  where
    by_assign : Passes (λ a. object_of a == object) r.assigns → (crtc_at (after w r) object == crtc) ≡ (crtc_at w.values object == crtc)
    by_assign found =
        let same : object_of found.item ≡ object = eqb-true (object_of found.item) object found.holds in
        let of_kind : found.item.kind ≡ k = kind_of_object t w found.item k object at.device (accepted-each t w r found.item at found.is_in)
        is same in
        let not_named : is_named_by w.values (after w r) crtc found.item
        ≡ false = list_any-at (is_named_by w.values (after w r) crtc) r.assigns found.item unnamed found.is_in in
        let second : (is_routed found.item.kind && moves_on w.values (after w r) crtc (object_of found.item))
        ≡ false = (or_parts (object_of found.item == crtc) _ not_named).1 in
        let moved : moves_on w.values (after w r) crtc object
        ≡ false = sym (ap (λ j. is_routed j && moves_on w.values (after w r) crtc object) of_kind ∙ ap
        (λ b. b && moves_on w.values (after w r) crtc object) routed) ∙ ap
        (λ o. is_routed found.item.kind && moves_on w.values (after w r) crtc o) (sym same) ∙ second in
        let both = or_parts (crtc_at w.values object == crtc) (crtc_at (after w r) object == crtc) moved in
        both.1 ∙ sym both.0

-- What is accepted in a sound world

pub record Accepts (t : Topology) (w : World) : Type 0 where
  pub planes : (p : ℕ × PlaneInfo) → IsIn p (with_ids (first_id kind.Plane) t.planes) → plane_refusal_at w.things w.values w.values p ≡ None
  pub crtcs : (crtc : ℕ) → IsIn crtc (ids_of t kind.Crtc) → crtc_refusal_at w.things w.values w.values empty_request crtc ≡ None
  pub conns : (c : ℕ × ℕ) → IsIn c (with_ids (first_id kind.Conn) t.conns) → conn_refusal_at w.values c ≡ None
  pub clones : (crtc : ℕ) → IsIn crtc (ids_of t kind.Crtc) → clone_refusal_at t w.values crtc ≡ None
  pub routes : (crtc : ℕ) → IsIn crtc (ids_of t kind.Crtc) → route_refusal_at t w.things w.values crtc ≡ None
  pub shown : (plane : ℕ) → IsIn plane (ids_of t kind.Plane) → shown_refusal_at t.profile w.things w.values plane ≡ None

pub accepts : (t : Topology) (w : World) → IsSound t w → Accepts t w
unfolding late_refusal
accepts t w sound =
    let events = or_else-none (event_refusal t w.values w.values empty_request) _ (late-empty t w sound.accepted) in
    let planes = or_else-none (first_some (plane_refusal_at w.things w.values w.values) (with_ids (first_id kind.Plane) t.planes)) _
    events.second_none in
    let crtcs = or_else-none (first_some (crtc_refusal_at w.things w.values w.values empty_request) (ids_of t kind.Crtc)) _
    planes.second_none in
    let conns = or_else-none (first_some (conn_refusal_at w.values) (with_ids (first_id kind.Conn) t.conns)) _ crtcs.second_none in
    let clones = or_else-none (first_some (clone_refusal_at t w.values) (ids_of t kind.Crtc)) _ conns.second_none in
    let routes = or_else-none (first_some (route_refusal_at t w.things w.values) (ids_of t kind.Crtc)) _ clones.second_none in
    let shown = or_else-none (first_some (shown_refusal_at t.profile w.things w.values) (ids_of t kind.Plane)) _ routes.second_none in
    record {
      planes = λ p is. first_some-at (plane_refusal_at w.things w.values w.values) (with_ids (first_id kind.Plane) t.planes) p
          planes.first_none is;
      crtcs = λ crtc is. first_some-at (crtc_refusal_at w.things w.values w.values empty_request) (ids_of t kind.Crtc) crtc crtcs.first_none
          is;
      conns = λ c is. first_some-at (conn_refusal_at w.values) (with_ids (first_id kind.Conn) t.conns) c conns.first_none is;
      clones = λ crtc is. first_some-at (clone_refusal_at t w.values) (ids_of t kind.Crtc) crtc clones.first_none is;
      routes = λ crtc is. first_some-at (route_refusal_at t w.things w.values) (ids_of t kind.Crtc) crtc routes.first_none is;
      shown = λ plane is. first_some-at (shown_refusal_at t.profile w.things w.values) (ids_of t kind.Plane) plane shown.first_none is;
    }

-- Untouched objects

abbrev pub touches_object : Topology → World → Request → ℕ → Bool
touches_object t w r object = touches_routed t w.things w.values (after w r) r.assigns object

abbrev pub touches : World → Request → ℕ → Bool
touches w r crtc = touches_crtc w.values (after w r) r.assigns crtc

pub untouched-plane : (t : Topology) (w : World) (r : Request) (p : ℕ × PlaneInfo) → IsRequestAt t w r
    → IsIn p (with_ids (first_id kind.Plane) t.planes) → touches_object t w r p.0 ≡ false
    → plane_refusal_at w.things w.values (after w r) p ≡ None
untouched-plane t w r p at is untouched =
    let unset = (or_parts (sets r.assigns p.0) _ untouched).0 in
    ap (plane_refusal p.1 (plane_at w.things w.values p.0)) (plane_at-unset w r p.0 unset) ∙ (accepts t w at.sound).planes p is

is_active-unset : (w : World) (r : Request) (crtc : ℕ) → sets r.assigns crtc ≡ false → is_active (after w r) crtc ≡ is_active w.values crtc
is_active-unset w r crtc unset = ap (λ n. not (int_eq n (pos 0))) (value-apply_unset w.things w.values r.assigns crtc ACTIVE unset)

pub untouched-crtc : (t : Topology) (w : World) (r : Request) (crtc : ℕ) → IsRequestAt t w r → IsIn crtc (ids_of t kind.Crtc)
    → touches w r crtc ≡ false → crtc_refusal_at w.things w.values (after w r) r crtc ≡ None
untouched-crtc t w r crtc at is untouched =
    let parts = or_parts (sets r.assigns crtc) (names w.values (after w r) r.assigns crtc) untouched in
    rw (parts.1, is_active-unset w r crtc parts.0, mode_at-unset w r crtc parts.0) ((accepts t w at.sound).crtcs crtc is)

pub untouched-conn : (t : Topology) (w : World) (r : Request) (c : ℕ × ℕ) → IsRequestAt t w r
    → IsIn c (with_ids (first_id kind.Conn) t.conns) → touches_object t w r c.0 ≡ false → conn_refusal_at (after w r) c ≡ None
untouched-conn t w r c at is untouched =
    let unset = (or_parts (sets r.assigns c.0) _ untouched).0 in
    rw (crtc_at-unset w r c.0 unset) ((accepts t w at.sound).conns c is)

-- the connectors of a CRTC that is not named
pub conns-unnamed : (t : Topology) (w : World) (r : Request) (crtc : ℕ) → IsRequestAt t w r → names w.values (after w r) r.assigns crtc
    ≡ false → conns_on t (after w r) crtc ≡ conns_on t w.values crtc
conns-unnamed t w r crtc at unnamed =
    filter-same (λ conn. crtc_at (after w r) conn == crtc) (λ conn. crtc_at w.values conn == crtc) (ids_of t kind.Conn)
    (λ conn is. routed-unnamed t w r kind.Conn crtc conn at refl is unnamed)

pub untouched-clone : (t : Topology) (w : World) (r : Request) (crtc : ℕ) → IsRequestAt t w r → IsIn crtc (ids_of t kind.Crtc)
    → touches w r crtc ≡ false → clone_refusal_at t (after w r) crtc ≡ None
untouched-clone t w r crtc at is untouched =
    let parts = or_parts (sets r.assigns crtc) (names w.values (after w r) r.assigns crtc) untouched in
    ap (λ conns. number_if 19 (nat_lt 1 (length conns))) (conns-unnamed t w r crtc at parts.1) ∙ (accepts t w at.sound).clones crtc is

pub untouched-route : (t : Topology) (w : World) (r : Request) (crtc : ℕ) → IsRequestAt t w r → IsIn crtc (ids_of t kind.Crtc)
    → touches w r crtc ≡ false → route_refusal_at t w.things (after w r) crtc ≡ None
untouched-route t w r crtc at is untouched =
    let parts = or_parts (sets r.assigns crtc) (names w.values (after w r) r.assigns crtc) untouched in
    ap (λ conns. number_if 20 (differs (is_some (mode_at w.things (after w r) crtc)) (nat_lt 0 (length conns))))
    (conns-unnamed t w r crtc at parts.1)
    ∙ ap (λ m. number_if 20 (differs (is_some m) (nat_lt 0 (length (conns_on t w.values crtc))))) (mode_at-unset w r crtc parts.0)
    ∙ (accepts t w at.sound).routes crtc is

pub untouched-modeset : (t : Topology) (w : World) (r : Request) (crtc : ℕ) → IsRequestAt t w r → touches w r crtc ≡ false
    → needs_modeset t w.things w.values (after w r) crtc ≡ false
untouched-modeset t w r crtc at untouched =
    let parts = or_parts (sets r.assigns crtc) (names w.values (after w r) r.assigns crtc) untouched in
    let modes : same_mode (mode_at w.things w.values crtc) (mode_at w.things (after w r) crtc)
    ≡ true = ap (same_mode (mode_at w.things w.values crtc)) (mode_at-unset w r crtc parts.0) ∙ same_mode-self
    (mode_at w.things w.values crtc) in
    let actives : int_eq (value w.values crtc ACTIVE) (value (after w r) crtc ACTIVE)
    ≡ true = ap (int_eq (value w.values crtc ACTIVE)) (value-apply_unset w.things w.values r.assigns crtc ACTIVE parts.0) ∙
    (Decides-int_eq (value w.values crtc ACTIVE) (value w.values crtc ACTIVE)).1 refl in
    or_from _ _ (not_from_true _ modes) (or_from _ _ (not_from_true _ actives)
    (list_any-none (is_rerouted w.values (after w r) crtc) (ids_of t kind.Conn)
    (λ conn is. ap (differs (crtc_at w.values conn == crtc)) (routed-unnamed t w r kind.Conn crtc conn at refl is parts.1) ∙ differs-self
    (crtc_at w.values conn == crtc))))

same_mode-none : (a b : Option Mode) → same_mode a b ≡ true → is_none a ≡ is_none b
same_mode-none None None same = refl
same_mode-none (Some a) (Some b) same = refl
same_mode-none None (Some b) same = absurd cc
same_mode-none (Some a) None same = absurd cc

shown-modes : (profile : ℕ) (a b : Option Mode) (s : PlaneState) → is_none a ≡ is_none b → shown_refusal profile a s
    ≡ shown_refusal profile b s
unfolding shown_refusal
shown-modes profile a b s same = rw same refl

-- a plane that is not set and whose CRTC needs no modeset
pub untouched-shown : (t : Topology) (w : World) (r : Request) (plane : ℕ) → IsRequestAt t w r → IsIn plane (ids_of t kind.Plane)
    → touches_object t w r plane ≡ false → shown_refusal_at t.profile w.things (after w r) plane ≡ None
untouched-shown t w r plane at is untouched =
    let parts = or_parts (sets r.assigns plane) (is_affected t w.things w.values (after w r) plane) untouched in
    ap (λ s. shown_refusal t.profile (mode_at w.things (after w r) s.crtc) s) (plane_at-unset w r plane parts.0)
    ∙ on_its_crtc (plane_crtc-held t w.things w.values plane (plain_held-from t w.things w.values at.sound.held) is) parts.1
    ∙ (accepts t w at.sound).shown plane is
  where
    on_its_crtc : IsCrtcOrNone t (crtc_at w.values plane) → is_affected t w.things w.values (after w r) plane ≡ false
        → shown_refusal t.profile (mode_at w.things (after w r) (crtc_at w.values plane)) (plane_at w.things w.values plane)
        ≡ shown_refusal t.profile (mode_at w.things w.values (crtc_at w.values plane)) (plane_at w.things w.values plane)
    on_its_crtc (IsNone off) kept = shown-off t.profile _ _ (plane_at w.things w.values plane) off
    on_its_crtc (IsCrtc index within same) kept =
        let crtc : ℕ = crtc_at w.values plane in
        let on : IsIn crtc (ids_of t kind.Crtc) = subst (λ id. IsIn id (ids_of t kind.Crtc)) (sym same) (ids-has t kind.Crtc index within)
        in
        let not_both : (needs_modeset t w.things w.values (after w r) crtc && moves_on w.values (after w r) crtc plane)
        ≡ false = list_any-at (λ c. needs_modeset t w.things w.values (after w r) c && moves_on w.values (after w r) c plane)
        (ids_of t kind.Crtc) crtc kept on in
        let unneeded : needs_modeset t w.things w.values (after w r) crtc
        ≡ false = false_from_ne_true _ (λ need. both_ways _ not_both
        (and_from _ _ need (or_left (crtc == crtc) _ (eq-eqb crtc crtc refl)))) in
        let modes : same_mode (mode_at w.things w.values crtc) (mode_at w.things (after w r) crtc)
        ≡ true = not-false _ (or_parts (not (same_mode (mode_at w.things w.values crtc) (mode_at w.things (after w r) crtc))) _
        unneeded).0 in
        shown-modes t.profile _ _ (plane_at w.things w.values plane) (sym (same_mode-none _ _ modes))
