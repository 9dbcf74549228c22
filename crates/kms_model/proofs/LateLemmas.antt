-- The late refusals of duplicated states are those of the values that the states agree with.
use Rattle.std.proofs.Common.{◌≡◌, ℕ, zero, suc, ◌+◌, ◌-◌, ◌<◌, ◌≤◌, ◌⊎◌, Bool, true, false, List, [], ◌∷◌, length, map, Option, Some, None}
use Rattle.std.proofs.Common.{inl, inr, arith, refl, sym, ap, ◌∙◌, subst}
use Rattle.std.specs.Prelude.{◌&&◌, ◌||◌, ◌==◌, not, ℤ, pos, negsuc, int_le, is_some, filter, slice_get, if◌then◌else◌, nat_lt}
use Rattle.std.specs.List.{list_any, range_with_len}
use Rattle.std.specs.Ordering.{int_eq}
use Rattle.std.specs.Option.{option_and_then, option_flatten}
use Rattle.std.proofs.lemmas.Bool.{eq-eqb, ne_eqb, cases_Bool, lt-ltb, not_from_true, not_from_false, both_ways, false≢true, cases_lt}
use Rattle.std.proofs.lemmas.Nat.{pow_pos}
use Rattle.std.proofs.lemmas.Option.{slice_get_within}
use Rattle.kms_model.specs.Device.Places.{state_at}
use Rattle.kms_model.specs.declared.objects.Kind.{Kind}
use Rattle.kms_model.specs.declared.objects.Kind.TheVariants as kind
use Rattle.kms_model.specs.declared.objects.Topology.{Topology}
use Rattle.kms_model.specs.declared.properties.TheConstants.{ACTIVE}
use Rattle.kms_model.specs.declared.scripts.Request.{Request}
use Rattle.kms_model.specs.declared.states.Both.{Both}
use Rattle.kms_model.specs.declared.states.CrtcState.{CrtcState}
use Rattle.kms_model.specs.declared.states.Duplicates.{Duplicates}
use Rattle.kms_model.specs.declared.states.Mask.{Mask}
use Rattle.kms_model.specs.declared.states.PlaneState.{PlaneState}
use Rattle.kms_model.specs.declared.worlds.Setting.{Setting}
use Rattle.kms_model.specs.declared.worlds.Thing.{Thing}
use Rattle.kms_model.specs.declared.worlds.World.{World}
use Rattle.kms_model.specs.Firsts.{or_else, first_some, number_if}
use Rattle.kms_model.specs.Device.Masks.{has_bit}
use Rattle.kms_model.specs.Device.Modes.{same_mode}
use Rattle.kms_model.specs.Device.Objects.{first_id, object_id, count_of, ids_of}
use Rattle.kms_model.specs.Device.World.{value}
use Rattle.kms_model.specs.Device.States.{mode_at, crtc_at, plane_at}
use Rattle.kms_model.specs.Request.Named.{names, differs, is_rerouted, needs_modeset}
use Rattle.kms_model.specs.Request.Touched.{named_by, set_where, is_asked, out_fence_label}
use Rattle.kms_model.specs.Request.Agreement.{on_crtc, crtc_state_at, AgreesOld, AgreesNew}
use Rattle.kms_model.specs.Request.Checks.{with_ids, plane_refusal_at, crtc_refusal_at, conn_refusal_at, clone_refusal_at, route_refusal_at}
use Rattle.kms_model.specs.Request.Checks.{shown_refusal, shown_refusal_at, late_refusal}
use Rattle.kms_model.specs.Request.Late.{duplicate_in, members, plane_refusal_of, crtc_refusal_of, conn_refusal_of, clone_refusal_of}
use Rattle.kms_model.specs.Request.Late.{route_refusal_of, new_mode, shown_refusal_of, needs_modeset_between, needs_modeset_if, first_in}
use Rattle.kms_model.specs.Request.Late.{late_of_states}
use Rattle.kms_model.specs.Device.Sound.IsCrtcOrNone.{IsNone, IsCrtc}
use Rattle.kms_model.specs.Device.Sound.{IsCrtcOrNone, kept_properties}
use Rattle.kms_model.proofs.Items.{IsIn, ids-has, list_any-at, with_ids-has}
use Rattle.kms_model.proofs.MaskLemmas.{has_bit-below, same_masks, same_tests, mask_from}
use Rattle.kms_model.proofs.UnionLemmas.{has_bit-zero}
use Rattle.kms_model.proofs.HeldValues.{ArePlainHeld, plain_held-from}
use Rattle.kms_model.proofs.SeenLemmas.{row-at, plane_crtc-held, shown-off}
use Rattle.kms_model.proofs.StateLemmas.{natural-held}
use Rattle.kms_model.proofs.SoundKept.{differs-self, plain-apply}
use Rattle.kms_model.proofs.TouchedLemmas.{IsRequestAt, after, touches_object, touches, untouched-plane, untouched-crtc, untouched-conn}
use Rattle.kms_model.proofs.TouchedLemmas.{untouched-clone, untouched-route, untouched-shown, untouched-modeset}

-- The first of objects by their indices

range-same : {A : Type 0} (f g : ℕ → Option A) (from n : ℕ) → ((i : ℕ) → from ≤ i → i < from + n → f i ≡ g i)
    → first_some f (range_with_len from n) ≡ first_some g (range_with_len from n)
range-same f g from zero same = refl
range-same f g from (suc n) same = rw (
  same from (omega arith) (omega arith),
  range-same f g (from + 1) n (λ i low high. same i (omega arith) (omega arith)),
) refl

mapped-same : {A : Type 0} (h : ℕ → ℕ) (f g : ℕ → Option A) (from n : ℕ) → ((i : ℕ) → from ≤ i → i < from + n → f i ≡ g (h i))
    → first_some f (range_with_len from n) ≡ first_some g (map h (range_with_len from n))
mapped-same h f g from zero same = refl
mapped-same h f g from (suc n) same = rw (
  same from (omega arith) (omega arith),
  mapped-same h f g (from + 1) n (λ i low high. same i (omega arith) (omega arith)),
) refl

-- over the ids of a kind of object
first-ids : (t : Topology) (k : Kind) (f g : ℕ → Option ℕ) → ((i : ℕ) → i < count_of t k → f i ≡ g (object_id k i))
    → first_some f (range_with_len 0 (count_of t k)) ≡ first_some g (ids_of t k)
first-ids t k f g same = mapped-same (object_id k) f g 0 (count_of t k) (λ i low high. same i (omega arith))

paired-same : {A B : Type 0} (id : ℕ) (f : ℕ → Option B) (g : ℕ × A → Option B) (from : ℕ) (xs : List A)
    → ((i : ℕ) (x : A) → slice_get xs i ≡ Some x → f (from + i) ≡ g (id + (from + i), x))
    → first_some f (range_with_len from (length xs)) ≡ first_some g (with_ids (id + from) xs)
paired-same id f g from [] same = refl
paired-same {A} id f g from (x ∷ xs) same =
    let here : f from ≡ g (id + from, x) = ap f (let e : from ≡ from + 0 = omega arith in e) ∙ same 0 x refl ∙ ap (λ n. g (n, x))
    (let e : id + (from + 0) ≡ id + from = omega arith in e) in
    let next : id + (from + 1) ≡ id + from + 1 = omega arith in
    let rest : first_some f (range_with_len (from + 1) (length xs))
    ≡ first_some g (with_ids (id + (from + 1)) xs) = paired-same id f g (from + 1) xs (λ i y is. shifted i y (same (suc i) y is)) in
    rw here (ap (or_else (g (id + from, x))) (rest ∙ ap (λ n. first_some g (with_ids n xs)) next))
  where
    shifted : (i : ℕ) (y : A) → f (from + suc i) ≡ g (id + (from + suc i), y) → f (from + 1 + i) ≡ g (id + (from + 1 + i), y)
    shifted i y e = let n : from + 1 + i ≡ from + suc i = omega arith in subst (λ m. f m ≡ g (id + m, y)) (sym n) e

-- over objects with what the device says of them
first-pairs : {A : Type 0} (id : ℕ) (xs : List A) (f : ℕ → Option ℕ) (g : ℕ × A → Option ℕ)
    → ((i : ℕ) (x : A) → slice_get xs i ≡ Some x → f i ≡ g (id + i, x))
    → first_some f (range_with_len 0 (length xs)) ≡ first_some g (with_ids id xs)
first-pairs id xs f g same =
    paired-same id f g 0 xs (λ i x is. let n : 0 + i ≡ i = omega arith in subst (λ m. f m ≡ g (id + m, x)) (sym n) (same i x is)) ∙ ap
    (λ n. first_some g (with_ids n xs)) (let e : id + 0 ≡ id = omega arith in e)

any-ids : (t : Topology) (k : Kind) (p q : ℕ → Bool) → ((i : ℕ) → i < count_of t k → p i ≡ q (object_id k i))
    → list_any p (range_with_len 0 (count_of t k)) ≡ list_any q (ids_of t k)
any-ids t k p q same = go 0 (count_of t k) (λ i low high. same i (omega arith))
  where
    go : (from n : ℕ) → ((i : ℕ) → from ≤ i → i < from + n → p i ≡ q (object_id k i)) → list_any p (range_with_len from n)
        ≡ list_any q (map (object_id k) (range_with_len from n))
    go from zero each = refl
    go from (suc n) each = rw (each from (omega arith) (omega arith), go (from + 1) n (λ i low high. each i (omega arith) (omega arith)))
        refl

any-false : (ns : List ℕ) → list_any (λ (i : ℕ). false) ns ≡ false
any-false [] = refl
any-false (n ∷ ns) = any-false ns

-- how many of the objects of a kind pass a test
count-ids : (t : Topology) (k : Kind) (test : ℕ → Bool) → members (set_where t k test) (count_of t k) ≡ length (filter test (ids_of t k))
count-ids t k test = go 0 (count_of t k) (omega arith)
  where
    mask : ℕ
    mask = set_where t k test

    go : (from n : ℕ) → from + n ≤ count_of t k → length (filter (has_bit (set_where t k test)) (range_with_len from n))
        ≡ length (filter test (map (object_id k) (range_with_len from n)))
    go from zero within = refl
    go from (suc n) within =
        let e : has_bit (set_where t k test) from ≡ test (object_id k from) = has_bit-below (λ i. test (object_id k i)) (count_of t k) from
        (omega arith) in
        let rest = go (from + 1) n (omega arith) in
        elim (cases_Bool (test (object_id k from))) [ inl is ↦ rw (e, is) (ap suc rest) | inr other ↦ rw (e, other) rest ]

-- a set is empty where no object of the kind passes its test
empty-ids : (t : Topology) (k : Kind) (test : ℕ → Bool) → (set_where t k test == 0) ≡ not (list_any test (ids_of t k))
empty-ids t k test = elim (cases_Bool (list_any test (ids_of t k))) [
  | inl some ↦ ne_eqb _ 0 (λ none. both_ways _ (no_member none) some) ∙ sym (not_from_true _ some)
  | inr none ↦ eq-eqb _ 0 (all_out none)
      ∙ sym (not_from_false _ none)
]
  where
    no_member : set_where t k test ≡ 0 → list_any test (ids_of t k) ≡ false
    no_member none = sym (any-ids t k (λ i. false) test
        (λ i within. sym (has_bit-zero i) ∙ ap (λ m. has_bit m i) (sym none) ∙ has_bit-below (λ j. test (object_id k j)) (count_of t k) i
        within)) ∙ any-false (range_with_len 0 (count_of t k))

    all_out : list_any test (ids_of t k) ≡ false → set_where t k test ≡ 0
    all_out none = sym (mask_from 0 (λ i. test (object_id k i)) (count_of t k) (pow_pos (count_of t k))
        (λ i within. has_bit-zero i ∙ sym (list_any-at test (ids_of t k) (object_id k i) none (ids-has t k i within))))

-- Duplicates that stand for a request

-- old and new states agree with the values before and after a request
pub record StandAt (t : Topology) (w : World) (r : Request) (d : Duplicates) : Type 0 where
  pub at : IsRequestAt t w r
  pub old : AgreesOld t w.things w.values d
  pub new : AgreesNew t w.things (after w r) d

-- A set of objects covers those that a request touches, and is duplicated, with the CRTCs of its planes.
pub record Covers (t : Topology) (w : World) (r : Request) (d : Duplicates) (objects : Mask) : Type 0 where
  pub planes : (i : ℕ) → i < count_of t kind.Plane → touches_object t w r (object_id kind.Plane i) ≡ true → has_bit objects.planes i ≡ true
  pub crtcs : (i : ℕ) → i < count_of t kind.Crtc → touches w r (object_id kind.Crtc i) ≡ true → has_bit objects.crtcs i ≡ true
  pub conns : (i : ℕ) → i < count_of t kind.Conn → touches_object t w r (object_id kind.Conn i) ≡ true → has_bit objects.conns i ≡ true
  pub has_planes : (i : ℕ) → i < count_of t kind.Plane → has_bit objects.planes i ≡ true → is_some (state_at d.planes i) ≡ true
  pub has_crtcs : (i : ℕ) → i < count_of t kind.Crtc → has_bit objects.crtcs i ≡ true → is_some (state_at d.crtcs i) ≡ true
  pub has_conns : (i : ℕ) → i < count_of t kind.Conn → has_bit objects.conns i ≡ true → is_some (state_at d.conns i) ≡ true
  pub has_crtc_of : (i j : ℕ) → i < count_of t kind.Plane → has_bit objects.planes i ≡ true → j < count_of t kind.Crtc
      → crtc_at (after w r) (object_id kind.Plane i) ≡ object_id kind.Crtc j → is_some (state_at d.crtcs j) ≡ true

pub flatten-some : {A : Type 0} (o : Option (Option A)) (x : A) → option_flatten o ≡ Some x → o ≡ Some (Some x)
flatten-some None x is = absurd cc
flatten-some (Some None) x is = absurd cc
flatten-some (Some (Some y)) x is = ap Some is

-- an object of a set has what its states give, and one outside of it what is given for it
part-same : {S : Type 0} (mask : ℕ) (states : List (Option (Both S))) (f : ℕ → Both S → Option ℕ) (i : ℕ) (answer : Option ℕ)
    → (has_bit mask i ≡ true → is_some (state_at states i) ≡ true) → (has_bit mask i ≡ false → answer ≡ None)
    → (has_bit mask i ≡ true → (both : Both S) → slice_get states i ≡ Some (Some both) → f i both ≡ answer)
    → option_and_then (f i) (duplicate_in mask states i) ≡ answer
part-same {S} mask states f i answer there outside inside = go (has_bit mask i) refl (state_at states i) refl
  where
    go : (b : Bool) → has_bit mask i ≡ b → (o : Option (Both S)) → state_at states i ≡ o → option_and_then (f i) (if b then o else None)
        ≡ answer
    go false out o is = sym (outside out)
    go true within (Some both) is = inside within both (flatten-some (slice_get states i) both is)
    go true within None is = absurd (false≢true (ap is_some (sym is) ∙ there within))

untouched-where : (touched covered : Bool) → (touched ≡ true → covered ≡ true) → covered ≡ false → touched ≡ false
untouched-where true covered covers out = absurd (both_ways covered out (covers refl))
untouched-where false covered covers out = refl

planes-same : (t : Topology) (w : World) (r : Request) (d : Duplicates) (objects : Mask) → StandAt t w r d → Covers t w r d objects
    → first_in objects.planes d.planes (plane_refusal_of t) (count_of t kind.Plane)
    ≡ first_some (plane_refusal_at w.things w.values (after w r)) (with_ids (first_id kind.Plane) t.planes)
planes-same t w r d objects stand covers =
    first-pairs (first_id kind.Plane) t.planes (λ i. option_and_then (plane_refusal_of t i) (duplicate_in objects.planes d.planes i))
    (plane_refusal_at w.things w.values (after w r)) (λ i info is.
    let within : i < length t.planes = slice_get_within t.planes i info is in
    let member : IsIn (first_id kind.Plane + i, info) (with_ids (first_id kind.Plane) t.planes) = with_ids-has (first_id kind.Plane)
    t.planes i info is in
    part-same objects.planes d.planes (plane_refusal_of t) i
    (plane_refusal_at w.things w.values (after w r) (first_id kind.Plane + i, info))
    (covers.has_planes i within)
    (λ out. untouched-plane t w r (first_id kind.Plane + i, info) stand.at member
    (untouched-where (touches_object t w r (object_id kind.Plane i)) (has_bit objects.planes i) (covers.planes i within) out))
    (λ inside both here. rw (is, stand.old.planes i both here, stand.new.planes i both here) refl))

conns-same : (t : Topology) (w : World) (r : Request) (d : Duplicates) (objects : Mask) → StandAt t w r d → Covers t w r d objects
    → first_in objects.conns d.conns (conn_refusal_of t) (count_of t kind.Conn)
    ≡ first_some (conn_refusal_at (after w r)) (with_ids (first_id kind.Conn) t.conns)
conns-same t w r d objects stand covers =
    first-pairs (first_id kind.Conn) t.conns (λ i. option_and_then (conn_refusal_of t i) (duplicate_in objects.conns d.conns i))
    (conn_refusal_at (after w r)) (λ i possible is.
    let within : i < length t.conns = slice_get_within t.conns i possible is in
    let member : IsIn (first_id kind.Conn + i, possible) (with_ids (first_id kind.Conn) t.conns) = with_ids-has (first_id kind.Conn) t.conns
    i possible is in
    part-same objects.conns d.conns (conn_refusal_of t) i (conn_refusal_at (after w r) (first_id kind.Conn + i, possible))
    (covers.has_conns i within)
    (λ out. untouched-conn t w r (first_id kind.Conn + i, possible) stand.at member
    (untouched-where (touches_object t w r (object_id kind.Conn i)) (has_bit objects.conns i) (covers.conns i within) out))
    (λ inside both here. rw (is, stand.new.conns i both here) refl))

-- the same for what is said of each CRTC
each_crtc-same : (t : Topology) (w : World) (r : Request) (d : Duplicates) (objects : Mask) (f : ℕ → Both CrtcState → Option ℕ)
    (g : ℕ → Option ℕ) → StandAt t w r d → Covers t w r d objects
    → ((crtc : ℕ) → IsIn crtc (ids_of t kind.Crtc) → touches w r crtc ≡ false → g crtc ≡ None)
    → ((i : ℕ) (both : Both CrtcState) → i < count_of t kind.Crtc → both.old ≡ crtc_state_at t w.things w.values (object_id kind.Crtc i)
    → both.new ≡ crtc_state_at t w.things (after w r) (object_id kind.Crtc i) → f i both ≡ g (object_id kind.Crtc i))
    → first_in objects.crtcs d.crtcs f (count_of t kind.Crtc) ≡ first_some g (ids_of t kind.Crtc)
each_crtc-same t w r d objects f g stand covers outside inside =
    first-ids t kind.Crtc (λ i. option_and_then (f i) (duplicate_in objects.crtcs d.crtcs i)) g (λ i within.
    part-same objects.crtcs d.crtcs f i (g (object_id kind.Crtc i))
    (covers.has_crtcs i within)
    (λ out. outside (object_id kind.Crtc i) (ids-has t kind.Crtc i within)
    (untouched-where (touches w r (object_id kind.Crtc i)) (has_bit objects.crtcs i) (covers.crtcs i within) out))
    (λ member both here. inside i both within (stand.old.crtcs i both here) (stand.new.crtcs i both here)))

-- the CRTCs for which a request asks for an out-fence, as a set
abbrev pub fenced_set : Topology → Request → ℕ
fenced_set t r = set_where t kind.Crtc (λ crtc. is_asked (out_fence_label r.assigns crtc))

crtcs-same : (t : Topology) (w : World) (r : Request) (d : Duplicates) (objects : Mask) → StandAt t w r d → Covers t w r d objects
    → first_in objects.crtcs d.crtcs (crtc_refusal_of r.flags (named_by t w r) (fenced_set t r)) (count_of t kind.Crtc)
    ≡ first_some (crtc_refusal_at w.things w.values (after w r) r) (ids_of t kind.Crtc)
crtcs-same t w r d objects stand covers =
    each_crtc-same t w r d objects (crtc_refusal_of r.flags (named_by t w r) (fenced_set t r))
    (crtc_refusal_at w.things w.values (after w r) r) stand covers
    (λ crtc is untouched. untouched-crtc t w r crtc stand.at is untouched)
    (λ i both within old new.
    let named : has_bit (named_by t w r) i ≡ names w.values (after w r) r.assigns (object_id kind.Crtc i) = has_bit-below
    (λ j. names w.values (after w r) r.assigns (object_id kind.Crtc j)) (count_of t kind.Crtc) i within in
    let fenced : has_bit (fenced_set t r) i ≡ is_asked (out_fence_label r.assigns (object_id kind.Crtc i)) = has_bit-below
    (λ j. is_asked (out_fence_label r.assigns (object_id kind.Crtc j))) (count_of t kind.Crtc) i within in
    rw (old, new, named, fenced) refl)

clones-same : (t : Topology) (w : World) (r : Request) (d : Duplicates) (objects : Mask) → StandAt t w r d → Covers t w r d objects
    → first_in objects.crtcs d.crtcs (λ index both. clone_refusal_of t both) (count_of t kind.Crtc)
    ≡ first_some (clone_refusal_at t (after w r)) (ids_of t kind.Crtc)
clones-same t w r d objects stand covers =
    each_crtc-same t w r d objects (λ index both. clone_refusal_of t both) (clone_refusal_at t (after w r)) stand covers
    (λ crtc is untouched. untouched-clone t w r crtc stand.at is untouched)
    (λ i both within old new. rw new (ap (λ n. number_if 19 (nat_lt 1 n))
    (count-ids t kind.Conn (λ conn. crtc_at (after w r) conn == object_id kind.Crtc i))))

some-length : (test : ℕ → Bool) (ns : List ℕ) → nat_lt 0 (length (filter test ns)) ≡ list_any test ns
some-length test [] = refl
some-length test (n ∷ ns) = elim (cases_Bool (test n))
    [ inl is ↦ rw is (lt-ltb 0 (suc (length (filter test ns))) (omega arith)) | inr other ↦ rw other (some-length test ns) ]

not-not : (b : Bool) → not (not b) ≡ b
not-not true = refl
not-not false = refl

routes-same : (t : Topology) (w : World) (r : Request) (d : Duplicates) (objects : Mask) → StandAt t w r d → Covers t w r d objects
    → first_in objects.crtcs d.crtcs (λ index both. route_refusal_of both) (count_of t kind.Crtc)
    ≡ first_some (route_refusal_at t w.things (after w r)) (ids_of t kind.Crtc)
routes-same t w r d objects stand covers =
    each_crtc-same t w r d objects (λ index both. route_refusal_of both) (route_refusal_at t w.things (after w r)) stand covers
    (λ crtc is untouched. untouched-route t w r crtc stand.at is untouched)
    (λ i both within old new.
    let test : ℕ → Bool = λ conn. crtc_at (after w r) conn == object_id kind.Crtc i in
    let some : not (set_where t kind.Conn test == 0)
    ≡ nat_lt 0 (length (filter test (ids_of t kind.Conn))) = ap not (empty-ids t kind.Conn test) ∙ not-not
    (list_any test (ids_of t kind.Conn)) ∙ sym (some-length test (ids_of t kind.Conn)) in
    rw new (ap (λ b. number_if 20 (differs (is_some (mode_at w.things (after w r) (object_id kind.Crtc i))) b)) some))

-- the mode of a plane's CRTC that is duplicated
new_mode-at : (t : Topology) (w : World) (r : Request) (d : Duplicates) (j crtc : ℕ) → StandAt t w r d → crtc ≡ object_id kind.Crtc j
    → is_some (state_at d.crtcs j) ≡ true → new_mode d.crtcs crtc ≡ mode_at w.things (after w r) crtc
new_mode-at t w r d j crtc stand same there =
    let index : crtc - first_id kind.Crtc ≡ j = omega arith in
    ap (λ i. option_and_then (λ both. both.new.mode) (state_at d.crtcs i)) index ∙ go (state_at d.crtcs j) refl there ∙ ap
    (mode_at w.things (after w r)) (sym same)
  where
    go : (o : Option (Both CrtcState)) → state_at d.crtcs j ≡ o → is_some o ≡ true → option_and_then (λ both. both.new.mode) o
        ≡ mode_at w.things (after w r) (object_id kind.Crtc j)
    go None is some = absurd cc
    go (Some both) is some = ap (λ s. s.mode) (stand.new.crtcs j both (flatten-some (slice_get d.crtcs j) both is))

shown-same : (t : Topology) (w : World) (r : Request) (d : Duplicates) (objects : Mask) → StandAt t w r d → Covers t w r d objects
    → first_in objects.planes d.planes (λ index both. shown_refusal_of t.profile d.crtcs both) (count_of t kind.Plane)
    ≡ first_some (shown_refusal_at t.profile w.things (after w r)) (ids_of t kind.Plane)
shown-same t w r d objects stand covers =
    first-ids t kind.Plane (λ i. option_and_then (λ both. shown_refusal_of t.profile d.crtcs both) (duplicate_in objects.planes d.planes i))
    (shown_refusal_at t.profile w.things (after w r)) (λ i within.
    part-same objects.planes d.planes (λ index both. shown_refusal_of t.profile d.crtcs both) i
    (shown_refusal_at t.profile w.things (after w r) (object_id kind.Plane i)) (covers.has_planes i within)
    (λ out. untouched-shown t w r (object_id kind.Plane i) stand.at (ids-has t kind.Plane i within)
    (untouched-where (touches_object t w r (object_id kind.Plane i)) (has_bit objects.planes i) (covers.planes i within) out))
    (λ inside both here. on_crtc_of i within inside both.new (stand.new.planes i both here) (held i within)))
  where
    on_crtc_of : (i : ℕ) → i < count_of t kind.Plane → has_bit objects.planes i ≡ true → (s : PlaneState) → s
        ≡ plane_at w.things (after w r) (object_id kind.Plane i) → IsCrtcOrNone t (crtc_at (after w r) (object_id kind.Plane i))
        → shown_refusal t.profile (new_mode d.crtcs s.crtc) s ≡ shown_refusal_at t.profile w.things (after w r) (object_id kind.Plane i)
    on_crtc_of i within inside s is (IsNone off) = shown-off t.profile (new_mode d.crtcs s.crtc) (mode_at w.things (after w r) s.crtc) s
        (ap (λ x. x.crtc) is ∙ off) ∙ ap (λ x. shown_refusal t.profile (mode_at w.things (after w r) x.crtc) x) is
    on_crtc_of i within inside s is (IsCrtc j below same) =
        ap (λ m. shown_refusal t.profile m s) (new_mode-at t w r d j s.crtc stand (ap (λ x. x.crtc) is ∙ same)
        (covers.has_crtc_of i j within inside below same)) ∙ ap (λ x. shown_refusal t.profile (mode_at w.things (after w r) x.crtc) x)
        is

    held : (i : ℕ) → i < count_of t kind.Plane → IsCrtcOrNone t (crtc_at (after w r) (object_id kind.Plane i))
    held i within = plane_crtc-held t w.things (after w r) (object_id kind.Plane i) (plain-apply t w r stand.at.sound stand.at.early)
        (ids-has t kind.Plane i within)

-- ACTIVE is 0 or 1
zero_or_one : (z : ℤ) → (int_le (pos 0) z && int_le z (pos 1)) ≡ true → (z ≡ pos 0) ⊎ (z ≡ pos 1)
zero_or_one (pos n) held =
    let small : n ≤ 1 = natural-held 1 (pos n) held in
    elim (cases_lt 0 n) [
      | inl more ↦ inr (let one : n ≡ 1 = omega arith in ap pos one)
      | inr less ↦ inl
          (let none : n ≡ 0 = omega arith in ap pos none)
    ]
zero_or_one (negsuc n) held = absurd cc

actives-differ : (a b : ℤ) → (a ≡ pos 0) ⊎ (a ≡ pos 1) → (b ≡ pos 0) ⊎ (b ≡ pos 1)
    → differs (not (int_eq a (pos 0))) (not (int_eq b (pos 0))) ≡ not (int_eq a b)
actives-differ a b (inl x) (inl y) = rw (x, y) refl
actives-differ a b (inl x) (inr y) = rw (x, y) refl
actives-differ a b (inr x) (inl y) = rw (x, y) refl
actives-differ a b (inr x) (inr y) = rw (x, y) refl

active-held : (t : Topology) (things : List Thing) (values : List Setting) (crtc : ℕ) → ArePlainHeld t things values
    → IsIn crtc (ids_of t kind.Crtc) → (value values crtc ACTIVE ≡ pos 0) ⊎ (value values crtc ACTIVE ≡ pos 1)
active-held t things values crtc all is = zero_or_one (value values crtc ACTIVE)
    (all.crtcs.at crtc _ is (row-at (kept_properties kind.Crtc) 0 _ refl) tt)

differs-eqb : (p q : Bool) → differs p q ≡ false → p ≡ q
differs-eqb true true same = refl
differs-eqb false false same = refl
differs-eqb true false same = absurd cc
differs-eqb false true same = absurd cc

-- two sets of connectors differ where a connector is in one of them alone
conns-differ : (t : Topology) (old new : List Setting) (crtc : ℕ) → not (on_crtc t old crtc kind.Conn == on_crtc t new crtc kind.Conn)
    ≡ list_any (is_rerouted old new crtc) (ids_of t kind.Conn)
conns-differ t old new crtc = elim (cases_Bool (list_any (is_rerouted old new crtc) (ids_of t kind.Conn))) [
  | inl some ↦ ap not (ne_eqb _ _ (λ same. both_ways _ (none_moves same) some)) ∙ sym some
  | inr none ↦ ap not (eq-eqb _ _ (same_sets none)) ∙ sym none
]
  where
    same_sets : list_any (is_rerouted old new crtc) (ids_of t kind.Conn) ≡ false → on_crtc t old crtc kind.Conn
        ≡ on_crtc t new crtc kind.Conn
    same_sets none = same_masks (λ i. crtc_at old (object_id kind.Conn i) == crtc) (λ i. crtc_at new (object_id kind.Conn i) == crtc)
        (count_of t kind.Conn)
        (λ i within. differs-eqb _ _ (list_any-at (is_rerouted old new crtc) (ids_of t kind.Conn) (object_id kind.Conn i) none
        (ids-has t kind.Conn i within)))

    none_moves : on_crtc t old crtc kind.Conn ≡ on_crtc t new crtc kind.Conn → list_any (is_rerouted old new crtc) (ids_of t kind.Conn)
        ≡ false
    none_moves same = sym (any-ids t kind.Conn (λ i. false) (is_rerouted old new crtc) (λ i within.
        sym (ap (λ b. differs b (crtc_at new (object_id kind.Conn i) == crtc))
        (same_tests (λ j. crtc_at old (object_id kind.Conn j) == crtc) (λ j. crtc_at new (object_id kind.Conn j) == crtc)
        (count_of t kind.Conn) same i within)
        ∙ differs-self (crtc_at new (object_id kind.Conn i) == crtc)))) ∙ any-false (range_with_len 0 (count_of t kind.Conn))

-- the states of a CRTC tell whether it needs a modeset
pub needs_modeset-states : (t : Topology) (w : World) (r : Request) (i : ℕ) (both : Both CrtcState) → IsRequestAt t w r → i
    < count_of t kind.Crtc
    → both.old ≡ crtc_state_at t w.things w.values (object_id kind.Crtc i) → both.new
    ≡ crtc_state_at t w.things (after w r) (object_id kind.Crtc i)
    → needs_modeset_between both ≡ needs_modeset t w.things w.values (after w r) (object_id kind.Crtc i)
needs_modeset-states t w r i both at within old new =
    let crtc : ℕ = object_id kind.Crtc i in
    let is : IsIn crtc (ids_of t kind.Crtc) = ids-has t kind.Crtc i within in
    let actives = actives-differ (value w.values crtc ACTIVE) (value (after w r) crtc ACTIVE)
    (active-held t w.things w.values crtc (plain_held-from t w.things w.values at.sound.held) is)
    (active-held t w.things (after w r) crtc (plain-apply t w r at.sound at.early) is) in
    rw (old, new) (ap (λ b. not (same_mode (mode_at w.things w.values crtc) (mode_at w.things (after w r) crtc)) || b)
    (ap (λ b. b || not (on_crtc t w.values crtc kind.Conn == on_crtc t (after w r) crtc kind.Conn)) actives
    ∙ ap (λ b. not (int_eq (value w.values crtc ACTIVE) (value (after w r) crtc ACTIVE)) || b) (conns-differ t w.values (after w r) crtc)))

modesets-same : (t : Topology) (w : World) (r : Request) (d : Duplicates) (objects : Mask) → StandAt t w r d → Covers t w r d objects
    → list_any (λ i. needs_modeset_if (duplicate_in objects.crtcs d.crtcs i)) (range_with_len 0 (count_of t kind.Crtc))
    ≡ list_any (needs_modeset t w.things w.values (after w r)) (ids_of t kind.Crtc)
modesets-same t w r d objects stand covers =
    any-ids t kind.Crtc (λ i. needs_modeset_if (duplicate_in objects.crtcs d.crtcs i)) (needs_modeset t w.things w.values (after w r))
    (λ i within. go i within (has_bit objects.crtcs i) refl (state_at d.crtcs i) refl)
  where
    go : (i : ℕ) → i < count_of t kind.Crtc → (b : Bool) → has_bit objects.crtcs i ≡ b → (o : Option (Both CrtcState)) → state_at d.crtcs i
        ≡ o → needs_modeset_if (if b then o else None) ≡ needs_modeset t w.things w.values (after w r) (object_id kind.Crtc i)
    go i within false out o is = sym (untouched-modeset t w r (object_id kind.Crtc i) stand.at
        (untouched-where (touches w r (object_id kind.Crtc i)) (has_bit objects.crtcs i) (covers.crtcs i within) out))
    go i within true inside None is = absurd (false≢true (ap is_some (sym is) ∙ covers.has_crtcs i within inside))
    go i within true inside (Some both) is =
        let here = flatten-some (slice_get d.crtcs i) both is in
        needs_modeset-states t w r i both stand.at within (stand.old.crtcs i both here) (stand.new.crtcs i both here)

-- The refusals of duplicated states are those of the values, where the set that is looked at covers what the request
-- touches.
pub late_of_states-is : (t : Topology) (w : World) (r : Request) (d : Duplicates) (objects : Mask) → StandAt t w r d
    → Covers t w r d objects
    → late_of_states t d objects r.flags (named_by t w r) (fenced_set t r) ≡ late_refusal t w.things w.values (after w r) r
unfolding late_of_states late_refusal
late_of_states-is t w r d objects stand covers =
    rw (
      empty-ids t kind.Crtc (names w.values (after w r) r.assigns),
      planes-same t w r d objects stand covers,
      crtcs-same t w r d objects stand covers,
      conns-same t w r d objects stand covers,
      clones-same t w r d objects stand covers,
      routes-same t w r d objects stand covers,
      shown-same t w r d objects stand covers,
      modesets-same t w r d objects stand covers,
    ) refl
