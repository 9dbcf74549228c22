-- The states of a device's objects before the first command are those of its values.
use Rattle.std.proofs.Common.{◌≡◌, ℕ, zero, suc, ◌+◌, ◌<◌, ◌≤◌, Bool, true, false, cond, List, [], ◌∷◌, length, eqb, Option, Some, None}
use Rattle.std.proofs.Common.{refl, ap, ◌∙◌, inl, inr, arith}
use Rattle.std.specs.Prelude.{map, nat_lt, slice_get, ◌==◌, is_some}
use Rattle.std.specs.List.{range_with_len}
use Rattle.std.proofs.lemmas.Bool.Decides.{nat_tests}
use Rattle.std.proofs.lemmas.Bool.{cases_lt}
use Rattle.std.proofs.lemmas.Option.{slice_get_past}
use Rattle.kms_model.specs.declared.objects.Kind.TheVariants as kind
use Rattle.kms_model.specs.Device.Places.{alike, state_at}
use Rattle.kms_model.specs.declared.objects.PlaneInfo.{PlaneInfo}
use Rattle.kms_model.specs.declared.objects.Topology.{Topology}
use Rattle.kms_model.specs.declared.properties.TheConstants.{CRTC_ID, CRTC_X, CRTC_Y, CRTC_W, CRTC_H, SRC_X, SRC_Y, SRC_W, SRC_H, ALPHA}
use Rattle.kms_model.specs.declared.properties.TheConstants.{BLEND, ZPOS, ACTIVE}
use Rattle.kms_model.specs.declared.states.Both.{Both}
use Rattle.kms_model.specs.Request.Agreement.{AreNew, AreOld, conn_state_at, crtc_state_at}
use Rattle.kms_model.specs.Device.Masks.{mask_below}
use Rattle.kms_model.specs.Device.Objects.{count_of, object_id}
use Rattle.kms_model.specs.Device.Sound.{IsDevice}
use Rattle.kms_model.specs.Device.States.{crtc_at, plane_at}
use Rattle.kms_model.specs.Device.World.{start}
use Rattle.kms_model.proofs.SoundStart.{start-crtc, start-zero}
use Rattle.kms_model.proofs.StartValues.{has_number, plane_numbers, plane_value}
use Rattle.kms_model.proofs.TouchedLemmas.{few_objects}
use Rattle.kms_things.specs.Present.{AreWhole, IsPresent}
use Rattle.kms_things.specs.Starting.{off_conn, off_crtc, off_plane, start_states, states_below}

not_on : (crtc other : ℕ) → crtc ≡ 0 → 0 < other → eqb crtc other ≡ false
not_on crtc other off some = grind (arith, nat_tests)

-- no object passes a test, so the set is empty
mask_none : (test : ℕ → Bool) (n : ℕ) → ((index : ℕ) → test index ≡ false) → mask_below test n ≡ 0
unfolding mask_below
mask_none test zero none = refl
mask_none test (suc n) none = rw (none n, mask_none test n none) refl

-- The states of objects

crtc_off : (t : Topology) (i : ℕ) → IsDevice t → off_crtc ≡ crtc_state_at t [] (start t).values (object_id kind.Crtc i)
crtc_off t i device =
    let values = (start t).values in
    let none : (kind : _) (crtc : ℕ) → 0 < crtc → mask_below (λ index. crtc_at values (object_id kind index) == crtc) (count_of t kind)
    ≡ 0 =
    λ kind crtc some. mask_none (λ index. crtc_at values (object_id kind index) == crtc) (count_of t kind)
    (λ index. not_on (crtc_at values (object_id kind index)) crtc (start-crtc t (object_id kind index) device) some) in
    rw (
      start-zero t (object_id kind.Crtc i) ACTIVE device refl,
      none kind.Plane (object_id kind.Crtc i) (omega arith),
      none kind.Conn (object_id kind.Crtc i) (omega arith),
    ) refl

plane_off : (t : Topology) (i : ℕ) (info : PlaneInfo) → IsDevice t → slice_get t.planes i ≡ Some info
    → off_plane i ≡ plane_at [] (start t).values (object_id kind.Plane i)
plane_off t i info device at =
    let v = λ (q : ℕ) (has : has_number (plane_numbers i info) q ≡ true). plane_value t i q info device at has in
    rw (
      v CRTC_ID refl,
      v CRTC_X refl,
      v CRTC_Y refl,
      v CRTC_W refl,
      v CRTC_H refl,
      v SRC_X refl,
      v SRC_Y refl,
      v SRC_W refl,
      v SRC_H refl,
      v ALPHA refl,
      v BLEND refl,
      v ZPOS refl,
    ) refl

conn_off : (t : Topology) (i : ℕ) → IsDevice t → off_conn ≡ conn_state_at (start t).values (object_id kind.Conn i)
conn_off t i device = rw (start-crtc t (object_id kind.Conn i) device) refl

-- Duplicates

range_get : {X : Type 0} (g : ℕ → X) (a n i : ℕ) → i < n → slice_get (map g (range_with_len a n)) i ≡ Some (g (a + i))
range_get g a zero i lt = absurd (omega arith)
range_get g a (suc n) zero lt = ap (λ k. Some (g k)) (omega arith)
range_get g a (suc n) (suc i) lt = range_get g (a + 1) n i (omega arith) ∙ ap (λ k. Some (g k)) (omega arith)

range_past : {X : Type 0} (g : ℕ → X) (a n i : ℕ) → n ≤ i → slice_get (map g (range_with_len a n)) i ≡ None
range_past g a zero i le = slice_get_past [] i (omega arith)
range_past g a (suc n) zero le = absurd (omega arith)
range_past g a (suc n) (suc i) le = range_past g (a + 1) n i (omega arith)

abbrev state_if : {S : Type 0} → (ℕ → S) → ℕ → ℕ → Option (Both S)
state_if f count index = cond (nat_lt index count) (Some (alike (f index))) None

below_get : {S : Type 0} (room : ℕ) (f : ℕ → S) (count index : ℕ) → index < room
    → slice_get (states_below room f count) index ≡ Some (state_if f count index)
below_get room f count index lt = range_get (state_if f count) 0 room index lt ∙ ap (λ k. Some (state_if f count k)) (omega arith)

below_past : {S : Type 0} (room : ℕ) (f : ℕ → S) (count index : ℕ) → room ≤ index → slice_get (states_below room f count) index ≡ None
below_past room f count index le = range_past (state_if f count) 0 room index le

below_there : {S : Type 0} (room : ℕ) (f : ℕ → S) (count index : ℕ) → count ≤ room → index < count
    → state_at (states_below room f count) index ≡ Some (alike (f index))
below_there room f count index few lt = let e : nat_lt index count ≡ true = grind (arith, nat_tests)
    in rw (below_get room f count index (omega arith), e) refl

below_none : {S : Type 0} (room : ℕ) (f : ℕ → S) (count index : ℕ) → count ≤ index → state_at (states_below room f count) index ≡ None
below_none room f count index le =
    let e : nat_lt index count ≡ false = grind (arith, nat_tests) in
    elim (cases_lt index room) [
      | inl within ↦ rw (below_get room f count index within, e) refl
      | inr past ↦ rw (below_past room f count index past) refl
    ]

below_whole : {S : Type 0} (room : ℕ) (f : ℕ → S) (count : ℕ) → count ≤ room → AreWhole count (states_below room f count)
below_whole room f count few = record {
  there = λ index lt. rw (below_there room f count index few lt) refl;
  only = λ index some. elim (cases_lt index count) [
    | inl lt ↦ lt
    | inr le ↦ absurd (let e : is_some (state_at (states_below room f count) index)
        ≡ false = rw (below_none room f count index le) refl in cc)
  ];
}

-- a state that is there is that of its index
below_both : {S : Type 0} (room : ℕ) (f : ℕ → S) (count index : ℕ) (both : Both S) → count ≤ room
    → slice_get (states_below room f count) index ≡ Some (Some both) → (index < count) × (both ≡ alike (f index))
below_both room f count index both few at =
    let d : state_at (states_below room f count) index ≡ Some both = rw at refl in
    elim (cases_lt index count) [
      | inl lt ↦ (lt, (let t = below_there room f count index few lt in cc))
      | inr le ↦ absurd (let n = below_none room f count index le in cc)
    ]

below_old : {S : Type 0} (room : ℕ) (f g : ℕ → S) (count : ℕ) → count ≤ room → ((index : ℕ) → index < count → f index ≡ g index)
    → AreOld g (states_below room f count)
below_old room f g count few same index both at = let b = below_both room f count index both few at
    in ap (λ (x : Both _). x.old) b.1 ∙ same index b.0

below_new : {S : Type 0} (room : ℕ) (f g : ℕ → S) (count : ℕ) → count ≤ room → ((index : ℕ) → index < count → f index ≡ g index)
    → AreNew g (states_below room f count)
below_new room f g count few same index both at = let b = below_both room f count index both few at
    in ap (λ (x : Both _). x.new) b.1 ∙ same index b.0

plane_there : (planes : List PlaneInfo) (i : ℕ) → i < length planes → (info : PlaneInfo) × (slice_get planes i ≡ Some info)
plane_there [] i lt = absurd (omega arith)
plane_there (p ∷ planes) zero lt = (p, refl)
plane_there (p ∷ planes) (suc i) lt = plane_there planes i (omega arith)

-- the states of the objects before the first command are present
pub start_present : (t : Topology) → IsDevice t → IsPresent t (start t) (start_states t)
start_present t device =
    let few = few_objects t device in
    let plane : (i : ℕ) → i < length t.planes → off_plane i
    ≡ plane_at [] (start t).values (object_id kind.Plane i) = λ i lt.
    (let p = plane_there t.planes i lt in plane_off t i p.0 device p.1) in
    record {
      whole = record {
        crtcs = below_whole 4 (λ index. off_crtc) t.crtcs few.crtcs;
        planes = below_whole 16 off_plane (length t.planes)
            few.planes;
        conns = below_whole 8 (λ index. off_conn) (length t.conns) few.conns;
      };
      old = record {
        crtcs = below_old 4 (λ index. off_crtc) (λ index. crtc_state_at t [] (start t).values (object_id kind.Crtc index)) t.crtcs few.crtcs
            (λ i lt. crtc_off t i device);
        planes = below_old 16 off_plane (λ index. plane_at [] (start t).values (object_id kind.Plane index)) (length t.planes) few.planes
            plane;
        conns = below_old 8 (λ index. off_conn) (λ index. conn_state_at (start t).values (object_id kind.Conn index)) (length t.conns)
            few.conns (λ i lt. conn_off t i device);
      };
      new = record {
        crtcs = below_new 4 (λ index. off_crtc) (λ index. crtc_state_at t [] (start t).values (object_id kind.Crtc index)) t.crtcs few.crtcs
            (λ i lt. crtc_off t i device);
        planes = below_new 16 off_plane (λ index. plane_at [] (start t).values (object_id kind.Plane index)) (length t.planes) few.planes
            plane;
        conns = below_new 8 (λ index. off_conn) (λ index. conn_state_at (start t).values (object_id kind.Conn index)) (length t.conns)
            few.conns (λ i lt. conn_off t i device);
      };
    }
