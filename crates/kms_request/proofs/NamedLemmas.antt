-- What a request sets names the CRTCs that the request names.
use Rattle.std.proofs.Common.{◌≡◌, ◌∙◌, ℕ, zero, suc, ◌+◌, ◌<◌, ◌≤◌, List, Bool, true, false, Option, Some, None, inl, inr, arith, refl}
use Rattle.std.proofs.Common.{sym, ap, subst}
use Rattle.std.specs.Prelude.{◌&&◌, ◌||◌, ◌==◌, All, slice_get, is_some, nat_le, nat_lt}
use Rattle.std.specs.Option.{option_flatten}
use Rattle.std.specs.List.{list_any}
use Rattle.std.proofs.lemmas.Bool.{and_from, and_parts, or_cases, or_left, or_right, cases_Bool, cases_eq, eqb-true, eq-eqb, ne_eqb}
use Rattle.std.proofs.lemmas.Bool.{ltb-true, le-leb, lt-ltb, false_from_ne_true, both_ways}
use Rattle.std.proofs.lemmas.Bool.Decides.{eqb_tells, nat_tests, same_from_decides}
use Rattle.kms_model.specs.declared.objects.Kind.{Kind}
use Rattle.kms_model.specs.declared.objects.Kind.TheVariants.{Crtc, Plane, Conn, Enc}
use Rattle.kms_model.specs.declared.objects.Topology.{Topology}
use Rattle.kms_model.specs.declared.properties.TheConstants.{CRTC_ID, FB_ID, GAMMA_LUT, MODE_ID}
use Rattle.kms_model.specs.declared.scripts.Assign.{Assign}
use Rattle.kms_model.specs.declared.scripts.Request.{Request}
use Rattle.kms_model.specs.declared.scripts.Value.{Value}
use Rattle.kms_model.specs.declared.sets.Resolved.{Resolved}
use Rattle.kms_model.specs.declared.sets.Set.{Set}
use Rattle.kms_model.specs.declared.states.Both.{Both}
use Rattle.kms_model.specs.declared.states.ConnState.{ConnState}
use Rattle.kms_model.specs.declared.states.Duplicates.{Duplicates}
use Rattle.kms_model.specs.declared.states.PlaneState.{PlaneState}
use Rattle.kms_model.specs.declared.worlds.Look.{Look}
use Rattle.kms_model.specs.declared.worlds.Setting.{Setting}
use Rattle.kms_model.specs.declared.worlds.Thing as worlds
use Rattle.kms_model.specs.declared.worlds.World.{World}
use Rattle.kms_model.specs.Device.Masks.{mask_below}
use Rattle.kms_model.specs.Device.Objects.{exists, first_id, index_of, is_id_of, most_of, object_id}
use Rattle.kms_model.proofs.KindsOfIds.{index_of-object}
use Rattle.kms_model.specs.Device.States.{crtc_at, plane_at}
use Rattle.kms_model.specs.Request.Agreement.{AgreesNew, AgreesOld, conn_state_at}
use Rattle.kms_model.specs.Request.Apply.{apply, is_kept, object_of, prop_of, after}
use Rattle.kms_model.specs.Request.Named.{is_routed, moves_on, names}
use Rattle.kms_model.specs.Request.Named.{is_named_by}
use Rattle.kms_model.specs.Request.Resolves.{IsAllowed, HasPlace, IsSettable}
use Rattle.kms_model.specs.Request.Sets.{crtc_value, last_sets, set_of, set_value}
use Rattle.kms_model.specs.Request.Touched.{last_value, named_by, named_set}
use Rattle.kms_model.proofs.RequestLemmas.{HasFew, accepted_allowed, all_settable, has_few}
use Rattle.kms_model.specs.Device.Sound.{IsCrtcOrNone}
use Rattle.kms_model.specs.Device.Sound.IsCrtcOrNone.{IsNone, IsCrtc}
use Rattle.kms_model.proofs.HeldValues.{ArePlainHeld, plain_held-from}
use Rattle.kms_model.proofs.CrtcLemmas.{all_in, crtc_after, crtc_after_held, crtc_before_held, routed}
use Rattle.kms_model.proofs.LastLemmas.{IsIn, from_last, has_last, set_by, some_in}
use Rattle.kms_model.proofs.MaskLemmas.{mask_from}
use Rattle.kms_model.proofs.Items.{list_any-has}
use Rattle.kms_request.specs.Naming.{AreCrtcs, Covers, is_routed_duplicated, set_names, new_crtc_id, next_crtc, number_in, old_crtc_id}
use Rattle.kms_request.specs.Naming.{routed_number}

-- The old CRTC

number_is : {S : Type 0} (number : Both S → ℕ) (n : ℕ) (o : Option (Option (Both S))) → is_some (option_flatten o) ≡ true
    → ((both : Both S) → o ≡ Some (Some both) → number both ≡ n) → number_in number (option_flatten o) ≡ n
number_is number n None some is = absurd (cc)
number_is number n (Some None) some is = absurd (cc)
number_is number n (Some (Some both)) some is = is both refl

-- which ids are those of a kind
pub inside : (k : Kind) (id : ℕ) → first_id k ≤ id → id < first_id k + most_of k → is_id_of k id ≡ true
inside k id least most = and_from (nat_le (first_id k) id) (nat_lt id (first_id k + most_of k)) (le-leb (first_id k) id least)
    (lt-ltb id (first_id k + most_of k) most)

pub above : (k : Kind) (id : ℕ) → first_id k + most_of k ≤ id → is_id_of k id ≡ false
above k id more = grind (arith, nat_tests)

pub beneath : (k : Kind) (id : ℕ) → id < first_id k → is_id_of k id ≡ false
beneath k id less = grind (arith, nat_tests)

-- a number of each plane and connector that is duplicated is what a function of its id gives
record AreNumbers (plane : Both PlaneState → ℕ) (conn : Both ConnState → ℕ) (value : ℕ → ℕ) (d : Duplicates) : Type 0 where
  planes : (index : ℕ) (both : Both PlaneState) → slice_get d.planes index ≡ Some (Some both) → plane both ≡ value (200 + index)
  conns : (index : ℕ) (both : Both ConnState) → slice_get d.conns index ≡ Some (Some both) → conn both ≡ value (300 + index)

numbers_plane : {plane : Both PlaneState → ℕ} {conn : Both ConnState → ℕ} {value : ℕ → ℕ} {d : Duplicates} (index : ℕ)
    → AreNumbers plane conn value d → index < 16 → is_routed_duplicated d (200 + index) ≡ true → routed_number plane conn d (200 + index)
    ≡ value (200 + index)
numbers_plane {plane} {value} {d} index numbers less duplicated =
    let is : is_id_of Plane (200 + index) ≡ true = inside Plane (200 + index) (omega arith) (omega arith) in
    let place : index_of (200 + index) ≡ index = index_of-object Plane index (omega arith) in
    let there : is_some (option_flatten (slice_get d.planes index)) ≡ true = rw (is, place) at duplicated in
    rw (is, place) (number_is plane (value (200 + index)) (slice_get d.planes index) there (numbers.planes index))

numbers_conn : {plane : Both PlaneState → ℕ} {conn : Both ConnState → ℕ} {value : ℕ → ℕ} {d : Duplicates} (index : ℕ)
    → AreNumbers plane conn value d → index < 8 → is_routed_duplicated d (300 + index) ≡ true → routed_number plane conn d (300 + index)
    ≡ value (300 + index)
numbers_conn {conn} {value} {d} index numbers less duplicated =
    let out : is_id_of Plane (300 + index) ≡ false = above Plane (300 + index) (omega arith) in
    let is : is_id_of Conn (300 + index) ≡ true = inside Conn (300 + index) (omega arith) (omega arith) in
    let place : index_of (300 + index) ≡ index = index_of-object Conn index (omega arith) in
    let there : is_some (option_flatten (slice_get d.conns index)) ≡ true = rw (out, is, place) at duplicated in
    rw (out, is, place) (number_is conn (value (300 + index)) (slice_get d.conns index) there (numbers.conns index))

numbers_none : (plane : Both PlaneState → ℕ) (conn : Both ConnState → ℕ) (d : Duplicates) (index : ℕ) → index < 4
    → routed_number plane conn d (100 + index) ≡ 0
numbers_none plane conn d index less = rw (beneath Plane (100 + index) (omega arith), beneath Conn (100 + index) (omega arith)) refl

pub old_none : (d : Duplicates) (index : ℕ) → index < 4 → old_crtc_id d (100 + index) ≡ 0
old_none d index less = numbers_none (λ both. both.old.crtc) (λ both. both.old.crtc) d index less

pub next_none : (d : Duplicates) (index : ℕ) → index < 4 → next_crtc d (100 + index) ≡ 0
next_none d index less = numbers_none (λ both. both.new.crtc) (λ both. both.new.crtc) d index less

numbers_routed : {plane : Both PlaneState → ℕ} {conn : Both ConnState → ℕ} {value : ℕ → ℕ} {d : Duplicates} (k : Kind) (i : ℕ)
    → AreNumbers plane conn value d → is_routed k ≡ true → HasPlace k i → is_routed_duplicated d (object_id k i) ≡ true
    → routed_number plane conn d (object_id k i) ≡ value (object_id k i)
numbers_routed Crtc i numbers routes placed duplicated = absurd (cc)
numbers_routed {plane} {conn} {value} {d} Plane i numbers routes placed duplicated = numbers_plane i numbers placed duplicated
numbers_routed {plane} {conn} {value} {d} Conn i numbers routes placed duplicated = numbers_conn i numbers placed duplicated
numbers_routed Enc i numbers routes placed duplicated = absurd placed

-- the CRTCs of states that are those of some values
are_numbers : (of_plane : Both PlaneState → PlaneState) (of_conn : Both ConnState → ConnState) (things : List worlds.Thing)
    (values : List Setting) (d : Duplicates)
    → ((index : ℕ) (both : Both PlaneState) → slice_get d.planes index ≡ Some (Some both) → of_plane both
    ≡ plane_at things values (object_id Plane index))
    → ((index : ℕ) (both : Both ConnState) → slice_get d.conns index ≡ Some (Some both) → of_conn both
    ≡ conn_state_at values (object_id Conn index))
    → AreNumbers (λ both. (of_plane both).crtc) (λ both. (of_conn both).crtc) (crtc_at values) d
are_numbers of_plane of_conn things values d planes conns = record {
  planes = λ index both there. ap (λ (s : PlaneState). s.crtc) (planes index both there);
  conns = λ index both there. ap (λ (s : ConnState). s.crtc) (conns index both there);
}

-- an object that is duplicated is on the CRTC that it was on before, and comes to be on the one that it is on after
pub old_is : {t : Topology} {things : List worlds.Thing} {old : List Setting} {d : Duplicates} (k : Kind) (i : ℕ) → AgreesOld t things old d
    → is_routed k ≡ true → HasPlace k i → is_routed_duplicated d (object_id k i) ≡ true
    → old_crtc_id d (object_id k i) ≡ crtc_at old (object_id k i)
old_is {things} {old} {d} k i agrees = numbers_routed k i
    (are_numbers (λ both. both.old) (λ both. both.old) things old d agrees.planes agrees.conns)

pub next_is : {t : Topology} {things : List worlds.Thing} {new : List Setting} {d : Duplicates} (k : Kind) (i : ℕ)
    → AgreesNew t things new d → is_routed k ≡ true → HasPlace k i → is_routed_duplicated d (object_id k i) ≡ true
    → next_crtc d (object_id k i) ≡ crtc_at new (object_id k i)
next_is {things} {new} {d} k i agrees = numbers_routed k i
    (are_numbers (λ both. both.new) (λ both. both.new) things new d agrees.planes agrees.conns)

-- only planes and connectors have an old CRTC
old_routes : (d : Duplicates) (k : Kind) (i : ℕ) {crtc : ℕ} → HasPlace k i → 0 < crtc → old_crtc_id d (object_id k i) ≡ crtc → is_routed k ≡
    true
old_routes d Crtc i placed some is = absurd (omega (arith, old_none d i placed, is))
old_routes d Plane i placed some is = refl
old_routes d Conn i placed some is = refl
old_routes d Enc i placed some is = absurd placed

-- The new CRTC

no_crtc_set : (f : ℕ → Look) (prop : ℕ) (v : Value) → (prop == CRTC_ID) ≡ false → new_crtc_id (set_value f prop v) ≡ 0
no_crtc_set f prop v other = elim (cases_Bool (prop == FB_ID)) [
  | inl fb ↦ rw fb refl
  | inr no_fb ↦ elim (cases_Bool (prop == MODE_ID)) [
    | inl mode ↦ rw (no_fb, mode) refl
    | inr no_mode ↦ elim (cases_Bool (prop == GAMMA_LUT)) [
      | inl gamma ↦ rw (no_fb, no_mode, gamma) refl
      | inr no_gamma ↦ elim (cases_Bool (is_kept prop)) [
        | inl kept ↦ rw (no_fb, no_mode, no_gamma, other, kept) refl
        | inr fence ↦ rw (no_fb, no_mode, no_gamma, other, fence) refl
      ]
    ]
  ]
]

crtc_set : (f : ℕ → Look) {prop : ℕ} (v : Value) → prop ≡ CRTC_ID → new_crtc_id (set_value f prop v) ≡ crtc_value v
crtc_set f v is = rw is refl

-- a set that puts something on a CRTC is one of CRTC_ID
sets_crtc : (f : ℕ → Look) (prop crtc : ℕ) (v : Value) → 0 < crtc → new_crtc_id (set_value f prop v) ≡ crtc → (prop ≡ CRTC_ID)
    × (crtc_value v ≡ crtc)
sets_crtc f prop crtc v some is = elim (eqb_tells prop CRTC_ID) [
  | inl same ↦ (same.1, sym (crtc_set f v same.1) ∙ is)
  | inr other ↦ absurd (omega (arith, no_crtc_set f prop v other.0, is))
]

-- Both ways

module _ (t : Topology) (things : List worlds.Thing) (old : List Setting) (f : ℕ → Look) (assigns : List Assign) (d : Duplicates)
    (allowed : All (IsAllowed t f) assigns) (settable : All IsSettable assigns) (agrees : AgreesOld t things old d) where
  -- the last CRTC_ID of an object is where it is after the request
  crtc_of_last : (object : ℕ) (v : Value) → last_value assigns object CRTC_ID ≡ Some v → crtc_at (apply things old assigns) object
      ≡ crtc_value v
  crtc_of_last object v last = elim ((crtc_after t f things old assigns object allowed).by) [
    | inl kept ↦ absurd (let wrong : None ≡ Some v = sym kept.0 ∙ last in cc)
    | inr set ↦ (let same : Some set.0 ≡ Some v = sym set.1 ∙ last in let value : set.0 ≡ v = cc in set.2 ∙ ap crtc_value value)
  ]

  -- a CRTC that a set names is one that its assignment names
  set_is_named : (b : Assign) (crtc : ℕ) → 0 < crtc → IsIn b assigns → last_value assigns (object_of b) (prop_of b.prop) ≡ Some b.value
      → is_routed_duplicated d (object_of b) ≡ true → set_names d (set_of f b) crtc ≡ true
      → is_named_by old (apply things old assigns) crtc b ≡ true
  set_is_named b crtc some member last duplicated named =
      let fits = all_in IsSettable assigns b settable member in
      let may = all_in (IsAllowed t f) assigns b allowed member in
      elim (or_cases ((object_of b == crtc) || (old_crtc_id d (object_of b) == crtc))
      (new_crtc_id (set_value f (prop_of b.prop) b.value) == crtc) named) [
        | inl first ↦ elim (or_cases (object_of b == crtc) (old_crtc_id d (object_of b) == crtc) first) [
          | inl itself ↦ or_left (object_of b == crtc) _ itself
          | inr was ↦ (let is : old_crtc_id d (object_of b) ≡ crtc = eqb-true (old_crtc_id d (object_of b)) crtc was in
              let routes = old_routes d b.kind b.index fits.place some is in
              let before : crtc_at old (object_of b) ≡ crtc = sym (old_is b.kind b.index agrees routes fits.place duplicated)
              ∙ is in
              or_right (object_of b == crtc) _ (and_from (is_routed b.kind) _ routes
              (or_left (crtc_at old (object_of b) == crtc) _ (eq-eqb (crtc_at old (object_of b)) crtc before))))
        ]
        | inr goes ↦ (let set = sets_crtc f (prop_of b.prop) crtc b.value some
            (eqb-true (new_crtc_id (set_value f (prop_of b.prop) b.value)) crtc goes) in
            let routes = routed t b.kind b.prop may.has set.0 in
            let last_crtc : last_value assigns (object_of b) CRTC_ID
            ≡ Some b.value = subst (λ p. last_value assigns (object_of b) p ≡ Some b.value) set.0 last in
            let after : crtc_at (apply things old assigns) (object_of b) ≡ crtc = crtc_of_last (object_of b) b.value last_crtc ∙ set.1 in
            or_right (object_of b == crtc) _ (and_from (is_routed b.kind) _ routes
            (or_right (crtc_at old (object_of b) == crtc) _ (eq-eqb (crtc_at (apply things old assigns) (object_of b)) crtc after))))
      ]

  -- all sets are of duplicated objects
  module _ (duplicated : All (λ s. is_routed_duplicated d s.object.0 ≡ true) (last_sets f assigns)) where
    sets_to_names : (crtc : ℕ) → 0 < crtc → list_any (λ s. set_names d s crtc) (last_sets f assigns) ≡ true
        → names old (apply things old assigns) assigns crtc ≡ true
    sets_to_names crtc some any =
        let found = some_in (λ s. set_names d s crtc) (last_sets f assigns) any in
        let from = from_last f assigns found.item found.member in
        let P : Set → Type 0 = λ s. is_routed_duplicated d s.object.0 ≡ true in
        let Q : Set → Type 0 = λ s. set_names d s crtc ≡ true in
        let there : is_routed_duplicated d (object_of from.item)
        ≡ true = subst P from.set (all_in P (last_sets f assigns) found.item duplicated found.member) in
        list_any-has (is_named_by old (apply things old assigns) crtc) assigns from.item from.is.member
        (set_is_named from.item crtc some from.is.member from.is.last there (subst Q from.set found.passes))

    -- what an object that is set is known by: one of the sets is of it
    listed_duplicated : (b : Assign) → IsIn (set_of f b) (last_sets f assigns) → is_routed_duplicated d (object_of b) ≡ true
    listed_duplicated b listed = let P : Set → Type 0 = λ s. is_routed_duplicated d s.object.0 ≡ true
        in all_in P (last_sets f assigns) (set_of f b) duplicated listed

    by_set : (b : Assign) (crtc : ℕ) → IsIn (set_of f b) (last_sets f assigns) → set_names d (set_of f b) crtc ≡ true
        → list_any (λ s. set_names d s crtc) (last_sets f assigns) ≡ true
    by_set b crtc listed named = list_any-has (λ s. set_names d s crtc) (last_sets f assigns) (set_of f b) listed named

    -- a plane or a connector that is set, and was on a CRTC
    by_old : (a b : Assign) {crtc : ℕ} → IsIn a assigns → object_of a ≡ object_of b → IsIn (set_of f b) (last_sets f assigns)
        → is_routed a.kind ≡ true → crtc_at old (object_of a) ≡ crtc → list_any (λ s. set_names d s crtc) (last_sets f assigns) ≡ true
    by_old a b {crtc} member same listed routes was =
        let fits = all_in IsSettable assigns a settable member in
        let there : is_routed_duplicated d (object_of a)
        ≡ true = subst (λ o. is_routed_duplicated d o ≡ true) (sym same) (listed_duplicated b listed) in
        let is : old_crtc_id d (object_of b) ≡ crtc = ap (old_crtc_id d) (sym same) ∙ old_is a.kind a.index agrees routes
        fits.place there ∙ was in
        by_set b crtc listed (or_left ((object_of b == crtc) || (old_crtc_id d (object_of b) == crtc)) _
        (or_right (object_of b == crtc) _ (eq-eqb (old_crtc_id d (object_of b)) crtc is)))

    -- a plane or a connector that a request puts on a CRTC
    by_new : (object crtc : ℕ) (v : Value) → last_value assigns object CRTC_ID ≡ Some v → crtc_value v ≡ crtc
        → list_any (λ s. set_names d s crtc) (last_sets f assigns) ≡ true
    by_new object crtc v last is =
        let by = set_by assigns object CRTC_ID v last in
        let b = has_last f assigns by.item by.member in
        let object_same : object_of b.item ≡ object = sym b.same.object ∙ by.object_is in
        let prop_same : prop_of b.item.prop ≡ CRTC_ID = sym b.same.prop ∙ by.prop_is in
        let own : last_value assigns object CRTC_ID ≡ Some b.item.value = subst (λ o. last_value assigns o CRTC_ID ≡ Some b.item.value)
        object_same (subst (λ p. last_value assigns (object_of b.item) p ≡ Some b.item.value) prop_same b.is.last) in
        let both : Some v ≡ Some b.item.value = sym last ∙ own in
        let same : v ≡ b.item.value = cc in
        let goes : new_crtc_id (set_value f (prop_of b.item.prop) b.item.value)
        ≡ crtc = crtc_set f b.item.value prop_same ∙ ap crtc_value (sym same) ∙ is in
        by_set b.item crtc b.is.listed (or_right ((object_of b.item == crtc) || (old_crtc_id d (object_of b.item) == crtc)) _
        (eq-eqb (new_crtc_id (set_value f (prop_of b.item.prop) b.item.value)) crtc goes))

    names_to_sets : (crtc : ℕ) → 0 < crtc → names old (apply things old assigns) assigns crtc ≡ true
        → list_any (λ s. set_names d s crtc) (last_sets f assigns) ≡ true
    names_to_sets crtc some any =
        let found = some_in (is_named_by old (apply things old assigns) crtc) assigns any in
        let a = found.item in
        let b = has_last f assigns a found.member in
        elim (or_cases (object_of a == crtc) (is_routed a.kind && moves_on old (apply things old assigns) crtc (object_of a)) found.passes) [
          | inl itself ↦ by_set b.item crtc b.is.listed
              (or_left ((object_of b.item == crtc) || (old_crtc_id d (object_of b.item) == crtc)) _
              (or_left (object_of b.item == crtc) _ (subst (λ o. (o == crtc) ≡ true) b.same.object itself)))
          | inr moves ↦ (let parts = and_parts (is_routed a.kind) (moves_on old (apply things old assigns) crtc (object_of a)) moves in
              elim (or_cases (crtc_at old (object_of a) == crtc) (crtc_at (apply things old assigns) (object_of a) == crtc) parts.1) [
                | inl was ↦ by_old a b.item found.member b.same.object b.is.listed parts.0
                    (eqb-true (crtc_at old (object_of a)) crtc was)
                | inr becomes ↦ (let is : crtc_at (apply things old assigns) (object_of a)
                    ≡ crtc = eqb-true (crtc_at (apply things old assigns) (object_of a)) crtc becomes in
                    elim ((crtc_after t f things old assigns (object_of a) allowed).by) [
                      | inl kept ↦ by_old a b.item found.member b.same.object b.is.listed parts.0 (sym kept.1 ∙ is)
                      | inr set ↦ by_new (object_of a) crtc set.0 set.1 (sym set.2 ∙ is)
                    ])
              ])
        ]

    same_names : (crtc : ℕ) → 0 < crtc → list_any (λ s. set_names d s crtc) (last_sets f assigns)
        ≡ names old (apply things old assigns) assigns crtc
    same_names crtc some = same_from_decides _ _ (λ h. h, λ h. h) (names_to_sets crtc some, sets_to_names crtc some)

-- No request names a CRTC that the device does not have

-- a CRTC of the device is none that it does not have
not_outside : (t : Topology) (id index : ℕ) → t.crtcs ≤ index → IsCrtcOrNone t id → (id == 100 + index) ≡ false
not_outside t id index out (IsNone none) = ne_eqb id (100 + index) (λ e. omega (arith, none, e))
not_outside t id index out (IsCrtc i less is) = ne_eqb id (100 + index) (λ e. omega (arith, less, is, e))

not_itself : (t : Topology) (k : Kind) (i index : ℕ) → t.crtcs ≤ index → index < 4 → exists t k i ≡ true → HasPlace k i
    → (object_id k i == 100 + index) ≡ false
not_itself t Crtc i index out less there placed =
    (let h : i < t.crtcs = ltb-true i t.crtcs there in ne_eqb (100 + i) (100 + index) (λ e. omega (arith, h, e)))
not_itself t Plane i index out less there placed = ne_eqb (200 + i) (100 + index) (λ e. omega (arith, e))
not_itself t Conn i index out less there placed = ne_eqb (300 + i) (100 + index) (λ e. omega (arith, e))
not_itself t Enc i index out less there placed = absurd placed

none_outside : (t : Topology) (things : List worlds.Thing) (old : List Setting) (f : ℕ → Look) (assigns : List Assign) (index : ℕ)
    → ArePlainHeld t things old → All (IsAllowed t f) assigns → All IsSettable assigns → t.crtcs ≤ index → index < 4
    → names old (apply things old assigns) assigns (100 + index) ≡ false
none_outside t things old f assigns index held allowed settable out less = false_from_ne_true _ (λ any.
    let found = some_in (is_named_by old (apply things old assigns) (100 + index)) assigns any in
    let a = found.item in
    let may = all_in (IsAllowed t f) assigns a allowed found.member in
    let fits = all_in IsSettable assigns a settable found.member in
    elim (or_cases (object_of a == 100 + index) (is_routed a.kind && moves_on old (apply things old assigns) (100 + index) (object_of a))
    found.passes) [
      | inl itself ↦ both_ways (object_of a == 100 + index) (not_itself t a.kind a.index index out less may.exists fits.place) itself
      | inr moves ↦ (let parts = and_parts (is_routed a.kind) (moves_on old (apply things old assigns) (100 + index) (object_of a)) moves in
          elim (or_cases (crtc_at old (object_of a) == 100 + index) (crtc_at (apply things old assigns) (object_of a) == 100 + index)
          parts.1) [
            | inl was ↦ both_ways (crtc_at old (object_of a) == 100 + index)
                (not_outside t (crtc_at old (object_of a)) index out (crtc_before_held t things old a.kind a.index held parts.0 may.exists))
                was
            | inr becomes ↦ both_ways (crtc_at (apply things old assigns) (object_of a) == 100 + index)
                (not_outside t (crtc_at (apply things old assigns) (object_of a)) index out
                (crtc_after_held t f things old assigns a.kind a.index held allowed parts.0 may.exists)) becomes
          ])
    ])

-- a set of few objects among more
pub shorter : (test : ℕ → Bool) (n m : ℕ) → n ≤ m → ((i : ℕ) → n ≤ i → i < m → test i ≡ false) → mask_below test m ≡ mask_below test n
unfolding mask_below
shorter test n zero low none = let same : n ≡ 0 = omega arith in rw same refl
shorter test n (suc m) low none = elim (cases_eq n (suc m)) [
  | inl same ↦ rw same refl
  | inr other ↦ (let top : test m ≡ false = none m (omega (arith, other)) (omega arith) in
      rw top (omega (arith, shorter test n m (omega (arith, other)) (λ i least most. none i least (omega arith)))))
]

-- a set of CRTCs that are those that a request names
pub crtcs_named : {t : Topology} {things : List worlds.Thing} {old : List Setting} (f : ℕ → Look) (assigns : List Assign) {test : ℕ → Bool}
    {mask : ℕ} → HasFew t → ArePlainHeld t things old → All (IsAllowed t f) assigns → All IsSettable assigns
    → AreCrtcs test mask → ((crtc : ℕ) → 0 < crtc → test crtc ≡ names old (apply things old assigns) assigns crtc) → mask
    ≡ named_set t old (apply things old assigns) assigns
crtcs_named {t} {things} {old} f assigns {mask} few held allowed settable are same =
    let named : ℕ → Bool = λ index. names old (apply things old assigns) assigns (100 + index) in
    mask_from mask named 4 are.below (λ index less. are.bits index less ∙ same (100 + index) (omega arith))
    ∙ shorter named t.crtcs 4 few.crtcs (λ index low high. none_outside t things old f assigns index held allowed settable low high)

-- the CRTCs that the sets name are those that the request names
pub named_is : {t : Topology} {w : World} {f : ℕ → Look} {r : Request} {resolved : Resolved} {d : Duplicates} {mask : ℕ}
    → Covers t w f r resolved d
    → AreCrtcs (λ crtc. list_any (λ s. set_names d s crtc) resolved.sets) mask → mask ≡ named_by t w r
named_is {t} {w} {f} {r} {resolved} {d} {mask} covers are =
    let allowed = accepted_allowed t f r covers.asks.accepted in
    let settable = all_settable t f r.assigns covers.limits allowed in
    let Duplicated : List Set → Type 0 = λ sets. All (λ s. is_routed_duplicated d s.object.0 ≡ true) sets in
    let duplicated = subst Duplicated covers.asks.sets covers.duplicated in
    let NamedBy : List Set → ℕ → Bool = λ sets crtc. list_any (λ s. set_names d s crtc) sets in
    crtcs_named f r.assigns (has_few t covers.limits)
    (plain_held-from t w.things w.values covers.sound.held) allowed settable are
    (λ crtc some. ap (λ (sets : List Set). NamedBy sets crtc) covers.asks.sets ∙ same_names t w.things w.values f r.assigns d allowed
    settable covers.old duplicated crtc some)
