-- The objects that a request touches, as a set and by their ids.
use Rattle.std.proofs.Common.{◌≡◌, ℕ, ◌+◌, ◌-◌, ◌<◌, ◌≤◌, Bool, true, false, List, ◌++◌, refl, sym, ap, ◌∙◌, subst, arith, inl, inr}
use Rattle.std.proofs.lemmas.Bool.{and_from, and_left, and_parts, and_right, cond-false, cond-true, eq-eqb, eqb-true, false_from_ne_true}
use Rattle.std.proofs.lemmas.Bool.{le-leb, le-ltb, leb-true, lt-ltb, ltb-true}
use Rattle.std.specs.Prelude.{◌&&◌, ◌==◌, nat_le, nat_lt, if◌then◌else◌}
use Rattle.kms_audit.specs.Touching.{is_touched_in}
use Rattle.kms_laws.proofs.Basics.{in_either, in_left, in_right}
use Rattle.kms_laws.proofs.Objects.{conn_kind, crtc_kind, plane_kind}
use Rattle.kms_model.proofs.Items.{IsIn, IsObject, ids-has, ids-in, list_any-has, list_any-some}
use Rattle.kms_model.proofs.KindsOfIds.{kind-conn, kind-crtc, kind-plane}
use Rattle.kms_model.proofs.MaskLemmas.{has_bit-below, has_bit-mask_below}
use Rattle.kms_model.proofs.TouchedLemmas.{HasFewObjects, few_objects}
use Rattle.kms_model.specs.declared.objects.Kind.{Kind}
use Rattle.kms_model.specs.declared.objects.Kind.TheVariants.{Crtc, Plane, Conn}
use Rattle.kms_model.specs.declared.objects.Topology.{Topology}
use Rattle.kms_model.specs.declared.scripts.Request.{Request}
use Rattle.kms_model.specs.declared.states.Mask.{Mask}
use Rattle.kms_model.specs.declared.worlds.World.{World}
use Rattle.kms_model.specs.Device.Masks.{has_bit}
use Rattle.kms_model.specs.Device.Objects.{count_of, first_id, ids_of, index_of, is_id_of, kind_of, object_id}
use Rattle.kms_model.specs.Device.Sound.{IsDevice}
use Rattle.kms_model.specs.Machine.Commits.{has_number, lockable}
use Rattle.kms_model.specs.Request.Apply.{after}
use Rattle.kms_model.specs.Request.Touched.{set_where, touched_by, touches, touches_crtc, touches_of_kind, touches_routed}

found_in : (xs : List ℕ) (object : ℕ) → has_number xs object ≡ true → IsIn object xs
found_in xs object has =
    let p = list_any-some (λ m. m == object) xs has in
    subst (λ o. IsIn o xs) (eqb-true p.item object p.holds) p.is_in

-- an id is of a kind, or above those of a kind
within : (low high object : ℕ) → low ≤ object → object < high → (nat_le low object && nat_lt object high) ≡ true
within low high object l h = and_from (nat_le low object) (nat_lt object high) (le-leb low object l) (lt-ltb object high h)

above : (low high object : ℕ) → high ≤ object → (nat_le low object && nat_lt object high) ≡ false
above low high object h = and_right (nat_le low object) (nat_lt object high) (le-ltb object high h)

module _ (t : Topology) (kind : Kind) (object : ℕ) (is : IsIn object (ids_of t kind)) where
  at_least : first_id kind ≤ object
  at_least = let i : IsObject t kind object = ids-in t kind object is in omega (arith, i.same)

  among : (high : ℕ) → first_id kind + count_of t kind ≤ high → (nat_le (first_id kind) object && nat_lt object high) ≡ true
  among high few =
      let i : IsObject t kind object = ids-in t kind object is in
      within (first_id kind) high object at_least (omega (arith, i.same, i.within, few))

  bit_in : (test : ℕ → Bool) → kind_of object ≡ kind → has_bit (set_where t kind test) (index_of object) ≡ test object
  bit_in test is_kind =
      let i : IsObject t kind object = ids-in t kind object is in
      let index : index_of object ≡ i.index = ap (λ k. object - first_id k) is_kind ∙ omega (arith, i.same) in
      ap (has_bit (set_where t kind test)) index
      ∙ (has_bit-below (λ n. test (object_id kind n)) (count_of t kind) i.index i.within ∙ ap test (sym i.same))

module _ (t : Topology) (w : World) (q : Request) (object : ℕ) (few : HasFewObjects t) where
  abbrev mask : Mask
  mask = touched_by t w q

  abbrev as_conn : Bool
  as_conn = if is_id_of Conn object then has_bit mask.conns (index_of object) else false

  abbrev as_plane : Bool
  as_plane = if is_id_of Plane object then has_bit mask.planes (index_of object) else as_conn

  as_kind : (kind : Kind) → kind_of object ≡ kind → touches_of_kind kind t w q object ≡ touches t w q object
  unfolding touches
  as_kind kind is = sym (ap (λ k. touches_of_kind k t w q object) is)

  touched_crtc : IsIn object (ids_of t Crtc) → is_touched_in mask object ≡ touches t w q object
  touched_crtc is =
      let kind = crtc_kind t object few is in
      cond-true (is_id_of Crtc object) (has_bit mask.crtcs (index_of object)) as_plane
      (among t Crtc object is 104 (omega (arith, few.crtcs)))
      ∙ (bit_in t Crtc object is (touches_crtc w.values (after w q) q.assigns) kind ∙ as_kind Crtc kind)

  touched_plane : IsIn object (ids_of t Plane) → is_touched_in mask object ≡ touches t w q object
  touched_plane is =
      let kind = plane_kind t object few is in
      let low = at_least t Plane object is in
      cond-false (is_id_of Crtc object) (has_bit mask.crtcs (index_of object)) as_plane (above 100 104 object (omega (arith, low)))
      ∙ (cond-true (is_id_of Plane object) (has_bit mask.planes (index_of object)) as_conn
      (among t Plane object is 216 (omega (arith, few.planes)))
      ∙ (bit_in t Plane object is (touches_routed t w.things w.values (after w q) q.assigns) kind ∙ as_kind Plane kind))

  touched_conn : IsIn object (ids_of t Conn) → is_touched_in mask object ≡ touches t w q object
  touched_conn is =
      let kind = conn_kind t object few is in
      let low = at_least t Conn object is in
      cond-false (is_id_of Crtc object) (has_bit mask.crtcs (index_of object)) as_plane (above 100 104 object (omega (arith, low)))
      ∙ (cond-false (is_id_of Plane object) (has_bit mask.planes (index_of object)) as_conn (above 200 216 object (omega (arith, low)))
      ∙ (cond-true (is_id_of Conn object) (has_bit mask.conns (index_of object)) false
      (among t Conn object is 308 (omega (arith, few.conns)))
      ∙ (bit_in t Conn object is (touches_routed t w.things w.values (after w q) q.assigns) kind ∙ as_kind Conn kind)))

pub touched-in : (t : Topology) (w : World) (q : Request) (object : ℕ) → IsDevice t → has_number (lockable t) object ≡ true
    → is_touched_in (touched_by t w q) object ≡ touches t w q object
touched-in t w q object device has =
    let few = few_objects t device in
    elim (in_either (ids_of t Crtc) (ids_of t Plane ++ ids_of t Conn) object (found_in (lockable t) object has)) [
      | inl crtc ↦ touched_crtc t w q object few crtc
      | inr other ↦ elim (in_either (ids_of t Plane) (ids_of t Conn) object other) [
        | inl plane ↦ touched_plane t w q object few plane
        | inr conn ↦ touched_conn t w q object few conn
      ]
    ]

-- What is no object of the device is not touched.

bit_out : (t : Topology) (kind : Kind) (test : ℕ → Bool) (object : ℕ) → has_number (lockable t) object ≡ false
    → (IsIn object (ids_of t kind) → IsIn object (lockable t)) → kind_of object ≡ kind → first_id kind ≤ object
    → has_bit (set_where t kind test) (index_of object) ≡ false
bit_out t kind test object out within is_kind low =
    let index = object - first_id kind in
    let is : object ≡ object_id kind index = omega (arith, low) in
    ap (λ k. has_bit (set_where t kind test) (object - first_id k)) is_kind
    ∙ (has_bit-mask_below (λ n. test (object_id kind n)) (count_of t kind) index
    ∙ and_left (nat_lt index (count_of t kind)) (test (object_id kind index))
    (false_from_ne_true (nat_lt index (count_of t kind)) (λ e.
    let there = subst (λ o. IsIn o (ids_of t kind)) (sym is) (ids-has t kind index (ltb-true index (count_of t kind) e)) in
    let has = list_any-has (λ m. m == object) (lockable t) object (within there) (eq-eqb object object refl) in
    absurd cc)))

-- an id that is in a range
pub in_range : (low high object : ℕ) → (nat_le low object && nat_lt object high) ≡ true → (low ≤ object) × (object < high)
in_range low high object e =
    let p = and_parts (nat_le low object) (nat_lt object high) e in
    (leb-true low object p.0, ltb-true object high p.1)

pub untouched-out : (t : Topology) (w : World) (q : Request) (object : ℕ) → has_number (lockable t) object ≡ false
    → is_touched_in (touched_by t w q) object ≡ false
untouched-out t w q object out = by_crtc (is_id_of Crtc object) refl where
  at_conn : (b : Bool) → is_id_of Conn object ≡ b → (if b then has_bit (touched_by t w q).conns (index_of object) else false) ≡ false
  at_conn false e = refl
  at_conn true e =
      let range = in_range 300 308 object e in
      bit_out t Conn (touches_routed t w.things w.values (after w q) q.assigns) object out
      (λ is. in_right (ids_of t Crtc) (ids_of t Plane ++ ids_of t Conn) object (in_right (ids_of t Plane) (ids_of t Conn) object is))
      (kind-conn object (omega (arith, range.0)) (omega (arith, range.1))) (omega (arith, range.0))

  at_plane : (b : Bool) → is_id_of Plane object ≡ b
      → (if b then has_bit (touched_by t w q).planes (index_of object) else
      (if is_id_of Conn object then has_bit (touched_by t w q).conns (index_of object) else false)) ≡ false
  at_plane false e = at_conn (is_id_of Conn object) refl
  at_plane true e =
      let range = in_range 200 216 object e in
      bit_out t Plane (touches_routed t w.things w.values (after w q) q.assigns) object out
      (λ is. in_right (ids_of t Crtc) (ids_of t Plane ++ ids_of t Conn) object (in_left (ids_of t Plane) (ids_of t Conn) object is))
      (kind-plane object (omega (arith, range.0)) (omega (arith, range.1))) (omega (arith, range.0))

  by_crtc : (b : Bool) → is_id_of Crtc object ≡ b
      → (if b then has_bit (touched_by t w q).crtcs (index_of object)
      else (if is_id_of Plane object then has_bit (touched_by t w q).planes (index_of object)
      else (if is_id_of Conn object then has_bit (touched_by t w q).conns (index_of object) else false))) ≡ false
  by_crtc false e = at_plane (is_id_of Plane object) refl
  by_crtc true e =
      let range = in_range 100 104 object e in
      bit_out t Crtc (touches_crtc w.values (after w q) q.assigns) object out
      (λ is. in_left (ids_of t Crtc) (ids_of t Plane ++ ids_of t Conn) object is)
      (kind-crtc object (omega (arith, range.1))) (omega (arith, range.0))
