-- Each of the two requests names the CRTCs that have a mode.
use Rattle.std.proofs.Common.{◌≡◌, ℕ, ◌<◌, Bool, true, false, List, [], ◌∷◌, ◌++◌, inl, inr, refl, sym, ap, ◌∙◌, subst, arith}
use Rattle.std.specs.Prelude.{◌&&◌, ◌==◌, filter}
use Rattle.std.specs.List.{flat_map}
use Rattle.std.proofs.lemmas.Bool.{cases_Bool, cond-false, cond-true, eq-eqb, false≢true, ne_eqb, or_from, or_left}
use Rattle.kms_model.specs.declared.objects.Kind.{Kind}
use Rattle.kms_model.specs.declared.objects.Kind.TheVariants as kind
use Rattle.kms_model.specs.declared.objects.Topology.{Topology}
use Rattle.kms_model.specs.declared.scripts.Assign.{Assign}
use Rattle.kms_model.specs.declared.worlds.Setting.{Setting}
use Rattle.kms_model.specs.declared.worlds.World.{World}
use Rattle.kms_model.specs.Device.Objects.{count_of, indices_of, object_id}
use Rattle.kms_model.specs.Device.Sound.{IsDevice}
use Rattle.kms_model.specs.Order.Suspending.{has_mode_at}
use Rattle.kms_model.specs.Request.Apply.{object_of}
use Rattle.kms_model.specs.Request.Named.{is_named_by, is_routed, moves_on, names}
use Rattle.kms_model.proofs.HeldValues.{filter-in}
use Rattle.kms_model.proofs.Items.{IsIn, list_any-has, list_any-none}
use Rattle.kms_model.proofs.TouchedLemmas.{few_objects, few_of, first_id-apart}
use Rattle.kms_laws.proofs.Basics.{in_either, in_left, in_right}
use Rattle.kms_laws.proofs.Headlines.{range-in}
use Rattle.kms_suspend.specs.declared.parts.Way.{Way}
use Rattle.kms_suspend.specs.declared.parts.Way.TheVariants.{Off, Back}
use Rattle.kms_suspend.specs.Parts.{assigns_at, is_in_use, part}
use Rattle.kms_suspend.proofs.LastValues.{in_range}

in_filter : (p : ℕ → Bool) (xs : List ℕ) (x : ℕ) → IsIn x xs → p x ≡ true → IsIn x (filter p xs)
in_filter p [] x is holds = absurd is
in_filter p (y ∷ ys) x (inl same) holds =
    subst (IsIn x) (sym (cond-true (p y) (y ∷ filter p ys) (filter p ys) (ap p same ∙ holds))) (inl same)
in_filter p (y ∷ ys) x (inr rest) holds = elim (cases_Bool (p y)) [
  | inl passes ↦ subst (IsIn x) (sym (cond-true (p y) (y ∷ filter p ys) (filter p ys) passes)) (inr (in_filter p ys x rest holds))
  | inr fails ↦ subst (IsIn x) (sym (cond-false (p y) (y ∷ filter p ys) (filter p ys) fails)) (in_filter p ys x rest holds)
]

in_flat : (f : ℕ → List Assign) (xs : List ℕ) (x : ℕ) (a : Assign) → IsIn x xs → IsIn a (f x) → IsIn a (flat_map f xs)
in_flat f [] x a is has = absurd is
in_flat f (y ∷ ys) x a (inl same) has = in_left (f y) (flat_map f ys) a (subst (λ z. IsIn a (f z)) (sym same) has)
in_flat f (y ∷ ys) x a (inr rest) has = in_right (f y) (flat_map f ys) a (in_flat f ys x a rest has)

record IsOf (f : ℕ → List Assign) (xs : List ℕ) (a : Assign) : Type 0 where
  item : ℕ
  member : IsIn item xs
  has : IsIn a (f item)

from_flat : (f : ℕ → List Assign) (xs : List ℕ) (a : Assign) → IsIn a (flat_map f xs) → IsOf f xs a
from_flat f [] a is = absurd is
from_flat f (y ∷ ys) a is = elim (in_either (f y) (flat_map f ys) a is) [
  | inl here ↦ record { item = y; member = inl refl; has = here }
  | inr later ↦ (let rest = from_flat f ys a later in record { item = rest.item; member = inr rest.member; has = rest.has })
]

-- each assignment of an object's part is to that object
of_object : (way : Way) (w : World) (k : Kind) (i : ℕ) (a : Assign) → IsIn a (assigns_at way w k i)
    → (object_of a ≡ object_id k i) × (is_routed a.kind ≡ is_routed k)
of_object Off w kind.Crtc i a (inl same) = (ap object_of (sym same), ap (λ (x : Assign). is_routed x.kind) (sym same))
of_object Off w kind.Crtc i a (inr (inl same)) = (ap object_of (sym same), ap (λ (x : Assign). is_routed x.kind) (sym same))
of_object Off w kind.Plane i a (inl same) = (ap object_of (sym same), ap (λ (x : Assign). is_routed x.kind) (sym same))
of_object Off w kind.Plane i a (inr (inl same)) = (ap object_of (sym same), ap (λ (x : Assign). is_routed x.kind) (sym same))
of_object Off w kind.Conn i a (inl same) = (ap object_of (sym same), ap (λ (x : Assign). is_routed x.kind) (sym same))
of_object Back w kind.Crtc i a (inl same) = (ap object_of (sym same), ap (λ (x : Assign). is_routed x.kind) (sym same))
of_object Back w kind.Crtc i a (inr (inl same)) = (ap object_of (sym same), ap (λ (x : Assign). is_routed x.kind) (sym same))
of_object Back w kind.Plane i a (inl same) = (ap object_of (sym same), ap (λ (x : Assign). is_routed x.kind) (sym same))
of_object Back w kind.Plane i a (inr (inl same)) = (ap object_of (sym same), ap (λ (x : Assign). is_routed x.kind) (sym same))
of_object Back w kind.Conn i a (inl same) = (ap object_of (sym same), ap (λ (x : Assign). is_routed x.kind) (sym same))
of_object Off w kind.Crtc i a (inr (inr is)) = absurd is
of_object Off w kind.Plane i a (inr (inr is)) = absurd is
of_object Off w kind.Conn i a (inr is) = absurd is
of_object Off w kind.Enc i a is = absurd is
of_object Back w kind.Crtc i a (inr (inr is)) = absurd is
of_object Back w kind.Plane i a (inr (inr is)) = absurd is
of_object Back w kind.Conn i a (inr is) = absurd is
of_object Back w kind.Enc i a is = absurd is

off_second : (a b : Bool) → b ≡ false → (a && b) ≡ false
off_second true b off = off
off_second false b off = refl

module _ (way : Way) (t : Topology) (w : World) (device : IsDevice t) (old new : List Setting) where
  -- what is in use of planes and connectors is on a CRTC with a mode, before and after
  abbrev pub StaysOn : ℕ → Type 0
  StaysOn c = (k : Kind) (i : ℕ) → is_routed k ≡ true → i < count_of t k → is_in_use w k i ≡ true
      → moves_on old new c (object_id k i) ≡ false

  not_named : (k : Kind) (j : ℕ) → j < count_of t kind.Crtc → has_mode_at w (object_id kind.Crtc j) ≡ false
      → StaysOn (object_id kind.Crtc j)
      → (a : Assign) → IsIn a (part way t w k) → is_named_by old new (object_id kind.Crtc j) a ≡ false
  not_named k j low none stays a is =
      let c = object_id kind.Crtc j in
      let one = from_flat (assigns_at way w k) (filter (is_in_use w k) (indices_of t k)) a is in
      let two = filter-in (is_in_use w k) (indices_of t k) one.item one.member in
      let within = in_range 0 (count_of t k) one.item two.0 in
      let of = of_object way w k one.item a one.has in
      let few = few_of t k (few_objects t device) in
      let few_crtcs = few_of t kind.Crtc (few_objects t device) in
      or_from (object_of a == c) _
      (ne_eqb (object_of a) c (λ e.
      let same : object_id k one.item ≡ c = sym of.0 ∙ e in
      let kinds = first_id-apart k kind.Crtc one.item j (omega (arith, within.1, few)) (omega (arith, low, few_crtcs)) same in
      let used : has_mode_at w (object_id kind.Crtc one.item) ≡ true = subst (λ q. is_in_use w q one.item ≡ true) kinds two.1 in
      let here : object_id kind.Crtc one.item ≡ c = subst (λ q. object_id q one.item ≡ c) kinds same in
      false≢true (sym none ∙ subst (λ x. has_mode_at w x ≡ true) here used)))
      (elim (cases_Bool (is_routed k)) [
        | inl routed ↦ off_second (is_routed a.kind) _
            (ap (moves_on old new c) of.0 ∙ stays k one.item routed (omega (arith, within.1)) two.1)
        | inr fixed ↦ ap (λ b. b && moves_on old new c (object_of a)) (of.1 ∙ fixed)
      ])

  pub named-none : (first last : Kind) (j : ℕ) → j < count_of t kind.Crtc → has_mode_at w (object_id kind.Crtc j) ≡ false
      → StaysOn (object_id kind.Crtc j)
      → names old new (part way t w first ++ (part way t w kind.Conn ++ part way t w last)) (object_id kind.Crtc j) ≡ false
  named-none first last j low none stays =
      list_any-none (is_named_by old new (object_id kind.Crtc j)) _ (λ a is.
      elim (in_either (part way t w first) (part way t w kind.Conn ++ part way t w last) a is) [
        | inl here ↦ not_named first j low none stays a here
        | inr later ↦ elim (in_either (part way t w kind.Conn) (part way t w last) a later) [
          | inl conn ↦ not_named kind.Conn j low none stays a conn
          | inr back ↦ not_named last j low none stays a back
        ]
      ])

  -- a CRTC with a mode is set itself
  set_itself : (j : ℕ) → j < count_of t kind.Crtc → has_mode_at w (object_id kind.Crtc j) ≡ true → (a : Assign)
      → IsIn a (assigns_at way w kind.Crtc j) → IsIn a (part way t w kind.Crtc)
  set_itself j low has a is =
      in_flat (assigns_at way w kind.Crtc) _ j a
      (in_filter (is_in_use w kind.Crtc) (indices_of t kind.Crtc) j
      (range-in 0 (count_of t kind.Crtc) j (omega arith) (omega (arith, low))) has) is

  pub named-first : (last : Kind) (j : ℕ) (a : Assign) → j < count_of t kind.Crtc → has_mode_at w (object_id kind.Crtc j) ≡ true
      → IsIn a (assigns_at way w kind.Crtc j)
      → names old new (part way t w kind.Crtc ++ (part way t w kind.Conn ++ part way t w last)) (object_id kind.Crtc j) ≡ true
  named-first last j a low has is =
      list_any-has (is_named_by old new (object_id kind.Crtc j)) _ a (in_left _ _ a (set_itself j low has a is))
      (or_left (object_of a == object_id kind.Crtc j) _ (eq-eqb (object_of a) (object_id kind.Crtc j) (of_object way w kind.Crtc j a is).0))

  pub named-last : (first : Kind) (j : ℕ) (a : Assign) → j < count_of t kind.Crtc → has_mode_at w (object_id kind.Crtc j) ≡ true
      → IsIn a (assigns_at way w kind.Crtc j)
      → names old new (part way t w first ++ (part way t w kind.Conn ++ part way t w kind.Crtc)) (object_id kind.Crtc j) ≡ true
  named-last first j a low has is =
      list_any-has (is_named_by old new (object_id kind.Crtc j)) _ a
      (in_right (part way t w first) (part way t w kind.Conn ++ part way t w kind.Crtc) a
      (in_right (part way t w kind.Conn) (part way t w kind.Crtc) a (set_itself j low has a is)))
      (or_left (object_of a == object_id kind.Crtc j) _ (eq-eqb (object_of a) (object_id kind.Crtc j) (of_object way w kind.Crtc j a is).0))
