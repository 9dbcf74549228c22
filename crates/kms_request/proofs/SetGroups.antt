-- The group of the objects that a request sets, as assignments and sets tell it.
use Rattle.std.proofs.Common.{◌≡◌, ◌∙◌, ℕ, ◌<◌, ◌≤◌, Bool, true, false, List, [], ◌∷◌, None, inl, inr, refl, sym, ap, subst, arith}
use Rattle.std.specs.Prelude.{◌||◌, ◌==◌}
use Rattle.std.specs.List.{list_any}
use Rattle.std.proofs.lemmas.Bool.{eqb-true, and_parts, or_left, or_right, or_cases, cases_Bool, both_ways, false_from_ne_true, ltb-true}
use Rattle.kms_model.specs.declared.objects.Kind.{Kind}
use Rattle.kms_model.specs.declared.objects.Kind.TheVariants as kind
use Rattle.kms_model.specs.declared.objects.Topology.{Topology}
use Rattle.kms_model.specs.declared.scripts.Assign.{Assign}
use Rattle.kms_model.specs.declared.scripts.Request.{Request}
use Rattle.kms_model.specs.declared.sets.Resolved.{Resolved}
use Rattle.kms_model.specs.declared.worlds.Look.{Look}
use Rattle.kms_model.specs.Request.Apply.{object_of}
use Rattle.kms_model.specs.Device.Objects.{object_id, count_of, most_of}
use Rattle.kms_model.specs.Request.Refusals.{early_refusal}
use Rattle.kms_model.specs.Request.Resolves.{IsAllowed, IsResolved}
use Rattle.kms_model.specs.Request.Sets.{has_target_of, last_sets}
use Rattle.kms_model.specs.Device.Sound.{IsDevice}
use Rattle.kms_model.specs.Request.Touched.{sets, set_where}
use Rattle.kms_model.proofs.CrtcLemmas.{all_in}
use Rattle.kms_model.proofs.Items as items
use Rattle.kms_model.proofs.LastLemmas.{IsIn}
use Rattle.kms_model.proofs.MaskLemmas.{same_masks}
use Rattle.kms_model.proofs.RequestLemmas.{accepted_allowed}
use Rattle.kms_model.proofs.TouchedLemmas.{few_objects, few_of, first_id-apart}
use Rattle.kms_model.specs.Request.Groups.{set_group}
use Rattle.kms_request.specs.Groups.{assigned_of, objects_assigned, objects_set, set_of_kind}
use Rattle.kms_request.proofs.NamedLemmas.{shorter}

-- What a request sets

-- an assignment of a request for which no early refusal is due is allowed
pub allowed-each : (t : Topology) (f : ℕ → Look) (r : Request) (a : Assign) → early_refusal t f r ≡ None → IsIn a r.assigns
    → IsAllowed t f a
allowed-each t f r a accepted is = all_in (IsAllowed t f) r.assigns a (accepted_allowed t f r accepted) is

-- objects that are set are those of the last sets
same_object : (a b : Assign) (object : ℕ) → has_target_of a b ≡ true → (object_of a == object) ≡ true → (object_of b == object) ≡ true
same_object a b object target is =
    let same : object_of a ≡ object_of b = eqb-true (object_of a) (object_of b) (and_parts (object_of a == object_of b) _ target).0 in
    subst (λ o. (o == object) ≡ true) same is

set_later : (a : Assign) (assigns : List Assign) (object : ℕ) → list_any (has_target_of a) assigns ≡ true → (object_of a == object) ≡ true
    → sets assigns object ≡ true
set_later a [] object again is = absurd (both_ways _ refl again)
set_later a (b ∷ assigns) object again is =
    elim (or_cases (has_target_of a b) (list_any (has_target_of a) assigns) again) [
      | inl here ↦ or_left (object_of b == object) (sets assigns object) (same_object a b object here is)
      | inr later ↦ or_right (object_of b == object) (sets assigns object) (set_later a assigns object later is)
    ]

pub sets-last : (f : ℕ → Look) (assigns : List Assign) (object : ℕ) → list_any (λ s. s.object.0 == object) (last_sets f assigns)
    ≡ sets assigns object
unfolding last_sets
sets-last f [] object = refl
sets-last f (a ∷ assigns) object =
    elim (cases_Bool (list_any (has_target_of a) assigns)) [
      | inl again ↦ rw again (sets-last f assigns object ∙ absorbed (object_of a == object) (sets assigns object)
          (set_later a assigns object again))
      | inr not_again ↦ rw not_again (ap (λ b. (object_of a == object) || b) (sets-last f assigns object))
    ]
  where
    absorbed : (a b : Bool) → (a ≡ true → b ≡ true) → b ≡ (a || b)
    absorbed true b implies = implies refl
    absorbed false b implies = refl

-- objects beyond a device are not set
unset-beyond : (t : Topology) (f : ℕ → Look) (r : Request) (k : Kind) (i : ℕ) → IsDevice t → early_refusal t f r ≡ None → count_of t k ≤ i
    → i < 16 → sets r.assigns (object_id k i) ≡ false
unset-beyond t f r k i device accepted beyond few =
    items.list_any-none (λ a. object_of a == object_id k i) r.assigns
    (λ a is. false_from_ne_true _ (λ same. not_there a (allowed-each t f r a accepted is)
    (eqb-true (object_of a) (object_id k i) same)))
  where
    not_there : (a : Assign) → IsAllowed t f a → object_of a ≡ object_id k i → ⊥
    not_there a allowed same =
        let below : a.index < count_of t a.kind = ltb-true a.index (count_of t a.kind) allowed.exists in
        let few_a : count_of t a.kind ≤ 16 = few_of t a.kind (few_objects t device) in
        let of_kind : a.kind ≡ k = first_id-apart a.kind k a.index i (omega arith) few same in
        let index : object_id k a.index ≡ object_id k i = ap (λ j. object_id j a.index) (sym of_kind) ∙ same in
        let below_k : a.index < count_of t k = subst (λ j. a.index < count_of t j) of_kind below in
        omega arith

-- the objects of a kind that assignments set, and that sets do
assigned_of-is : {t : Topology} (f : ℕ → Look) (r : Request) (k : Kind) → IsDevice t → early_refusal t f r ≡ None
    → count_of t k ≤ most_of k → most_of k ≤ 16 → assigned_of r.assigns k ≡ set_where t k (sets r.assigns)
assigned_of-is {t} f r k device accepted few wide =
    shorter (λ i. sets r.assigns (object_id k i)) (count_of t k) (most_of k) few
    (λ i low high. unset-beyond t f r k i device accepted low (omega arith))

set_of_kind-is : {t : Topology} (f : ℕ → Look) (r : Request) (k : Kind) → IsDevice t → early_refusal t f r ≡ None
    → count_of t k ≤ most_of k → most_of k ≤ 16 → set_of_kind (last_sets f r.assigns) k ≡ set_where t k (sets r.assigns)
set_of_kind-is {t} f r k device accepted few wide =
    same_masks _ _ (most_of k) (λ i h. sets-last f r.assigns (object_id k i)) ∙ assigned_of-is f r k device accepted few wide

pub objects_assigned-is : (t : Topology) (f : ℕ → Look) (r : Request) → IsDevice t → early_refusal t f r ≡ None
    → objects_assigned r.assigns ≡ set_group t r
objects_assigned-is t f r device accepted =
    let few = few_objects t device in
    rw (
      assigned_of-is f r kind.Crtc device accepted few.crtcs (omega arith),
      assigned_of-is f r kind.Plane device accepted few.planes (omega arith),
      assigned_of-is f r kind.Conn device accepted few.conns (omega arith),
    ) refl

pub objects_set-is : (t : Topology) (f : ℕ → Look) (r : Request) (resolved : Resolved) → IsDevice t
    → IsResolved t f r resolved → objects_set resolved.sets ≡ set_group t r
objects_set-is t f r resolved device asks =
    let few = few_objects t device in
    rw (
      asks.sets,
      set_of_kind-is f r kind.Crtc device asks.accepted few.crtcs (omega arith),
      set_of_kind-is f r kind.Plane device asks.accepted few.planes (omega arith),
      set_of_kind-is f r kind.Conn device asks.accepted few.conns (omega arith),
    ) refl
