-- The labels of a commit's out-fences, and the planes that it waits for.
use Rattle.std.proofs.Common.{◌≡◌, ℕ, zero, suc, ◌≤◌, ◌<◌, List, [], ◌∷◌, length, map, take, Option, Some, None, inl, inr, refl, sym, ap}
use Rattle.std.proofs.Common.{◌∙◌, subst, arith}
use Rattle.std.specs.List.{filter_map, range_with_len}
use Rattle.std.specs.Option.{option_map}
use Rattle.std.proofs.lemmas.Bool.{cases_eq, cases_lt, eq-eqb, ltb-true, ne_eqb}
use Rattle.std.proofs.lemmas.List.FromFn.{length-map-range_with_len}
use Rattle.kms_model.specs.declared.objects.Kind.{Kind}
use Rattle.kms_model.specs.declared.objects.Kind.TheVariants.{Crtc, Plane}
use Rattle.kms_model.specs.declared.objects.ObjId.{ObjId}
use Rattle.kms_model.specs.declared.objects.Topology.{Topology}
use Rattle.kms_model.specs.declared.properties.TheConstants.{OUT_FENCE_PTR}
use Rattle.kms_model.specs.declared.scripts.Assign.{Assign}
use Rattle.kms_model.specs.declared.scripts.Request.{Request}
use Rattle.kms_model.specs.declared.scripts.Value.{Value}
use Rattle.kms_model.specs.declared.worlds.Look.{Look}
use Rattle.kms_model.specs.declared.worlds.World.{World}
use Rattle.kms_model.specs.Device.Objects.{count_of, ids_of, object_id}
use Rattle.kms_model.specs.Request.Sets.{in_fence, in_fences, obj_id, out_fences}
use Rattle.kms_model.specs.Request.Touched.{last_value, new_label, out_fence_label}
use Rattle.kms_model.proofs.Items.{IsIn, ids-has}
use Rattle.kms_model.proofs.LastLemmas.{SetBy, set_by}
use Rattle.kms_model.proofs.TouchedLemmas.{IsRequestAt, accepted-each, few_objects, few_of, first_id-apart}
use Rattle.kms_core.specs.SwappedIn.{label_in, labels_in}

-- Lists without what is not there

filtered_few : {X Y : Type 0} (h : X → Option Y) (xs : List X) → length (filter_map h xs) ≤ length xs
filtered_few h [] = omega arith
filtered_few {X} {Y} h (x ∷ xs) = by_first (h x) refl (filtered_few h xs) where
  by_first : (o : Option Y) → h x ≡ o → length (filter_map h xs) ≤ length xs → length (filter_map h (x ∷ xs)) ≤ length (x ∷ xs)
  by_first None is rest = rw is (omega (arith, rest))
  by_first (Some y) is rest = rw is (omega (arith, rest))

-- a commit waits for at most one fence for each plane
pub few_in_fences : (t : Topology) (f : ℕ → Look) (assigns : List Assign) → count_of t Plane ≤ 16 → length (in_fences t f assigns) ≤ 16
unfolding in_fences
few_in_fences t f assigns few =
    let waits : ℕ → Option (ObjId × ℕ) = λ plane. option_map (λ fence. (obj_id plane, fence)) (in_fence f assigns plane) in
    let most = filtered_few waits (ids_of t Plane) in
    let planes = length-map-range_with_len (object_id Plane) 0 (count_of t Plane) in
    omega (arith, most, planes, few)

-- Labels

abbrev entry : (ℕ → Option ℕ) → ℕ → Option (ObjId × ℕ)
entry f crtc = option_map (λ label. (obj_id crtc, label)) (f crtc)

none_in : (f : ℕ → Option ℕ) (crtcs : List ℕ) (crtc : ℕ) → f crtc ≡ None → label_in (filter_map (entry f) crtcs) crtc ≡ None
none_in f [] crtc none = refl
none_in f (x ∷ xs) crtc none = by_label (f x) refl (none_in f xs crtc none) where
  by_label : (o : Option ℕ) → f x ≡ o → label_in (filter_map (entry f) xs) crtc ≡ None → label_in (filter_map (entry f) (x ∷ xs)) crtc
      ≡ None
  by_label None is rest = rw is rest
  by_label (Some label) is rest =
      elim (cases_eq x crtc) [
        | inl same ↦ (let other : None ≡ Some label = sym none ∙ ap f (sym same) ∙ is in absurd cc)
        | inr apart ↦ rw (is, ne_eqb x crtc apart) rest
      ]

found_in : (f : ℕ → Option ℕ) (crtcs : List ℕ) (crtc : ℕ) → IsIn crtc crtcs → label_in (filter_map (entry f) crtcs) crtc ≡ f crtc
found_in f [] crtc is = absurd is
found_in f (x ∷ xs) crtc is = by_label (f x) refl is (found_in f xs crtc) where
  by_label : (o : Option ℕ) → f x ≡ o → IsIn crtc (x ∷ xs) → (IsIn crtc xs → label_in (filter_map (entry f) xs) crtc ≡ f crtc)
      → label_in (filter_map (entry f) (x ∷ xs)) crtc ≡ f crtc
  by_label None is_none (inl same) rest =
      let none : f crtc ≡ None = ap f (sym same) ∙ is_none in
      rw is_none (none_in f xs crtc none ∙ sym none)
  by_label None is_none (inr there) rest = rw is_none (rest there)
  by_label (Some label) is_label there rest =
      elim (cases_eq x crtc) [
        | inl same ↦ rw (is_label, eq-eqb x crtc same) (sym is_label ∙ ap f same)
        | inr apart ↦ rw (is_label, ne_eqb x crtc apart) (beyond there apart rest)
      ]
    where
      beyond : IsIn crtc (x ∷ xs) → (x ≡ crtc → ⊥) → (IsIn crtc xs → label_in (filter_map (entry f) xs) crtc ≡ f crtc)
          → label_in (filter_map (entry f) xs) crtc ≡ f crtc
      beyond (inl same) apart rest = absurd (apart same)
      beyond (inr there) apart rest = rest there

first_labels : (f : ℕ → Option ℕ) (n : ℕ) → n ≤ 4 → take n (labels_in (filter_map (entry f) (map (object_id Crtc) (range_with_len 0 n))))
    ≡ map f (map (object_id Crtc) (range_with_len 0 n))
first_labels f zero few = refl
first_labels f (suc zero) few = rw (found_in f (100 ∷ []) 100 (inl refl)) refl
first_labels f (suc (suc zero)) few = rw (found_in f (100 ∷ 101 ∷ []) 100 (inl refl), found_in f (100 ∷ 101 ∷ []) 101 (inr (inl refl))) refl
first_labels f (suc (suc (suc zero))) few =
    rw (
      found_in f (100 ∷ 101 ∷ 102 ∷ []) 100 (inl refl),
      found_in f (100 ∷ 101 ∷ 102 ∷ []) 101 (inr (inl refl)),
      found_in f (100 ∷ 101 ∷ 102 ∷ []) 102 (inr (inr (inl refl))),
    ) refl
first_labels f (suc (suc (suc (suc zero)))) few =
    rw (
      found_in f (100 ∷ 101 ∷ 102 ∷ 103 ∷ []) 100 (inl refl),
      found_in f (100 ∷ 101 ∷ 102 ∷ 103 ∷ []) 101 (inr (inl refl)),
      found_in f (100 ∷ 101 ∷ 102 ∷ 103 ∷ []) 102 (inr (inr (inl refl))),
      found_in f (100 ∷ 101 ∷ 102 ∷ 103 ∷ []) 103 (inr (inr (inr (inl refl)))),
    ) refl
first_labels f (suc (suc (suc (suc (suc n))))) few = absurd (omega (arith, few))

-- the labels at the CRTCs of a device
pub labels_of_crtcs : (t : Topology) (assigns : List Assign) → t.crtcs ≤ 4 → take t.crtcs (labels_in (out_fences t assigns))
    ≡ map (out_fence_label assigns) (ids_of t Crtc)
unfolding out_fences
labels_of_crtcs t assigns few = first_labels (out_fence_label assigns) t.crtcs few

-- A label at any place

-- an accepted request asks for an out-fence of a CRTC of the device alone
no_label : {t : Topology} {w : World} {r : Request} (i : ℕ) → IsRequestAt t w r → i < 4 → t.crtcs ≤ i
    → out_fence_label r.assigns (object_id Crtc i) ≡ None
no_label {t} {w} {r} i at low above = go (last_value r.assigns (object_id Crtc i) OUT_FENCE_PTR) refl where
  go : (o : Option Value) → last_value r.assigns (object_id Crtc i) OUT_FENCE_PTR ≡ o → new_label o ≡ None
  go None is = refl
  go (Some v) is =
      let by : SetBy r.assigns (object_id Crtc i) OUT_FENCE_PTR v = set_by r.assigns (object_id Crtc i) OUT_FENCE_PTR v is in
      let ok = accepted-each t w r by.item at by.member in
      let few = few_objects t at.device in
      let below : by.item.index < count_of t by.item.kind = ltb-true by.item.index (count_of t by.item.kind) ok.object_exists in
      let few_kind : count_of t by.item.kind ≤ 16 = few_of t by.item.kind few in
      let kind : by.item.kind ≡ Crtc = first_id-apart by.item.kind Crtc by.item.index i (omega (arith, below, few_kind))
      (omega (arith, low)) by.object_is in
      let place : object_id Crtc by.item.index ≡ object_id Crtc i = subst (λ (k : Kind). object_id k by.item.index ≡ object_id Crtc i) kind
      by.object_is in
      let within : by.item.index < t.crtcs = subst (λ (k : Kind). by.item.index < count_of t k) kind below in
      absurd (omega (arith, place, within, above))

pub label_at_crtc : {t : Topology} {w : World} {r : Request} (i : ℕ) → IsRequestAt t w r → i < 4
    → label_in (out_fences t r.assigns) (object_id Crtc i) ≡ out_fence_label r.assigns (object_id Crtc i)
unfolding out_fences
label_at_crtc {t} {w} {r} i at low =
    elim (cases_lt i t.crtcs) [
      | inl within ↦ found_in (out_fence_label r.assigns) (ids_of t Crtc) (object_id Crtc i) (ids-has t Crtc i within)
      | inr above ↦ (let none = no_label i at low above
          in none_in (out_fence_label r.assigns) (ids_of t Crtc) (object_id Crtc i) none ∙ sym none)
    ]
