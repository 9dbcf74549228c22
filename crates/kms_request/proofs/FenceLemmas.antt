-- The last values that assignments give a property of each object of a kind.
use Rattle.std.proofs.Common.{◌≡◌, ◌∙◌, take, ℕ, ◌+◌, ◌<◌, List, [], ◌∷◌, ◌++◌, Bool, true, false, Option, Some, None, length, get_or, map}
use Rattle.std.proofs.Common.{refl, sym, subst, arith, inl, inr}
use Rattle.std.specs.Prelude.{◌&&◌, ◌==◌}
use Rattle.std.specs.List.{range_with_len}
use Rattle.std.proofs.lemmas.Bool.{and_parts}
use Rattle.std.proofs.lemmas.Bool.Decides.{eqb_tells, nat_tests}
use Rattle.std.proofs.lemmas.Grind.{get_or-set_at, take_at_read}
use Rattle.std.proofs.lemmas.List.{append-nil, get_or-set_other}
use Rattle.std.proofs.lemmas.List.Elements.{filter_map-append}
use Rattle.std.proofs.lemmas.List.FromFn.{map-range_with_len_more}
use Rattle.std.proofs.Math.ListN.{set}
use Rattle.kms_model.specs.declared.objects.Kind.{Kind}
use Rattle.kms_model.specs.declared.objects.Kind.TheVariants.{Crtc, Plane, Conn, Enc}
use Rattle.kms_model.specs.declared.objects.ObjId.{ObjId}
use Rattle.kms_model.specs.declared.scripts.Assign.{Assign}
use Rattle.kms_model.specs.declared.scripts.Value.{Value}
use Rattle.kms_model.specs.Request.Apply.{object_of, prop_of}
use Rattle.kms_model.specs.Firsts.{or_else}
use Rattle.kms_model.specs.Device.Objects.{object_id}
use Rattle.kms_model.specs.Device.Properties.{same_kind}
use Rattle.kms_model.specs.Request.Resolves.{HasPlace, IsSettable}
use Rattle.kms_model.specs.Request.Sets.{obj_id}
use Rattle.kms_model.specs.Request.Touched.{last_value, value_if}
use Rattle.kms_model.proofs.SetLemmas.{of_each_kind}
use Rattle.kms_model.proofs.Facts.{or_else-none, or_else-assoc}
use Rattle.kms_request.specs.Fences.{ListsNumbers, TellLast, numbered}

-- the last value where one assignment more comes behind
last_value-push : (assigns : List Assign) (a : Assign) (object prop : ℕ) →
    last_value (assigns ++ a ∷ []) object prop ≡ or_else (value_if ((object_of a == object) && (prop_of a.prop == prop)) a.value)
    (last_value assigns object prop)
last_value-push [] a object prop = sym (or_else-none (value_if ((object_of a == object) && (prop_of a.prop == prop)) a.value))
last_value-push (b ∷ assigns) a object prop =
    rw (last_value-push assigns a object prop) (or_else-assoc (value_if ((object_of a == object) && (prop_of a.prop == prop)) a.value)
    (last_value assigns object prop) (value_if ((object_of b == object) && (prop_of b.prop == prop)) b.value))

-- ids of objects are the same where kinds and indices are
same_object : (k l : Kind) (i index : ℕ) → HasPlace k i → index < 16 → (object_id k i == object_id l index)
    ≡ (same_kind k l && (i == index))
same_object Crtc l i index h less = of_each_kind (λ l. (object_id Crtc i == object_id l index) ≡ (same_kind Crtc l && (i == index)))
    (grind (arith, nat_tests)) (grind (arith, nat_tests)) (grind (arith, nat_tests)) (grind (arith, nat_tests)) l
same_object Plane l i index h less = of_each_kind (λ l. (object_id Plane i == object_id l index) ≡ (same_kind Plane l && (i == index)))
    (grind (arith, nat_tests)) (grind (arith, nat_tests)) (grind (arith, nat_tests)) (grind (arith, nat_tests)) l
same_object Conn l i index h less = of_each_kind (λ l. (object_id Conn i == object_id l index) ≡ (same_kind Conn l && (i == index)))
    (grind (arith, nat_tests)) (grind (arith, nat_tests)) (grind (arith, nat_tests)) (grind (arith, nat_tests)) l
same_object Enc l i index h less = absurd h

-- an assignment that sets the property of an object of the kind
pub tell_noted : (kind : Kind) (prop : ℕ) (number : Option Value → Option ℕ) (earlier : List Assign) {a : Assign}
    (numbers : List (Option ℕ)) → IsSettable a
    → length numbers ≡ 16 → (same_kind a.kind kind && (prop_of a.prop == prop)) ≡ true → TellLast kind prop number earlier numbers
    → TellLast kind prop number (earlier ++ a ∷ []) (set numbers a.index (number (Some a.value)))
tell_noted kind prop number earlier {a} numbers fits long sets tell index less =
    let both = and_parts (same_kind a.kind kind) (prop_of a.prop == prop) sets in
    let same : (object_of a == object_id kind index)
    ≡ (a.index == index) = same_object a.kind kind a.index index fits.place less ∙ rw both.0 refl in
    elim (eqb_tells a.index index) [
      | inl here ↦ rw (last_value-push earlier a (object_id kind index) prop, same, here.0, both.1)
          (get_or-set_at numbers a.index index (number (Some a.value)) None (sym here.1) (omega arith))
      | inr other ↦ rw (last_value-push earlier a (object_id kind index) prop, same, other.0)
          (get_or-set_other numbers a.index index (number (Some a.value)) None (λ e. other.1 (sym e)) ∙ tell index less)
    ]

false_between : (x y z : Bool) → (x && z) ≡ false → ((x && y) && z) ≡ false
false_between false y z h = refl
false_between true true z h = h
false_between true false z h = refl

-- an assignment that does not
pub tell_passed : (kind : Kind) (prop : ℕ) (number : Option Value → Option ℕ) (earlier : List Assign) {a : Assign}
    (numbers : List (Option ℕ)) → IsSettable a
    → (same_kind a.kind kind && (prop_of a.prop == prop)) ≡ false → TellLast kind prop number earlier numbers
    → TellLast kind prop number (earlier ++ a ∷ []) numbers
tell_passed kind prop number earlier {a} numbers fits sets tell index less =
    let not_set : ((object_of a == object_id kind index) && (prop_of a.prop == prop))
    ≡ false = rw (same_object a.kind kind a.index index fits.place less)
    (false_between (same_kind a.kind kind) (a.index == index) (prop_of a.prop == prop) sets) in
    rw (last_value-push earlier a (object_id kind index) prop, not_set) (tell index less)

-- one object more
numbered_more : (number : ℕ → Option ℕ) (kind : Kind) (count : ℕ) →
    numbered number (map (object_id kind) (range_with_len 0 (count + 1))) ≡ numbered number (map (object_id kind) (range_with_len 0 count))
    ++ numbered number (object_id kind count ∷ [])
numbered_more number kind count =
    rw (map-range_with_len_more (object_id kind) 0 count count (omega arith))
    (filter_map-append _ (map (object_id kind) (range_with_len 0 count)) (object_id kind count ∷ []))

pub lists_some : (kind : Kind) (count : ℕ) (numbers : List (Option ℕ)) (listed : List (ObjId × ℕ)) (n : ℕ) → Some n
    ≡ get_or numbers count None → ListsNumbers kind count numbers listed
    → ListsNumbers kind (count + 1) numbers (listed ++ (obj_id (object_id kind count), n) ∷ [])
lists_some kind count numbers listed n here lists number tell =
    let front : listed ≡ numbered number (map (object_id kind) (range_with_len 0 count)) = lists number
    (λ index less. tell index (omega arith)) in
    let last : number (object_id kind count) ≡ Some n = sym (here ∙ tell count (omega arith)) in
    rw (numbered_more number kind count, last, front) refl

pub lists_none : (kind : Kind) (count : ℕ) (numbers : List (Option ℕ)) (listed : List (ObjId × ℕ)) → None ≡ get_or numbers count None
    → ListsNumbers kind count numbers listed
    → ListsNumbers kind (count + 1) numbers listed
lists_none kind count numbers listed here lists number tell =
    let front : listed ≡ numbered number (map (object_id kind) (range_with_len 0 count)) = lists number
    (λ index less. tell index (omega arith)) in
    let last : number (object_id kind count) ≡ None = sym (here ∙ tell count (omega arith)) in
    rw (numbered_more number kind count, last) (front ∙ sym (append-nil (numbered number (map (object_id kind) (range_with_len 0 count)))))

-- what is known with one assignment more
pub tell_more : (P : List Assign → Type 0) (assigns : List Assign) (i : ℕ) (d : Assign) → i < length assigns
    → P (take i assigns ++ get_or assigns i d ∷ []) → P (take (i + 1) assigns)
tell_more P assigns i d less known = subst P (sym (take_at_read assigns i d less).1) known
