-- The last sets of a request, one after the other, leave the values after the request.
use Rattle.std.proofs.Common.{◌≡◌, ◌∙◌, ℕ, ◌-◌, ◌<◌, ◌≤◌, Bool, true, false, List, [], ◌∷◌, None, ℤ, inl, inr, refl, sym, ap, subst, arith}
use Rattle.std.specs.Prelude.{◌&&◌, ◌||◌, ◌==◌, not, pos, All, if◌then◌else◌}
use Rattle.std.specs.List.{list_any}
use Rattle.std.proofs.lemmas.Bool.{eqb-true, and_parts, and_right, or_cases, or_parts, or_left, or_right, both_ways, cases_Bool, cond-true}
use Rattle.std.proofs.lemmas.Bool.{cond-false, lt-ltb, not-false}
use Rattle.kms_model.specs.declared.objects.Kind.{Kind}
use Rattle.kms_model.specs.declared.objects.Topology.{Topology}
use Rattle.kms_model.specs.declared.properties.TheConstants.{CRTC_ID, IN_FENCE_FD, OUT_FENCE_PTR}
use Rattle.kms_model.specs.declared.scripts.Assign.{Assign}
use Rattle.kms_model.specs.declared.scripts.Request.{Request}
use Rattle.kms_model.specs.declared.scripts.Value.{Value}
use Rattle.kms_model.specs.declared.sets.Resolved.{Resolved}
use Rattle.kms_model.specs.declared.sets.Set.{Set}
use Rattle.kms_model.specs.declared.states.Duplicates.{Duplicates}
use Rattle.kms_model.specs.declared.worlds.Look.{Look}
use Rattle.kms_model.specs.declared.worlds.Setting.{Setting}
use Rattle.kms_model.specs.declared.worlds.Thing.{Thing}
use Rattle.kms_model.specs.declared.worlds.World.{World}
use Rattle.kms_model.specs.Request.Agreement.{AgreesNew, StandsFor}
use Rattle.kms_model.specs.Request.Apply.{apply, assign, number_of, object_of, prop_of, is_kept}
use Rattle.kms_model.specs.Request.Lookups.{look_up}
use Rattle.kms_model.specs.Device.Objects.{first_id, object_id, count_of, exists}
use Rattle.kms_model.specs.Request.Sets.{has_target_of, last_sets, set_in, set_value}
use Rattle.kms_model.specs.Device.States.{gamma_of, natural, plane_from, mode_of}
use Rattle.kms_model.specs.Request.Touched.{last_value, set_where}
use Rattle.kms_model.specs.Device.World.{value, put, thing_numbered}
use Rattle.kms_model.proofs.AppliedValues.{value-put}
use Rattle.kms_model.proofs.ApplyLemmas.{number_or, value-apply}
use Rattle.kms_model.proofs.LastLemmas.{IsIn}
use Rattle.kms_model.proofs.StandsLemmas.{stands-accepted}
use Rattle.kms_model.proofs.TouchedLemmas.{after, few_objects, few_of, accepted-each}
use Rattle.kms_state.specs.Changes.{HasObject, is_on_device}
use Rattle.kms_model.specs.Request.Deciding.{IsOfRequest}
use Rattle.kms_laws.proofs.Framebuffers.{all_in-from}
use Rattle.kms_check.specs.Applying.{set_all, IsNumberedBy}
use Rattle.kms_check.proofs.RequestFacts.{request_at, IsFromAssign, from_assign}
use Rattle.kms_model.proofs.KindsOfIds.{kind_of-object}

-- a set of a property of an object
abbrev pub targets : ℕ → ℕ → Set → Bool
targets object prop s = (s.object.0 == object) && (s.prop == prop)

-- an assignment of a property of an object
abbrev assigns_to : ℕ → ℕ → Assign → Bool
assigns_to object prop a = (object_of a == object) && (prop_of a.prop == prop)

-- sets that each give a property the value that other values have for it
abbrev pub number_in : List Setting → Set → ℤ
number_in new s = value new s.object.0 s.prop

value-set_in : (values new : List Setting) (s : Set) (object prop : ℕ) → is_kept prop ≡ true
    → value (set_in values s (number_in new s)) object prop
    ≡ (if targets object prop s then value new object prop else value values object prop)
value-set_in values new s object prop kept = elim (cases_Bool (targets object prop s)) [
  | inl is ↦ (let both = and_parts (s.object.0 == object) (s.prop == prop) is in
      let same_object : s.object.0 ≡ object = eqb-true s.object.0 object both.0 in
      let same_prop : s.prop ≡ prop = eqb-true s.prop prop both.1 in
      let keeps : is_kept s.prop ≡ true = ap is_kept same_prop ∙ kept in
      ap (λ vs. value vs object prop) (cond-true (is_kept s.prop) (put values s.object.0 s.prop (number_in new s)) values keeps)
      ∙ value-put values s.object.0 s.prop (number_in new s) object prop ∙ cond-true (targets object prop s) (number_in new s)
      (value values object prop) is
      ∙ ap (λ o. value new o s.prop) same_object ∙ ap (value new object) same_prop ∙ sym
      (cond-true (targets object prop s) (value new object prop) (value values object prop) is))
  | inr other ↦ elim (cases_Bool (is_kept s.prop)) [
    | inl keeps ↦ ap (λ vs. value vs object prop) (cond-true (is_kept s.prop) (put values s.object.0 s.prop (number_in new s)) values keeps)
        ∙ value-put values s.object.0 s.prop (number_in new s) object prop ∙ cond-false (targets object prop s) (number_in new s)
        (value values object prop) other
        ∙ sym (cond-false (targets object prop s) (value new object prop) (value values object prop) other)
    | inr loses ↦ ap (λ vs. value vs object prop)
        (cond-false (is_kept s.prop) (put values s.object.0 s.prop (number_in new s)) values loses)
        ∙ sym (cond-false (targets object prop s) (value new object prop) (value values object prop) other)
  ]
]

-- a property that is set has the other values' number, and others stay
value-set_all : (values new : List Setting) (sets : List Set) (object prop : ℕ) → is_kept prop ≡ true
    → value (set_all values (number_in new) sets) object prop
    ≡ (if list_any (targets object prop) sets then value new object prop else value values object prop)
value-set_all values new [] object prop kept = refl
value-set_all values new (s ∷ sets) object prop kept =
    value-set_all (set_in values s (number_in new s)) new sets object prop kept ∙ go (list_any (targets object prop) sets)
    (targets object prop s) (value-set_in values new s object prop kept)
  where
    go : (later here : Bool) → value (set_in values s (number_in new s)) object prop
        ≡ (if here then value new object prop else value values object prop)
        → (if later then value new object prop else value (set_in values s (number_in new s)) object prop)
        ≡ (if here || later then value new object prop else value values object prop)
    go true true e = refl
    go true false e = refl
    go false true e = e
    go false false e = e

-- a property that belongs to a request alone stays
value-unkept_set : (values : List Setting) (number : Set → ℤ) (sets : List Set) (object prop : ℕ) → is_kept prop ≡ false
    → value (set_all values number sets) object prop ≡ value values object prop
value-unkept_set values number [] object prop loses = refl
value-unkept_set values number (s ∷ sets) object prop loses = value-unkept_set (set_in values s (number s)) number sets object prop loses ∙
    elim (cases_Bool (is_kept s.prop)) [
      | inl keeps ↦ (let apart : targets object prop s
          ≡ false = and_right (s.object.0 == object) (s.prop == prop)
          (Rattle.std.proofs.lemmas.Bool.ne_eqb s.prop prop (λ same. both_ways _ loses (ap is_kept (sym same) ∙ keeps))) in
          ap (λ vs. value vs object prop) (cond-true (is_kept s.prop) (put values s.object.0 s.prop (number s)) values keeps) ∙ value-put
          values
          s.object.0 s.prop (number s) object prop ∙ cond-false (targets object prop s) (number s) (value values object prop) apart)
      | inr not_kept ↦ ap (λ vs. value vs object prop) (cond-false (is_kept s.prop) (put values s.object.0 s.prop (number s)) values
          not_kept)
    ]

value-unkept_apply : (things : List Thing) (values : List Setting) (assigns : List Assign) (object prop : ℕ) → is_kept prop ≡ false
    → value (apply things values assigns) object prop ≡ value values object prop
value-unkept_apply things values [] object prop loses = refl
value-unkept_apply things values (a ∷ assigns) object prop loses = value-unkept_apply things (assign things values a) assigns object prop
    loses ∙ elim (cases_Bool (is_kept (prop_of a.prop))) [
      | inl keeps ↦ (let apart : assigns_to object prop a
          ≡ false = and_right (object_of a == object) (prop_of a.prop == prop)
          (Rattle.std.proofs.lemmas.Bool.ne_eqb (prop_of a.prop) prop (λ same. both_ways _ loses (ap is_kept (sym same) ∙ keeps))) in
          ap (λ vs. value vs object prop) (cond-true (is_kept (prop_of a.prop))
          (put values (object_of a) (prop_of a.prop) (number_of things a.value)) values keeps) ∙ value-put values (object_of a)
          (prop_of a.prop) (number_of things a.value) object prop
          ∙ cond-false (assigns_to object prop a) (number_of things a.value) (value values object prop) apart)
      | inr not_kept ↦ ap (λ vs. value vs object prop)
          (cond-false (is_kept (prop_of a.prop)) (put values (object_of a) (prop_of a.prop) (number_of things a.value)) values not_kept)
    ]

-- what no assignment sets stays
last_value-untargeted : (assigns : List Assign) (object prop : ℕ) → list_any (assigns_to object prop) assigns ≡ false
    → last_value assigns object prop ≡ None
last_value-untargeted [] object prop none = refl
last_value-untargeted (a ∷ assigns) object prop none =
    let parts = or_parts (assigns_to object prop a) (list_any (assigns_to object prop) assigns) none in
    rw (last_value-untargeted assigns object prop parts.1, parts.0) refl

same_target : (a b : Assign) (object prop : ℕ) → has_target_of a b ≡ true → assigns_to object prop a ≡ true → assigns_to object prop b
    ≡ true
same_target a b object prop target is =
    let both = and_parts (object_of a == object_of b) (prop_of a.prop == prop_of b.prop) target in
    rw (← eqb-true (object_of a) (object_of b) both.0, ← eqb-true (prop_of a.prop) (prop_of b.prop) both.1) is

targeted_later : (a : Assign) (assigns : List Assign) (object prop : ℕ) → list_any (has_target_of a) assigns ≡ true
    → assigns_to object prop a ≡ true → list_any (assigns_to object prop) assigns ≡ true
targeted_later a [] object prop again is = absurd (both_ways _ refl again)
targeted_later a (b ∷ assigns) object prop again is = elim (or_cases (has_target_of a b) (list_any (has_target_of a) assigns) again) [
  | inl here ↦ or_left (assigns_to object prop b) _ (same_target a b object prop here is)
  | inr later ↦ or_right (assigns_to object prop b) _ (targeted_later a assigns object prop later is)
]

-- the last sets set what the assignments set
targets-last : (f : ℕ → Look) (assigns : List Assign) (object prop : ℕ) → list_any (targets object prop) (last_sets f assigns)
    ≡ list_any (assigns_to object prop) assigns
unfolding last_sets
targets-last f [] object prop = refl
targets-last f (a ∷ assigns) object prop = elim (cases_Bool (list_any (has_target_of a) assigns)) [
  | inl again ↦ rw again (targets-last f assigns object prop ∙ absorbed (assigns_to object prop a)
      (list_any (assigns_to object prop) assigns) (targeted_later a assigns object prop again))
  | inr not_again ↦ rw not_again (ap (λ b. assigns_to object prop a || b) (targets-last f assigns object prop))
]
  where
    absorbed : (a b : Bool) → (a ≡ true → b ≡ true) → b ≡ (a || b)
    absorbed true b implies = implies refl
    absorbed false b implies = refl

-- the values after the last sets of a request are those after the request
pub value-last_sets : (w : World) (r : Request) (object prop : ℕ)
    → value (set_all w.values (number_in (after w r)) (last_sets (look_up w) r.assigns)) object prop ≡ value (after w r) object prop
value-last_sets w r object prop = elim (cases_Bool (is_kept prop)) [
  | inl kept ↦ value-set_all w.values (after w r) (last_sets (look_up w) r.assigns) object prop kept ∙
      elim (cases_Bool (list_any (targets object prop) (last_sets (look_up w) r.assigns))) [
        | inl set ↦ cond-true _ (value (after w r) object prop) (value w.values object prop) set
        | inr unset ↦ cond-false _ (value (after w r) object prop) (value w.values object prop) unset
            ∙ sym (value-apply w.things w.values r.assigns object prop kept ∙ ap (λ v. number_or w.things v (value w.values object prop))
            (last_value-untargeted r.assigns object prop (sym (targets-last (look_up w) r.assigns object prop) ∙ unset)))
      ]
  | inr loses ↦ value-unkept_set w.values (number_in (after w r)) (last_sets (look_up w) r.assigns) object prop loses ∙ sym
      (value-unkept_apply w.things w.values r.assigns object prop loses)
]

-- states agree with values that are the same
pub agrees-same : {t : Topology} {things : List Thing} {xs : List Setting} (ys : List Setting) {d : Duplicates}
    → ((object prop : ℕ) → value xs object prop ≡ value ys object prop) → AgreesNew t things xs d → AgreesNew t things ys d
agrees-same {t} {things} {xs} ys same agrees =
    let both : value xs ≡ value ys = λ i object prop. same object prop i in
    record {
      crtcs = λ index b at. agrees.crtcs index b at ∙ ap
          (λ v. crtc_state_from t things v (object_id Rattle.kms_model.specs.declared.objects.Kind.TheVariants.Crtc index)) both;
      planes = λ index b at. agrees.planes index b at ∙ ap
          (λ (v : ℕ → ℕ → ℤ). plane_from (v (object_id Rattle.kms_model.specs.declared.objects.Kind.TheVariants.Plane index)) things) both;
      conns = λ index b at. agrees.conns index b at ∙ ap
          (λ (v : ℕ → ℕ → ℤ). conn_state_from v (object_id Rattle.kms_model.specs.declared.objects.Kind.TheVariants.Conn index)) both;
    }
  where
    crtc_state_from : Topology → List Thing → (ℕ → ℕ → ℤ) → ℕ → Rattle.kms_model.specs.declared.states.CrtcState.CrtcState
    crtc_state_from t things v crtc = record {
      active = not (Rattle.std.specs.Ordering.int_eq (v crtc Rattle.kms_model.specs.declared.properties.TheConstants.ACTIVE) (pos 0));
      mode = mode_of (thing_numbered things (v crtc Rattle.kms_model.specs.declared.properties.TheConstants.MODE_ID));
      gamma = gamma_of (thing_numbered things (v crtc Rattle.kms_model.specs.declared.properties.TheConstants.GAMMA_LUT));
      planes = set_where t Rattle.kms_model.specs.declared.objects.Kind.TheVariants.Plane (λ object. natural (v object CRTC_ID) == crtc);
      conns = set_where t Rattle.kms_model.specs.declared.objects.Kind.TheVariants.Conn (λ object. natural (v object CRTC_ID) == crtc);
    }

    conn_state_from : (ℕ → ℕ → ℤ) → ℕ → Rattle.kms_model.specs.declared.states.ConnState.ConnState
    conn_state_from v conn = record { crtc = natural (v conn CRTC_ID) }

-- Each set stands for the number after the request

stands-unkept : (things : List Thing) (f : ℕ → Look) (q : ℕ) (v : Value) (z : ℤ) → is_kept q ≡ false → StandsFor things (set_value f q v) z
stands-unkept things f q v z loses = elim (or_cases (q == IN_FENCE_FD) (q == OUT_FENCE_PTR) (not-false _ loses)) [
  | inl in_fence ↦ subst (λ p. StandsFor things (set_value f p v) z) (sym (eqb-true q IN_FENCE_FD in_fence)) tt
  | inr out_fence ↦ subst (λ p. StandsFor things (set_value f p v) z) (sym (eqb-true q OUT_FENCE_PTR out_fence)) tt
]

has_object : (t : Topology) (k : Kind) (i id : ℕ) → Rattle.kms_model.specs.Device.Sound.IsDevice t → id ≡ object_id k i → i < count_of t k
    → i < 16 → HasObject t id
has_object t k i id device same within few = record {
  planes = (few_objects t device).planes;
  conns = (few_objects t device).conns;
  there = ap (is_on_device t) same ∙ on_device;
}
  where
    on_device : is_on_device t (object_id k i) ≡ true
    on_device =
        let index : object_id k i - first_id k ≡ i = omega arith in
        ap (λ j. exists t j (object_id k i - first_id j)) (kind_of-object k i (omega arith)) ∙ ap (exists t k) index ∙ lt-ltb i
        (count_of t k) within

pub numbered : {t : Topology} {w : World} {r : Request} {resolved : Resolved} {d : Duplicates} → IsOfRequest t w r resolved d
    → All (IsNumberedBy t w.things (number_in (after w r))) resolved.sets
numbered {t} {w} {r} {resolved} {d} is = all_in-from (IsNumberedBy t w.things (number_in (after w r))) resolved.sets (λ s member.
    let at = request_at is in
    let from : IsFromAssign t (look_up w) r s = from_assign t (look_up w) r s is.asks.accepted (subst (IsIn s) is.asks.sets member) in
    let a = from.assign in
    let within : a.index < count_of t a.kind = Rattle.std.proofs.lemmas.Bool.ltb-true a.index (count_of t a.kind) from.allowed.exists in
    let small : count_of t a.kind ≤ 16 = few_of t a.kind (few_objects t is.device) in
    let stands : StandsFor w.things (set_value (look_up w) (prop_of a.prop) a.value) (value (after w r) (object_of a) (prop_of a.prop)) =
    elim (cases_Bool (is_kept (prop_of a.prop))) [
      | inl kept ↦ subst (StandsFor w.things (set_value (look_up w) (prop_of a.prop) a.value))
          (sym (value-apply w.things w.values r.assigns (object_of a) (prop_of a.prop) kept ∙ ap
          (λ v. number_or w.things v (value w.values (object_of a) (prop_of a.prop))) from.last.last))
          (stands-accepted t w a is.numbered.things (accepted-each t w r a at from.is_in))
      | inr loses ↦ stands-unkept w.things (look_up w) (prop_of a.prop) a.value (value (after w r) (object_of a) (prop_of a.prop)) loses
    ] in
    record {
      object = has_object t a.kind a.index s.object.0 is.device (ap (λ x. x.object.0) from.set) within (omega arith);
      number_is = subst (λ x. StandsFor w.things x.value (number_in (after w r) x)) (sym from.set) stands;
    })
