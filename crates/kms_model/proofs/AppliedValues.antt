-- The values of a device after settings are put and requests applied.
use Rattle.std.proofs.Common.{◌≡◌, ℕ, ◌⊎◌, Bool, true, false, List, [], ◌∷◌, inl, inr, refl, sym, ap, ◌∙◌, subst}
use Rattle.std.specs.Prelude.{◌&&◌, ◌==◌, ℤ, pos, if◌then◌else◌}
use Rattle.std.proofs.lemmas.Bool.{eqb-true, and_parts, and_left, or_parts, cases_Bool, cond-true, cond-false}
use Rattle.kms_model.specs.declared.scripts.Assign.{Assign}
use Rattle.kms_model.specs.declared.worlds.Setting.{Setting}
use Rattle.kms_model.specs.declared.worlds.Thing.{Thing}
use Rattle.kms_model.specs.Device.World.{is_of, value, put, setting}
use Rattle.kms_model.specs.Request.Apply.{number_of, prop_of, is_kept, object_of, assign, apply}
use Rattle.kms_model.specs.Request.Touched.{sets}
use Rattle.kms_model.proofs.Items.{IsIn}

-- where a value comes from: a setting of the property, or nowhere
pub record ComesFrom (values : List Setting) (prop : ℕ) (number : ℤ) : Type 0 where
  pub from : Setting
  pub is_in : IsIn from values
  pub of_prop : from.prop ≡ prop
  pub has_number : from.number ≡ number

comes_further : (s : Setting) (ss : List Setting) (prop : ℕ) (number : ℤ) → ComesFrom ss prop number → ComesFrom (s ∷ ss) prop number
comes_further s ss prop number from = record {
  from = from.from;
  is_in = inr from.is_in;
  of_prop = from.of_prop;
  has_number =
      from.has_number;
}

comes_or_further : (s : Setting) (ss : List Setting) (prop : ℕ) (number : ℤ) → (number ≡ pos 0) ⊎ ComesFrom ss prop number
    → (number ≡ pos 0) ⊎ ComesFrom (s ∷ ss) prop number
comes_or_further s ss prop number (inl nowhere) = inl nowhere
comes_or_further s ss prop number (inr from) = inr (comes_further s ss prop number from)

-- a value is 0, or that of a setting of the property
pub value-cases : (values : List Setting) (object prop : ℕ) → (value values object prop ≡ pos 0)
    ⊎ ComesFrom values prop (value values object prop)
value-cases [] object prop = inl refl
value-cases (s ∷ ss) object prop =
    elim (cases_Bool (is_of object prop s)) [
      | inl is ↦ inr (record {
        from = s;
        is_in = inl refl;
        of_prop = eqb-true s.prop prop (and_parts (s.object == object) (s.prop == prop) is).1;
        has_number = sym (cond-true (is_of object prop s) s.number (value ss object prop) is);
      })
      | inr other ↦ subst (λ n. (n ≡ pos 0) ⊎ ComesFrom (s ∷ ss) prop n)
          (sym (cond-false (is_of object prop s) s.number (value ss object prop) other))
          (comes_or_further s ss prop (value ss object prop) (value-cases ss object prop))
    ]

value-put_here : (s : Setting) (ss : List Setting) (o q : ℕ) (n : ℤ) (object prop : ℕ) → (s.object ≡ o) → (s.prop ≡ q)
    → (if (o == object) && (q == prop) then n else value ss object prop)
    ≡ (if (o == object) && (q == prop) then n else (if is_of object prop s then s.number else value ss object prop))
value-put_here s ss o q n object prop same_object same_prop =
    let e : is_of object prop s ≡ ((o == object) && (q == prop)) = rw (same_object, same_prop) refl in
    elim (cases_Bool ((o == object) && (q == prop))) [
      | inl is ↦ rw is refl
      | inr other ↦ rw (e, other) refl
    ]

value-put_further : (s : Setting) (ss : List Setting) (o q : ℕ) (n : ℤ) (object prop : ℕ) → is_of o q s ≡ false
    → value (put ss o q n) object prop ≡ (if (o == object) && (q == prop) then n else value ss object prop)
    → (if is_of object prop s then s.number else value (put ss o q n) object prop)
    ≡ (if (o == object) && (q == prop) then n else (if is_of object prop s then s.number else value ss object prop))
value-put_further s ss o q n object prop other rest =
    elim (cases_Bool ((o == object) && (q == prop))) [
      | inl is ↦ (let both = and_parts (o == object) (q == prop) is in
          let e : is_of object prop s ≡ false = rw (← eqb-true o object both.0, ← eqb-true q prop both.1) other in
          rw (e, rest, is) refl)
      | inr apart ↦ rw (rest, apart) refl
    ]

-- a property that is put has the number, and others stay
pub value-put : (values : List Setting) (o q : ℕ) (n : ℤ) (object prop : ℕ) → value (put values o q n) object prop
    ≡ (if (o == object) && (q == prop) then n else value values object prop)
value-put [] o q n object prop = refl
value-put (s ∷ ss) o q n object prop =
    elim (cases_Bool (is_of o q s)) [
      | inl is ↦ (let both = and_parts (s.object == o) (s.prop == q) is in
          ap (λ values. value values object prop) (cond-true (is_of o q s) (setting o q n ∷ ss) (s ∷ put ss o q n) is)
          ∙ value-put_here s ss o q n object prop (eqb-true s.object o both.0) (eqb-true s.prop q both.1))
      | inr other ↦
          ap (λ values. value values object prop) (cond-false (is_of o q s) (setting o q n ∷ ss) (s ∷ put ss o q n) other)
          ∙ value-put_further s ss o q n object prop other (value-put ss o q n object prop)
    ]

-- an assignment sets a property of an object
abbrev pub targets : Assign → ℕ → ℕ → Bool
targets a object prop = (object_of a == object) && (prop_of a.prop == prop)

-- the value after one assignment
pub value-assign : (things : List Thing) (values : List Setting) (a : Assign) (object prop : ℕ) → is_kept prop ≡ true
    → value (assign things values a) object prop ≡ (if targets a object prop then number_of things a.value else value values object prop)
value-assign things values a object prop kept =
    elim (cases_Bool (is_kept (prop_of a.prop))) [
      | inl keeps ↦ ap (λ vs. value vs object prop)
          (cond-true (is_kept (prop_of a.prop)) (put values (object_of a) (prop_of a.prop) (number_of things a.value)) values keeps) ∙
          value-put values (object_of a) (prop_of a.prop) (number_of things a.value) object prop
      | inr loses ↦ (let apart : targets a object prop ≡ false = not_of_kept a object prop kept loses in
          ap (λ vs. value vs object prop) (cond-false (is_kept (prop_of a.prop))
          (put values (object_of a) (prop_of a.prop) (number_of things a.value)) values loses)
          ∙ sym (cond-false (targets a object prop) (number_of things a.value) (value values object prop) apart))
    ]
  where
    not_of_kept : (a : Assign) (object prop : ℕ) → is_kept prop ≡ true → is_kept (prop_of a.prop) ≡ false → targets a object prop ≡ false
    not_of_kept a object prop kept loses =
        elim (cases_Bool (targets a object prop)) [
          | inl is ↦ (let same = eqb-true (prop_of a.prop) prop (and_parts (object_of a == object) (prop_of a.prop == prop) is).1 in
              let e : is_kept prop ≡ false = subst (λ q. is_kept q ≡ false) same loses in absurd cc)
          | inr apart ↦ apart
        ]

-- an assignment to another object
value-assign_other : (things : List Thing) (values : List Setting) (a : Assign) (object prop : ℕ) → (object_of a == object) ≡ false
    → value (assign things values a) object prop ≡ value values object prop
value-assign_other things values a object prop other =
    let apart : targets a object prop ≡ false = and_left (object_of a == object) (prop_of a.prop == prop) other in
    elim (cases_Bool (is_kept (prop_of a.prop))) [
      | inl keeps ↦ ap (λ vs. value vs object prop)
          (cond-true (is_kept (prop_of a.prop)) (put values (object_of a) (prop_of a.prop) (number_of things a.value)) values keeps)
          ∙ value-put values (object_of a) (prop_of a.prop) (number_of things a.value) object prop ∙ cond-false (targets a object prop)
          (number_of things a.value) (value values object prop) apart
      | inr loses ↦ ap (λ vs. value vs object prop)
          (cond-false (is_kept (prop_of a.prop)) (put values (object_of a) (prop_of a.prop) (number_of things a.value)) values loses)
    ]

-- an object that no assignment sets keeps its values
pub value-apply_unset : (things : List Thing) (values : List Setting) (assigns : List Assign) (object prop : ℕ) → sets assigns object
    ≡ false → value (apply things values assigns) object prop ≡ value values object prop
value-apply_unset things values [] object prop unset = refl
value-apply_unset things values (a ∷ assigns) object prop unset =
    let parts = or_parts (object_of a == object) (sets assigns object) unset in
    value-apply_unset things (assign things values a) assigns object prop parts.1 ∙ value-assign_other things values a object prop parts.0
