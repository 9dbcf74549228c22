-- What the table of properties says of its own rows.
use Rattle.std.proofs.Common.{◌≡◌, ℕ, Bool, true, false, List, [], ◌∷◌, Option, Some, None, if◌then◌else◌, inl, inr, refl, sym, ap, ◌∙◌}
use Rattle.std.specs.Prelude.{◌&&◌, bit_or, codes, find, fold, map, IfSome}
use Rattle.std.specs.List.{AllByRecursion, list_all}
use Rattle.std.proofs.lemmas.Bool.{and_parts, cases_Bool, cond-true, cond-false, eqb-true}
use Rattle.kms_model.specs.declared.objects.Kind.{Kind}
use Rattle.kms_model.specs.declared.objects.Kind.TheVariants.{Crtc, Enc}
use Rattle.kms_model.specs.Device.Properties.{Property, all_flags, flags, format_of, formats, has_id, properties, property, property_id}
use Rattle.kms_model.specs.Device.Properties.{property_in, range_of, immutable_of, name_of, is_in_profile, is_named, is_property}
use Rattle.kms_model.specs.Device.Properties.{property_named}
use Rattle.kms_model.specs.Request.Refusals.{is_of_kind}

-- what each item passes, the first that passes another test passes
pub find-list_all : {A : Type 0} (p q : A → Bool) (xs : List A) → list_all p xs ≡ true → IfSome (find q xs) (λ x. p x ≡ true)
find-list_all p q [] h = tt
find-list_all p q (x ∷ xs) h = elim (q x) as (λ b. IfSome (if b then Some x else find q xs) (λ y. p y ≡ true)) [
  | true ↦ (and_parts (p x) (list_all p xs) h).0
  | false ↦ find-list_all p q xs (and_parts (p x) (list_all p xs) h).1
]

-- each row's id is an id of the table
pub all_in_table : list_all (λ p. is_property p.id) properties ≡ true
all_in_table = refl

-- the property that a name finds is in the table
pub is_property-named : (profile : ℕ) (kind : Kind) (name : List ℕ)
    → IfSome (property_named profile kind name) (λ p. is_property p.id ≡ true)
is_property-named profile kind name = find-list_all (λ p. is_property p.id) (is_named profile kind name) properties all_in_table

-- the values of each row's property are those of the row
pub ranges : map (λ p. range_of p.id) properties ≡ map (λ p. Some p.range) properties
ranges = refl

-- and so are its name, and whether no request may set it
pub names : map (λ p. name_of p.id) properties ≡ map (λ p. Some p.name) properties
names = refl

pub immutables : map (λ p. immutable_of p.id) properties ≡ map (λ p. Some p.immutable) properties
immutables = refl

-- each kind of object that has a property finds it by its name, in the first profile that has it and in the last
pub ids : map (λ p. map (λ kind. property_id p.since kind p.name) p.kinds) properties
    ≡ map (λ p. map (λ kind. Some p.id) p.kinds) properties
ids = refl

pub ids_in_2 : map (λ p. map (λ kind. property_id 2 kind p.name) p.kinds) properties ≡ map (λ p. map (λ kind. Some p.id) p.kinds) properties
ids_in_2 = refl

-- in profile 1 no name is that of a gamma table
pub no_gamma_in_1 : property_id 1 Crtc (codes "GAMMA_LUT") ≡ None
no_gamma_in_1 = refl

-- encoders have no property
pub encoders : (profile : ℕ) (name : List ℕ) → property_id profile Enc name ≡ None
encoders profile name = refl

-- each row is found by its id
pub rows_found : AllByRecursion (λ p. property p.id ≡ Some p) properties
rows_found = (
  refl,
  (
    refl,
    (
      refl,
      (
        refl,
        (
          refl,
          (refl, (refl, (refl, (refl, (refl, (refl, (refl, (refl, (refl, (refl, (refl, (refl, (refl, (refl, tt)))))))))))))),
        ),
      ),
    ),
  ),
)

-- what is found among rows with an id, and passes another test, is a row with the id
found_by_id : (id profile : ℕ) (ps : List Property) (p : Property) → AllByRecursion (λ q. property q.id ≡ Some q) ps
    → find (λ q. has_id id q && is_in_profile profile q) ps ≡ Some p → property id ≡ Some p
found_by_id id profile [] p rows found = absurd cc
found_by_id id profile (q ∷ qs) p rows found =
    elim (cases_Bool (has_id id q && is_in_profile profile q)) [
      | inl is ↦ (let same : Some q ≡ Some p = sym
          (cond-true (has_id id q && is_in_profile profile q) (Some q) (find (λ r. has_id id r && is_in_profile profile r) qs) is) ∙ found
          in
          let own : q.id ≡ id = eqb-true q.id id (and_parts (has_id id q) (is_in_profile profile q) is).0 in
          sym (ap property own) ∙ rows.0 ∙ same)
      | inr other ↦ found_by_id id profile qs p rows.1
          (sym (cond-false (has_id id q && is_in_profile profile q) (Some q) (find (λ r. has_id id r && is_in_profile profile r) qs) other)
          ∙ found)
    ]

-- the row of an id in a profile is the row of the id
pub property_in-row : (profile id : ℕ) (p : Property) → property_in profile id ≡ Some p → property id ≡ Some p
property_in-row profile id p found = found_by_id id profile properties p rows_found found

-- a kind of object that has the property of an id in a profile has it
pub of_kind-in : (profile id : ℕ) (kind : Kind) → is_of_kind kind (property_in profile id) ≡ true → is_of_kind kind (property id) ≡ true
of_kind-in profile id kind has = go (property_in profile id) refl has
  where
    go : (row : Option Property) → property_in profile id ≡ row → is_of_kind kind row ≡ true → is_of_kind kind (property id) ≡ true
    go None found is = absurd cc
    go (Some p) found is = ap (is_of_kind kind) (property_in-row profile id p found) ∙ is

-- each row's format is found by its code
pub formats_found : map (λ f. format_of f.code) formats ≡ map (λ f. Some f.format) formats
formats_found = refl

-- the flags are the bits of 0x703
pub flags_found : fold bit_or 0 (map (λ f. f.1) flags) ≡ all_flags
flags_found = refl
