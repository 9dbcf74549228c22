-- What the first row that passes a test passes besides.
use Rattle.std.proofs.Common.{◌≡◌, ℕ, Bool, true, false, List, [], ◌∷◌, Option, Some, None, if◌then◌else◌, inl, inr, refl, sym, subst, ◌∙◌}
use Rattle.std.specs.Prelude.{◌&&◌, find, is_some, IfSome}
use Rattle.std.specs.List.{list_any}
use Rattle.std.specs.Str.{bytes_eq}
use Rattle.std.proofs.lemmas.Bool.{and_parts, cases_Bool, cond-true, cond-false, eq-eqb}
use Rattle.kms_model.specs.declared.objects.Kind.{Kind}
use Rattle.kms_model.specs.Device.Properties.{Property, has_id, is_in_profile, is_named, properties, property_in, property_named, same_kind}

-- a row that a name finds in a profile is found by its id there
in_profile : (profile : ℕ) (kind : Kind) (name : List ℕ) (ps : List Property) (p : Property)
    → find (is_named profile kind name) ps ≡ Some p → is_some (find (λ q. has_id p.id q && is_in_profile profile q) ps) ≡ true
in_profile profile kind name [] p found = absurd cc
in_profile profile kind name (q ∷ qs) p found =
    elim (cases_Bool (is_named profile kind name q)) [
      | inl is ↦ (let same : Some q ≡ Some p = sym
          (cond-true (is_named profile kind name q) (Some q) (find (is_named profile kind name) qs) is) ∙ found in
          let parts = and_parts (list_any (same_kind kind) q.kinds) (bytes_eq q.name name && is_in_profile profile q) is in
          let within : is_in_profile profile q ≡ true = (and_parts (bytes_eq q.name name) (is_in_profile profile q) parts.1).1 in
          let own : q ≡ p = cc in
          subst (λ r. is_some (find (λ s. has_id r.id s && is_in_profile profile s) (q ∷ qs)) ≡ true) own
          (rw (eq-eqb q.id q.id refl, within) refl))
      | inr other ↦ either (has_id p.id q && is_in_profile profile q) q (find (λ s. has_id p.id s && is_in_profile profile s) qs)
          (in_profile profile kind name qs p (sym (cond-false (is_named profile kind name q) (Some q) (find (is_named profile kind name) qs)
          other) ∙ found))
    ]
  where
    either : (b : Bool) (first : Property) (rest : Option Property) → is_some rest ≡ true → is_some (if b then Some first else rest) ≡ true
    either true first rest some = refl
    either false first rest some = some

pub named-in_profile : (profile : ℕ) (kind : Kind) (name : List ℕ)
    → IfSome (property_named profile kind name) (λ p. is_some (property_in profile p.id) ≡ true)
named-in_profile profile kind name = go (property_named profile kind name) refl
  where
    go : (row : Option Property) → property_named profile kind name ≡ row → IfSome row (λ p. is_some (property_in profile p.id) ≡ true)
    go None found = tt
    go (Some p) found = in_profile profile kind name properties p found
