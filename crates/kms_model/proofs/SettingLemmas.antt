-- What an allowed assignment sets is among its property's values.
use Rattle.std.proofs.Common.{◌≡◌, ℕ, Bool, true, false, Option, Some, None, inl, inr, refl, subst}
use Rattle.std.specs.Prelude.{not, ◌&&◌, ◌||◌, ◌==◌, IfSome}
use Rattle.std.specs.List.{list_all}
use Rattle.std.proofs.lemmas.Bool.{and_from, and_parts, cases_Bool, eqb-true, not_from_false, not-true}
use Rattle.kms_model.specs.declared.objects.Kind.{Kind}
use Rattle.kms_model.specs.declared.objects.Topology.{Topology}
use Rattle.kms_model.specs.declared.properties.TheConstants.{FB_ID, CRTC_ID, GAMMA_LUT, MODE_ID}
use Rattle.kms_model.specs.declared.ranges.Range.{Range}
use Rattle.kms_model.specs.declared.ranges.Range.TheVariants.{Numbers, Thing, CrtcName}
use Rattle.kms_model.specs.declared.scripts.Assign.{Assign}
use Rattle.kms_model.specs.declared.scripts.PropRef.{PropRef}
use Rattle.kms_model.specs.declared.scripts.PropRef.TheVariants.{Known, Unknown}
use Rattle.kms_model.specs.declared.scripts.Value.{Value}
use Rattle.kms_model.specs.declared.scripts.Value.TheVariants.{Num, Named, New, Crtc}
use Rattle.kms_model.specs.declared.worlds.Look.{Look}
use Rattle.kms_model.specs.Device.Properties.{Property, has_id, properties, property}
use Rattle.kms_model.specs.Request.Apply.{is_kept, prop_of}
use Rattle.kms_model.specs.Request.Refusals.{has_property, is_immutable_row, is_in_range, is_in_range_of, is_of_kind}
use Rattle.kms_model.specs.Request.Resolves.{IsAllowed}
use Rattle.kms_model.specs.Request.SetRanges.{range_takes, is_among_row, may_set}
use Rattle.kms_model.specs.Request.Sets.{set_value}
use Rattle.kms_model.proofs.PropertyTable.{find-list_all, of_kind-in}
use Rattle.kms_model.proofs.SetLemmas.{find-passes}

-- which properties have which kind of values
abbrev has_shape : ℕ → Range → Bool
has_shape prop (Numbers low high) = not (prop == FB_ID)
    && (not (prop == MODE_ID) && (not (prop == GAMMA_LUT) && (not (prop == CRTC_ID) && is_kept prop)))
has_shape prop (Thing none) = (prop == FB_ID) || ((prop == MODE_ID)
    || ((prop == GAMMA_LUT) || (not (prop == CRTC_ID) && not (is_kept prop))))
has_shape prop CrtcName = prop == CRTC_ID

shapes : list_all (λ p. has_shape p.id p.range) properties ≡ true
shapes = refl

-- a value of a range is set to one among the range's
among : (t : Topology) (f : ℕ → Look) (prop : ℕ) (range : Range) (v : Value) → has_shape prop range ≡ true → is_in_range t f prop range v
    ≡ true → range_takes prop range (set_value f prop v) ≡ true
among t f prop (Numbers low high) (Num n) shape within =
    let a = and_parts (not (prop == FB_ID)) _ shape in
    let b = and_parts (not (prop == MODE_ID)) _ a.1 in
    let c = and_parts (not (prop == GAMMA_LUT)) _ b.1 in
    let d = and_parts (not (prop == CRTC_ID)) (is_kept prop) c.1 in
    rw (not-true (prop == FB_ID) a.0, not-true (prop == MODE_ID) b.0, not-true (prop == GAMMA_LUT) c.0, not-true (prop == CRTC_ID) d.0, d.1)
    within
among t f prop (Numbers low high) (Named label) shape within = absurd (cc)
among t f prop (Numbers low high) (New label) shape within = absurd (cc)
among t f prop (Numbers low high) (Crtc index) shape within = absurd (cc)
among t f prop CrtcName v shape within = let same : prop ≡ CRTC_ID = eqb-true prop CRTC_ID shape in rw same refl
among t f prop (Thing none) v shape within = elim (cases_Bool (prop == FB_ID)) [
  | inl fb ↦ rw (fb, fb) refl
  | inr no_fb ↦ elim (cases_Bool (prop == MODE_ID)) [
    | inl mode ↦ rw (no_fb, mode, mode) refl
    | inr no_mode ↦ elim (cases_Bool (prop == GAMMA_LUT)) [
      | inl gamma ↦ rw (no_fb, no_mode, gamma, gamma) refl
      | inr no_gamma ↦ (let rest : (not (prop == CRTC_ID) && not (is_kept prop)) ≡ true = rw (no_fb, no_mode, no_gamma) at shape in
          let parts = and_parts (not (prop == CRTC_ID)) (not (is_kept prop)) rest in
          let fence : is_kept prop ≡ false = not-true (is_kept prop) parts.1 in
          rw (no_fb, no_mode, no_gamma, not-true (prop == CRTC_ID) parts.0, fence, fence) refl)
    ]
  ]
]

among_row : (t : Topology) (f : ℕ → Look) (prop : ℕ) (v : Value) (row : Option Property) → IfSome row (λ p. has_shape p.id p.range ≡ true)
    → IfSome row (λ p. has_id prop p ≡ true) → is_in_range_of t f v row ≡ true → is_among_row row (set_value f prop v) ≡ true
among_row t f prop v None shape found within = absurd (cc)
among_row t f prop v (Some p) shape found within =
    let P : ℕ → Type 0 = λ id. range_takes p.id p.range (set_value f id v) ≡ true in
    subst P (eqb-true p.id prop found) (among t f p.id p.range v shape within)

has_row : (t : Topology) (k : Kind) (prop : PropRef) → has_property t k prop ≡ true → is_of_kind k (property (prop_of prop)) ≡ true
has_row t k (Known id) has = of_kind-in t.profile id k has
has_row t k (Unknown name) has = absurd (cc)

-- an allowed assignment sets a property of its object's kind that may be set, to one of its values
pub may_set-allowed : (t : Topology) (f : ℕ → Look) (a : Assign) → IsAllowed t f a
    → may_set a.kind (prop_of a.prop) (set_value f (prop_of a.prop) a.value) ≡ true
may_set-allowed t f a allowed =
    let prop = prop_of a.prop in
    and_from (is_of_kind a.kind (property prop)) _ (has_row t a.kind a.prop allowed.has)
    (and_from (not (is_immutable_row (property prop))) _ (not_from_false (is_immutable_row (property prop)) allowed.mutable)
    (among_row t f prop a.value (property prop) (find-list_all (λ p. has_shape p.id p.range) (has_id prop) properties shapes)
    (find-passes (has_id prop) properties) allowed.value))
