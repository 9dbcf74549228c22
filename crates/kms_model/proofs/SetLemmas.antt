-- What the table of properties says of what may be set.
use Rattle.std.proofs.Common.{◌≡◌, ℕ, Bool, true, false, inl, inr, List, [], ◌∷◌, Option, Some, None, if◌then◌else◌, refl, subst}
use Rattle.std.specs.Prelude.{not, ◌&&◌, ◌==◌, find, IfSome}
use Rattle.std.specs.List.{list_all}
use Rattle.std.proofs.lemmas.Bool.{and_parts, eqb-true, false≢true, cases_Bool}
use Rattle.kms_model.specs.declared.objects.Kind.{Kind}
use Rattle.kms_model.specs.declared.objects.Kind.TheVariants.{Crtc, Plane, Conn, Enc}
use Rattle.kms_model.specs.declared.properties.TheConstants.{FB_ID, CRTC_ID, ACTIVE, GAMMA_LUT, MODE_ID}
use Rattle.kms_model.specs.declared.ranges.Range.{Range}
use Rattle.kms_model.specs.declared.ranges.Range.TheVariants.{Numbers, Thing, CrtcName}
use Rattle.kms_model.specs.declared.sets.SetValue.{SetValue}
use Rattle.kms_model.specs.declared.sets.SetValue.TheVariants as to
use Rattle.kms_model.specs.Device.Properties.{Property, property, properties, has_id}
use Rattle.kms_model.specs.Request.Apply.{is_kept}
use Rattle.kms_model.specs.Request.Refusals.{is_of_kind, is_immutable_row}
use Rattle.kms_model.specs.Request.SetRanges.{range_takes, is_among_row, may_set}
use Rattle.kms_model.proofs.PropertyTable.{find-list_all}

-- which property of a kind of object takes a kind of value
abbrev pub takes : Kind → ℕ → SetValue → Bool
takes Plane prop (to.Num n) = is_kept prop && (not (prop == FB_ID) && not (prop == CRTC_ID))
takes Crtc prop (to.Num n) = prop == ACTIVE
takes Plane prop (to.Fb fb) = prop == FB_ID
takes Crtc prop (to.Mode mode) = prop == MODE_ID
takes Crtc prop (to.Gamma gamma) = prop == GAMMA_LUT
takes Plane prop (to.Crtc id) = prop == CRTC_ID
takes Conn prop (to.Crtc id) = prop == CRTC_ID
takes kind prop to.Fence = not (is_kept prop)
takes _ _ _ = false

-- a range has values of a kind
abbrev has_kind : ℕ → Range → SetValue → Bool
has_kind prop (Numbers low high) (to.Num n) = true
has_kind prop range value = range_takes prop range value

abbrev row_takes : Kind → SetValue → Property → Bool
row_takes kind value p = if is_of_kind kind (Some p) && has_kind p.id p.range value then takes kind p.id value else true

-- what holds of each kind holds of every kind
pub of_each_kind : (P : Kind → Type 0) → P Crtc → P Plane → P Conn → P Enc → (kind : Kind) → P kind
of_each_kind P crtc plane conn enc Crtc = crtc
of_each_kind P crtc plane conn enc Plane = plane
of_each_kind P crtc plane conn enc Conn = conn
of_each_kind P crtc plane conn enc Enc = enc

rows_take : (kind : Kind) (value : SetValue) → list_all (row_takes kind value) properties ≡ true
rows_take kind (to.Num n) = of_each_kind (λ k. list_all (row_takes k (to.Num n)) properties ≡ true) refl refl refl refl kind
rows_take kind (to.Fb fb) = of_each_kind (λ k. list_all (row_takes k (to.Fb fb)) properties ≡ true) refl refl refl refl kind
rows_take kind (to.Mode mode) = of_each_kind (λ k. list_all (row_takes k (to.Mode mode)) properties ≡ true) refl refl refl refl kind
rows_take kind (to.Gamma gamma) = of_each_kind (λ k. list_all (row_takes k (to.Gamma gamma)) properties ≡ true) refl refl refl refl kind
rows_take kind (to.Crtc id) = of_each_kind (λ k. list_all (row_takes k (to.Crtc id)) properties ≡ true) refl refl refl refl kind
rows_take kind to.Fence = of_each_kind (λ k. list_all (row_takes k to.Fence) properties ≡ true) refl refl refl refl kind

has_kind-among : (prop : ℕ) (range : Range) (value : SetValue) → range_takes prop range value ≡ true → has_kind prop range value ≡ true
has_kind-among prop (Numbers low high) (to.Num n) h = refl
has_kind-among prop (Numbers low high) (to.Fb fb) h = h
has_kind-among prop (Numbers low high) (to.Mode mode) h = h
has_kind-among prop (Numbers low high) (to.Gamma gamma) h = h
has_kind-among prop (Numbers low high) (to.Crtc id) h = h
has_kind-among prop (Numbers low high) to.Fence h = h
has_kind-among prop (Thing none) value h = h
has_kind-among prop CrtcName value h = h

-- what a search finds passes its test
pub find-passes : {A : Type 0} (q : A → Bool) (xs : List A) → IfSome (find q xs) (λ x. q x ≡ true)
find-passes q [] = tt
find-passes {A} q (x ∷ xs) =
    elim (cases_Bool (q x)) [
      | inl is ↦ rw is is
      | inr other ↦ rw other (find-passes q xs)
    ]

row_means : (kind : Kind) (prop : ℕ) (value : SetValue) (row : Option Property) → IfSome row (λ p. row_takes kind value p ≡ true)
    → IfSome row (λ p. has_id prop p ≡ true)
    → (is_of_kind kind row && (not (is_immutable_row row) && is_among_row row value)) ≡ true → takes kind prop value ≡ true
row_means kind prop value None good found h = absurd (false≢true h)
row_means kind prop value (Some p) good found h =
    let parts = and_parts (is_of_kind kind (Some p)) (not p.immutable && range_takes p.id p.range value) h in
    let among : range_takes p.id p.range value ≡ true = (and_parts (not p.immutable) (range_takes p.id p.range value) parts.1).1 in
    let both : takes kind p.id value ≡ true = rw (parts.0, has_kind-among p.id p.range value among) at good in
    subst (λ id. takes kind id value ≡ true) (eqb-true p.id prop found) both

-- which property may be set to a kind of value
pub may_set-takes : (kind : Kind) (prop : ℕ) (value : SetValue) → may_set kind prop value ≡ true → takes kind prop value ≡ true
may_set-takes kind prop value h =
    row_means kind prop value (property prop) (find-list_all (row_takes kind value) (has_id prop) properties (rows_take kind value))
    (find-passes (has_id prop) properties) h
