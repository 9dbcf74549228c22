-- The CRTCs of planes and connectors before and after a request.
use Rattle.std.proofs.Common.{◌≡◌, ◌∙◌, ◌⊎◌, ℕ, List, [], ◌∷◌, true, Option, Some, None, pos, inl, inr, refl, sym, ap, subst}
use Rattle.std.specs.Prelude.{All, length}
use Rattle.std.specs.List.{AllByRecursion}
use Rattle.std.proofs.lemmas.Bool.{ltb-true}
use Rattle.std.proofs.lemmas.Bool.Decides.{Decides-int_eq}
use Rattle.std.proofs.lemmas.List.Elements.{recursion_from_All}
use Rattle.kms_model.specs.declared.objects.Kind.{Kind}
use Rattle.kms_model.specs.declared.objects.Kind.TheVariants.{Crtc, Plane, Conn, Enc}
use Rattle.kms_model.specs.declared.objects.Topology.{Topology}
use Rattle.kms_model.specs.declared.properties.TheConstants.{CRTC_ID}
use Rattle.kms_model.specs.declared.ranges.Range.TheVariants.{CrtcName}
use Rattle.kms_model.specs.declared.scripts.Assign.{Assign}
use Rattle.kms_model.specs.declared.scripts.PropRef.{PropRef}
use Rattle.kms_model.specs.declared.scripts.PropRef.TheVariants.{Known, Unknown}
use Rattle.kms_model.specs.declared.scripts.Value.{Value}
use Rattle.kms_model.specs.declared.scripts.Value.TheVariants as value
use Rattle.kms_model.specs.declared.worlds.Look.{Look}
use Rattle.kms_model.specs.declared.worlds.Setting.{Setting}
use Rattle.kms_model.specs.declared.worlds.Thing as worlds
use Rattle.kms_model.specs.Device.Objects.{exists, object_id}
use Rattle.kms_model.specs.Device.World.{value as value_of}
use Rattle.kms_model.specs.Device.States.{crtc_at, natural}
use Rattle.kms_model.specs.Device.Properties.{property}
use Rattle.kms_model.specs.Request.Apply.{apply, number_of, prop_of}
use Rattle.kms_model.specs.Request.Named.{is_routed}
use Rattle.kms_model.specs.Request.Refusals.{has_property, is_in_range, is_in_range_of, is_of_kind}
use Rattle.kms_model.specs.Request.Resolves.{IsAllowed}
use Rattle.kms_model.specs.Request.Sets.{crtc_value}
use Rattle.kms_model.specs.Device.Sound.{IsCrtcOrNone}
use Rattle.kms_model.specs.Device.Sound.IsCrtcOrNone.{IsNone, IsCrtc}
use Rattle.kms_model.specs.Request.Touched.{last_value}
use Rattle.kms_model.proofs.ApplyLemmas.{number_or, value-apply}
use Rattle.kms_model.proofs.HeldValues.{ArePlainHeld}
use Rattle.kms_model.proofs.Items.{ids-has}
use Rattle.kms_model.proofs.LastLemmas.{IsIn, set_by}
use Rattle.kms_model.proofs.PropertyTable.{of_kind-in}
use Rattle.kms_model.proofs.SeenLemmas.{conn_crtc-held, plane_crtc-held}

-- what holds of all items holds of one
pub all_in : {A : Type 0} (P : A → Type 0) (xs : List A) (x : A) → All P xs → IsIn x xs → P x
all_in {A} P xs x all member = go xs (recursion_from_All P xs all) member
  where
    go : (ys : List A) → AllByRecursion P ys → IsIn x ys → P x
    go [] rest member = absurd member
    go (y ∷ ys) rest (inl same) = subst P same rest.0
    go (y ∷ ys) rest (inr later) = go ys rest.1 later

-- the CRTC that a value of CRTC_ID is
number_is : (t : Topology) (f : ℕ → Look) (things : List worlds.Thing) (v : Value) → is_in_range t f CRTC_ID CrtcName v ≡ true
    → crtc_value v ≡ natural (number_of things v)
number_is t f things (value.Num n) within = sym (ap natural ((Decides-int_eq n (pos 0)).0 within))
number_is t f things (value.Named label) within = absurd (cc)
number_is t f things (value.New label) within = absurd (cc)
number_is t f things (value.Crtc index) within = refl

crtc_of : (t : Topology) (f : ℕ → Look) (v : Value) → is_in_range t f CRTC_ID CrtcName v ≡ true → IsCrtcOrNone t (crtc_value v)
crtc_of t f (value.Num n) within = IsNone refl
crtc_of t f (value.Named label) within = absurd (cc)
crtc_of t f (value.New label) within = absurd (cc)
crtc_of t f (value.Crtc index) within = IsCrtc index (ltb-true index t.crtcs within) refl

-- the value of an allowed assignment of CRTC_ID
pub crtc_in_range : (t : Topology) (f : ℕ → Look) (a : Assign) → IsAllowed t f a → prop_of a.prop ≡ CRTC_ID
    → is_in_range t f CRTC_ID CrtcName a.value ≡ true
crtc_in_range t f a allowed is =
    let P : ℕ → Type 0 = λ id. is_in_range_of t f a.value (property id) ≡ true in
    subst P is allowed.value

-- an object with a CRTC_ID is a plane or a connector
pub routed : (t : Topology) (k : Kind) (prop : PropRef) → has_property t k prop ≡ true → prop_of prop ≡ CRTC_ID → is_routed k ≡ true
routed t k (Unknown name) has is = absurd (cc)
routed t Crtc (Known id) has is = (let wrong : is_of_kind Crtc (property CRTC_ID)
    ≡ true = subst (λ i. is_of_kind Crtc (property i) ≡ true) is (of_kind-in t.profile id Crtc has) in absurd (cc))
routed t Enc (Known id) has is = (let wrong : is_of_kind Enc (property CRTC_ID)
    ≡ true = subst (λ i. is_of_kind Enc (property i) ≡ true) is (of_kind-in t.profile id Enc has) in absurd (cc))
routed t Plane (Known id) has is = refl
routed t Conn (Known id) has is = refl

-- The CRTC after a request: that of the last CRTC_ID, or else the one before.
pub record CrtcAfter (t : Topology) (f : ℕ → Look) (old new : List Setting) (assigns : List Assign) (object : ℕ) : Type 0 where
  pub by : ((last_value assigns object CRTC_ID ≡ None) × (crtc_at new object ≡ crtc_at old object))
      ⊎ ((v : Value) × (last_value assigns object CRTC_ID ≡ Some v) × (crtc_at new object ≡ crtc_value v) × IsCrtcOrNone t (crtc_value v))

crtc_after_of : (t : Topology) (f : ℕ → Look) (things : List worlds.Thing) (old new : List Setting) (assigns : List Assign) (object : ℕ)
    (last : Option Value) → All (IsAllowed t f) assigns
    → last_value assigns object CRTC_ID ≡ last → value_of new object CRTC_ID ≡ number_or things last (value_of old object CRTC_ID)
    → CrtcAfter t f old new assigns object
crtc_after_of t f things old new assigns object None allowed is number = record { by = inl (is, ap natural number) }
crtc_after_of t f things old new assigns object (Some v) allowed is number =
    let by = set_by assigns object CRTC_ID v is in
    let range = crtc_in_range t f by.item (all_in (IsAllowed t f) assigns by.item allowed by.member) by.prop_is in
    let within : is_in_range t f CRTC_ID CrtcName v ≡ true = subst (λ u. is_in_range t f CRTC_ID CrtcName u ≡ true) by.value_is range in
    record { by = inr (v, is, ap natural number ∙ sym (number_is t f things v within), crtc_of t f v within) }

pub crtc_after : (t : Topology) (f : ℕ → Look) (things : List worlds.Thing) (old : List Setting) (assigns : List Assign) (object : ℕ)
    → All (IsAllowed t f) assigns → CrtcAfter t f old (apply things old assigns) assigns object
crtc_after t f things old assigns object allowed =
    crtc_after_of t f things old (apply things old assigns) assigns object (last_value assigns object CRTC_ID) allowed refl
    (value-apply things old assigns object CRTC_ID refl)

-- the CRTC of a plane or a connector before a request, and after it, is one of the device's or none
pub crtc_before_held : (t : Topology) (things : List worlds.Thing) (values : List Setting) (k : Kind) (index : ℕ)
    → ArePlainHeld t things values → is_routed k ≡ true → exists t k index ≡ true → IsCrtcOrNone t (crtc_at values (object_id k index))
crtc_before_held t things values Crtc index held routes there = absurd (cc)
crtc_before_held t things values Plane index held routes there = plane_crtc-held t things values (object_id Plane index) held
    (ids-has t Plane index (ltb-true index (length t.planes) there))
crtc_before_held t things values Conn index held routes there = conn_crtc-held t things values (object_id Conn index) held
    (ids-has t Conn index (ltb-true index (length t.conns) there))
crtc_before_held t things values Enc index held routes there = absurd (cc)

pub crtc_after_held : (t : Topology) (f : ℕ → Look) (things : List worlds.Thing) (old : List Setting) (assigns : List Assign) (k : Kind)
    (index : ℕ) → ArePlainHeld t things old → All (IsAllowed t f) assigns → is_routed k ≡ true → exists t k index ≡ true
    → IsCrtcOrNone t (crtc_at (apply things old assigns) (object_id k index))
crtc_after_held t f things old assigns k index held allowed routes there =
    elim ((crtc_after t f things old assigns (object_id k index) allowed).by) [
      | inl kept ↦ subst (IsCrtcOrNone t) (sym kept.1) (crtc_before_held t things old k index held routes there)
      | inr set ↦ subst (IsCrtcOrNone t) (sym set.2) set.3
    ]
