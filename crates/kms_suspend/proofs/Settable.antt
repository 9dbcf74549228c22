-- Assignments that both requests have, and that nothing is wrong with.
use Rattle.std.proofs.Common.{◌≡◌, ℕ, ◌<◌, true, false, List, [], ◌∷◌, ◌++◌, None, inl, inr, refl, sym, ap, subst, arith}
use Rattle.std.specs.Prelude.{◌&&◌, ◌==◌, ◌≤◌, nat_le, not}
use Rattle.std.specs.List.{flat_map, list_any}
use Rattle.std.proofs.lemmas.Bool.{and_parts, leb-true, lt-ltb}
use Rattle.std.proofs.lemmas.Bool.Decides.{eqb_tells}
use Rattle.kms_model.specs.declared.objects.Kind.{Kind}
use Rattle.kms_model.specs.declared.objects.Kind.TheVariants as kind
use Rattle.kms_model.specs.declared.objects.Topology.{Topology}
use Rattle.kms_model.specs.declared.properties.TheConstants.{ACTIVE, CRTC_ID, FB_ID, IN_FENCE_FD, MODE_ID}
use Rattle.kms_model.specs.declared.scripts.Assign.{Assign}
use Rattle.kms_model.specs.declared.scripts.PropRef.TheVariants.{Known}
use Rattle.kms_model.specs.declared.scripts.Value.{Value}
use Rattle.kms_model.specs.declared.worlds.Look.{Look}
use Rattle.kms_model.specs.Device.Objects.{count_of}
use Rattle.kms_model.specs.Device.Sound.{IsDevice}
use Rattle.kms_model.specs.Request.Apply.{object_of, prop_of}
use Rattle.kms_model.specs.Request.Refusals.{assign_refusal, assigns_refusal, has_property, is_immutable, is_of_kind, is_value, own_refusal}
use Rattle.kms_model.specs.Request.Refusals.{names_fence}
use Rattle.kms_model.specs.Script.Assigning.{conn_off, crtc_off, plane_off}
use Rattle.kms_model.specs.Script.Generated.{assigns_to}
use Rattle.kms_model.specs.Script.Words.{between}
use Rattle.kms_model.specs.Device.Properties.{property_in}
use Rattle.kms_model.proofs.Items.{IsIn, none-number_if, or_else-none, or_else-nones}

-- the profile of a device is 1 or 2
pub by_profile : (P : ℕ → Type 0) → P 1 → P 2 → (profile : ℕ) → between 1 2 profile ≡ true → P profile
by_profile P one two profile is = elim (eqb_tells profile 1) [
  | inl first ↦ subst P (sym first.1) one
  | inr away ↦ (
      let both = and_parts (nat_le 1 profile) (nat_le profile 2) is in
      let low : 1 ≤ profile = leb-true 1 profile both.0 in
      let high : profile ≤ 2 = leb-true profile 2 both.1 in
      subst P (grind (arith, low, high, away.1)) two)
]

module _ (t : Topology) (f : ℕ → Look) where
  -- nothing is wrong with assignments, behind any others
  abbrev pub AreFine : List Assign → Type 0
  AreFine assigns = (earlier : List Assign) → assigns_refusal t f earlier assigns ≡ None

  pub none_fine : AreFine []
  unfolding assigns_refusal
  none_fine earlier = refl

  -- one with which nothing is wrong by itself, and that names no fence
  pub and_fine : (a : Assign) (assigns : List Assign) → own_refusal t f a ≡ None → (prop_of a.prop == IN_FENCE_FD) ≡ false
      → AreFine assigns → AreFine (a ∷ assigns)
  unfolding assigns_refusal assign_refusal
  and_fine a assigns own no_fence rest earlier =
      or_else-nones _ _ (or_else-nones _ _ own (none-number_if _ _ (ap (λ b. b && list_any (names_fence (object_of a)) earlier) no_fence)))
      (rest (a ∷ earlier))

  -- behind given ones alone
  append_at : (xs ys : List Assign) (earlier : List Assign) → assigns_refusal t f earlier xs ≡ None → AreFine ys
      → assigns_refusal t f earlier (xs ++ ys) ≡ None
  unfolding assigns_refusal
  append_at [] ys earlier first second = second earlier
  append_at (a ∷ xs) ys earlier first second =
      let here = or_else-none (assign_refusal t f earlier a) _ first in
      or_else-nones _ _ here.first_none (append_at xs ys (a ∷ earlier) here.second_none second)

  pub append_fine : (xs ys : List Assign) → AreFine xs → AreFine ys → AreFine (xs ++ ys)
  append_fine xs ys first second earlier = append_at xs ys earlier (first earlier) second

  pub all_fine : (g : ℕ → List Assign) (xs : List ℕ) → ((i : ℕ) → IsIn i xs → AreFine (g i)) → AreFine (flat_map g xs)
  all_fine g [] each = none_fine
  all_fine g (x ∷ xs) each = append_fine (g x) (flat_map g xs) (each x (inl refl)) (all_fine g xs (λ i is. each i (inr is)))

  -- an assignment to a property that an object of the device has, of a value among its values
  own_fine : (k : Kind) (index id : ℕ) (v : Value) → index < count_of t k → has_property t k (Known id) ≡ true
      → is_immutable (Known id) ≡ false → is_value t f (Known id) v ≡ true
      → own_refusal t f (assigns_to k index id v) ≡ None
  unfolding own_refusal
  own_fine k index id v low has changes takes =
      or_else-nones _ _ (none-number_if _ _ (ap not (lt-ltb index (count_of t k) low)))
      (or_else-nones _ _ (none-number_if _ _ (ap not has))
      (or_else-nones _ _ (none-number_if _ _ changes) (none-number_if _ _ (ap not takes))))

  module _ (device : IsDevice t) where
    has : (k : Kind) (id : ℕ) → is_of_kind k (property_in 1 id) ≡ true → is_of_kind k (property_in 2 id) ≡ true
        → has_property t k (Known id) ≡ true
    has k id one two = by_profile (λ profile. is_of_kind k (property_in profile id) ≡ true) one two t.profile device.profile

    -- the five properties
    pub active_fine : (index : ℕ) (v : Value) → index < count_of t kind.Crtc → is_value t f (Known ACTIVE) v ≡ true
        → own_refusal t f (assigns_to kind.Crtc index ACTIVE v) ≡ None
    active_fine index v low takes = own_fine kind.Crtc index ACTIVE v low (has kind.Crtc ACTIVE refl refl) refl takes

    pub mode_fine : (index : ℕ) (v : Value) → index < count_of t kind.Crtc → is_value t f (Known MODE_ID) v ≡ true
        → own_refusal t f (assigns_to kind.Crtc index MODE_ID v) ≡ None
    mode_fine index v low takes = own_fine kind.Crtc index MODE_ID v low (has kind.Crtc MODE_ID refl refl) refl takes

    pub fb_fine : (index : ℕ) (v : Value) → index < count_of t kind.Plane → is_value t f (Known FB_ID) v ≡ true
        → own_refusal t f (assigns_to kind.Plane index FB_ID v) ≡ None
    fb_fine index v low takes = own_fine kind.Plane index FB_ID v low (has kind.Plane FB_ID refl refl) refl takes

    pub plane_crtc_fine : (index : ℕ) (v : Value) → index < count_of t kind.Plane → is_value t f (Known CRTC_ID) v ≡ true
        → own_refusal t f (assigns_to kind.Plane index CRTC_ID v) ≡ None
    plane_crtc_fine index v low takes = own_fine kind.Plane index CRTC_ID v low (has kind.Plane CRTC_ID refl refl) refl takes

    pub conn_crtc_fine : (index : ℕ) (v : Value) → index < count_of t kind.Conn → is_value t f (Known CRTC_ID) v ≡ true
        → own_refusal t f (assigns_to kind.Conn index CRTC_ID v) ≡ None
    conn_crtc_fine index v low takes = own_fine kind.Conn index CRTC_ID v low (has kind.Conn CRTC_ID refl refl) refl takes

    -- what turns objects off
    pub plane_off_fine : (index : ℕ) → index < count_of t kind.Plane → AreFine (plane_off index)
    plane_off_fine index low = and_fine _ _ (fb_fine index _ low refl) refl
        (and_fine _ [] (plane_crtc_fine index _ low refl) refl none_fine)

    pub conn_off_fine : (index : ℕ) → index < count_of t kind.Conn → AreFine (conn_off index ∷ [])
    conn_off_fine index low = and_fine _ [] (conn_crtc_fine index _ low refl) refl none_fine

    pub crtc_off_fine : (index : ℕ) → index < count_of t kind.Crtc → AreFine (crtc_off index)
    crtc_off_fine index low = and_fine _ _ (active_fine index _ low refl) refl (and_fine _ [] (mode_fine index _ low refl) refl none_fine)
