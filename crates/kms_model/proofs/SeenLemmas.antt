-- What a request's second part says of things depends on what is seen of them alone.
use Rattle.std.proofs.Common.{◌≡◌, ℕ, ◌+◌, true, List, [], ◌∷◌, ◌++◌, length, Option, Some, inl, inr, refl, sym, ap, ◌∙◌, subst}
use Rattle.std.specs.Prelude.{◌||◌, ℤ, pos, slice_get}
use Rattle.std.specs.Ordering.{int_eq}
use Rattle.std.proofs.lemmas.Bool.{or_cases}
use Rattle.std.proofs.lemmas.Bool.Decides.{Decides-int_eq}
use Rattle.kms_model.specs.declared.objects.Kind.TheVariants as kind
use Rattle.kms_model.specs.declared.objects.Mode.{Mode}
use Rattle.kms_model.specs.declared.objects.PlaneInfo.{PlaneInfo}
use Rattle.kms_model.specs.declared.objects.Topology.{Topology}
use Rattle.kms_model.specs.declared.properties.TheConstants.{FB_ID, CRTC_ID, GAMMA_LUT, MODE_ID}
use Rattle.kms_model.specs.declared.scripts.Request.{Request}
use Rattle.kms_model.specs.declared.states.PlaneState.{PlaneState}
use Rattle.kms_model.specs.declared.worlds.Setting.{Setting}
use Rattle.kms_model.specs.declared.worlds.Thing.{Thing}
use Rattle.kms_model.specs.Device.Objects.{first_id, ids_of}
use Rattle.kms_model.specs.Device.World.{value}
use Rattle.kms_model.specs.Device.States.{natural, gamma_at, mode_at, crtc_at, plane_at, plane_with}
use Rattle.kms_model.specs.Request.Named.{needs_modeset}
use Rattle.kms_model.specs.Device.Properties.{Property}
use Rattle.kms_model.specs.Device.Sound.IsCrtcOrNone.{IsNone, IsCrtc}
use Rattle.kms_model.specs.Device.Sound.{AreNumbered, IsCrtcOrNone, is_thing, is_crtc, kept_properties, are_held}
use Rattle.kms_model.specs.Device.Closing.{closed_in}
use Rattle.kms_model.specs.Request.Checks.{with_ids, is_active, plane_refusal_at, crtc_refusal, crtc_refusal_at, route_refusal_at}
use Rattle.kms_model.specs.Request.Checks.{shown_refusal, shown_refusal_at, late_refusal}
use Rattle.kms_model.specs.Request.Touched.{asks_signal}
use Rattle.kms_model.proofs.Items.{IsIn, IsObject, ids-in, ids-has, IsWithId, with_ids-in, first_some-same, list_any-same, list_any-some}
use Rattle.kms_model.proofs.Items.{Passes}
use Rattle.kms_model.proofs.ThingLemmas.{IsSeenAlike, seen-closed}
use Rattle.kms_model.proofs.HeldValues.{AreAllHeld, ArePlainHeld, all_held-from, seen-held}

-- What values hold

numbered_crtc : (t : Topology) (number : ℤ) (found : Passes (λ crtc. int_eq number (pos crtc)) (ids_of t kind.Crtc))
    → IsCrtcOrNone t (natural number)
numbered_crtc t number found =
    let e : number ≡ pos found.item = (Decides-int_eq number (pos found.item)).0 found.holds in
    let o : IsObject t kind.Crtc found.item = ids-in t kind.Crtc found.item found.is_in in
    IsCrtc o.index o.within (ap natural e ∙ o.same)

pub crtc-held : (t : Topology) (number : ℤ) → (int_eq number (pos 0) || is_crtc t number) ≡ true → IsCrtcOrNone t (natural number)
crtc-held t number held =
    elim (or_cases (int_eq number (pos 0)) (is_crtc t number) held) [
      | inl is_zero ↦ IsNone (ap natural ((Decides-int_eq number (pos 0)).0 is_zero))
      | inr is ↦ numbered_crtc t number (list_any-some (λ crtc. int_eq number (pos crtc)) (ids_of t kind.Crtc) is)
    ]

pub row-at : (ps : List Property) (i : ℕ) (p : Property) → slice_get ps i ≡ Some p → IsIn p ps
row-at [] i p is = absurd cc
row-at (q ∷ qs) ℕ.zero p is = inl cc
row-at (q ∷ qs) (ℕ.suc i) p is = inr (row-at qs i p is)

-- the CRTC of a plane or a connector
pub plane_crtc-held : (t : Topology) (things : List Thing) (values : List Setting) (plane : ℕ) → ArePlainHeld t things values
    → IsIn plane (ids_of t kind.Plane) → IsCrtcOrNone t (crtc_at values plane)
plane_crtc-held t things values plane all is = crtc-held t (value values plane CRTC_ID)
    (all.planes.at plane _ is (row-at (kept_properties kind.Plane) 2 _ refl) tt)

pub conn_crtc-held : (t : Topology) (things : List Thing) (values : List Setting) (conn : ℕ) → ArePlainHeld t things values
    → IsIn conn (ids_of t kind.Conn) → IsCrtcOrNone t (crtc_at values conn)
conn_crtc-held t things values conn all is = crtc-held t (value values conn CRTC_ID)
    (all.conns.at conn _ is (row-at (kept_properties kind.Conn) 0 _ refl) tt)

pub fb-held : (t : Topology) (things : List Thing) (values : List Setting) (plane : ℕ) → AreAllHeld t things values
    → IsIn plane (ids_of t kind.Plane) → is_thing things FB_ID (pos 0) (value values plane FB_ID) ≡ true
fb-held t things values plane all is = all.planes.at plane _ is (row-at (kept_properties kind.Plane) 1 _ refl)

pub mode-held : (t : Topology) (things : List Thing) (values : List Setting) (crtc : ℕ) → AreAllHeld t things values
    → IsIn crtc (ids_of t kind.Crtc) → is_thing things MODE_ID (pos 0) (value values crtc MODE_ID) ≡ true
mode-held t things values crtc all is = all.crtcs.at crtc _ is (row-at (kept_properties kind.Crtc) 1 _ refl)

pub gamma-held : (t : Topology) (things : List Thing) (values : List Setting) (crtc : ℕ) → AreAllHeld t things values
    → IsIn crtc (ids_of t kind.Crtc) → is_thing things GAMMA_LUT (pos 0) (value values crtc GAMMA_LUT) ≡ true
gamma-held t things values crtc all is = all.crtcs.at crtc _ is (row-at (kept_properties kind.Crtc) 2 _ refl)

-- What is seen of a device's things

-- two lists of things show the same under the numbers that a device's planes and CRTCs have
pub record AreSeenAlike (t : Topology) (xs ys : List Thing) (values : List Setting) : Type 0 where
  pub planes : (plane : ℕ) → IsIn plane (ids_of t kind.Plane) → IsSeenAlike xs ys (value values plane FB_ID)
  pub crtcs : (crtc : ℕ) → IsIn crtc (ids_of t kind.Crtc) → IsSeenAlike xs ys (value values crtc MODE_ID)
  pub gammas : (crtc : ℕ) → IsIn crtc (ids_of t kind.Crtc) → IsSeenAlike xs ys (value values crtc GAMMA_LUT)

-- a thing more: what is held is seen alike
pub alike-push : (t : Topology) (things : List Thing) (u : Thing) (values : List Setting) → AreNumbered 1000 things → u.id ≡ 1000
    + length things → are_held t things values ≡ true → AreSeenAlike t things (things ++ u ∷ []) values
alike-push t things u values numbered next held =
    let all : AreAllHeld t things values = all_held-from t things values held in
    record {
      planes = λ plane is. seen-held t things u FB_ID (value values plane FB_ID) numbered next (fb-held t things values plane all is);
      crtcs = λ crtc is. seen-held t things u MODE_ID (value values crtc MODE_ID) numbered next (mode-held t things values crtc all is);
      gammas = λ crtc is. seen-held t things u GAMMA_LUT (value values crtc GAMMA_LUT) numbered next
          (gamma-held t things values crtc all is);
    }

-- a thing that is closed
pub alike-closed : (t : Topology) (things : List Thing) (id : ℕ) (values : List Setting)
    → AreSeenAlike t things (closed_in things id) values
alike-closed t things id values = record {
  planes = λ plane is. seen-closed things id (value values plane FB_ID);
  crtcs = λ crtc is. seen-closed things id (value values crtc MODE_ID);
  gammas = λ crtc is. seen-closed things id (value values crtc GAMMA_LUT);
}

pub plane-seen : (t : Topology) (xs ys : List Thing) (values : List Setting) (plane : ℕ) → AreSeenAlike t xs ys values
    → IsIn plane (ids_of t kind.Plane) → plane_at xs values plane ≡ plane_at ys values plane
plane-seen t xs ys values plane alike is = ap (plane_with (value values plane)) (alike.planes plane is).fb

pub mode-seen : (t : Topology) (xs ys : List Thing) (values : List Setting) (crtc : ℕ) → AreSeenAlike t xs ys values
    → IsIn crtc (ids_of t kind.Crtc) → mode_at xs values crtc ≡ mode_at ys values crtc
mode-seen t xs ys values crtc alike is = (alike.crtcs crtc is).mode

pub gamma-seen : (t : Topology) (xs ys : List Thing) (values : List Setting) (crtc : ℕ) → AreSeenAlike t xs ys values
    → IsIn crtc (ids_of t kind.Crtc) → gamma_at xs values crtc ≡ gamma_at ys values crtc
gamma-seen t xs ys values crtc alike is = (alike.gammas crtc is).gamma

-- planes with their infos have the ids of planes
pub planes-in : (t : Topology) (p : ℕ × PlaneInfo) → IsIn p (with_ids (first_id kind.Plane) t.planes) → IsIn p.0 (ids_of t kind.Plane)
planes-in t p is =
    let at : IsWithId (first_id kind.Plane) t.planes p = with_ids-in (first_id kind.Plane) t.planes p is in
    subst (λ id. IsIn id (ids_of t kind.Plane)) (sym at.same) (ids-has t kind.Plane at.index at.within)

pub conns-in : (t : Topology) (c : ℕ × ℕ) → IsIn c (with_ids (first_id kind.Conn) t.conns) → IsIn c.0 (ids_of t kind.Conn)
conns-in t c is =
    let at : IsWithId (first_id kind.Conn) t.conns c = with_ids-in (first_id kind.Conn) t.conns c is in
    subst (λ id. IsIn id (ids_of t kind.Conn)) (sym at.same) (ids-has t kind.Conn at.index at.within)

-- a plane on no CRTC is not shown, whatever mode there is
pub shown-off : (profile : ℕ) (a b : Option Mode) (s : PlaneState) → s.crtc ≡ 0 → shown_refusal profile a s ≡ shown_refusal profile b s
unfolding shown_refusal
shown-off profile a b s off = rw off refl

shown-seen : (t : Topology) (xs ys : List Thing) (values : List Setting) (plane : ℕ) → AreSeenAlike t xs ys values
    → IsIn plane (ids_of t kind.Plane) → IsCrtcOrNone t (crtc_at values plane)
    → shown_refusal t.profile (mode_at xs values (crtc_at values plane)) (plane_at ys values plane)
    ≡ shown_refusal t.profile (mode_at ys values (crtc_at values plane)) (plane_at ys values plane)
shown-seen t xs ys values plane alike is (IsNone off) = shown-off t.profile (mode_at xs values (crtc_at values plane))
    (mode_at ys values (crtc_at values plane)) (plane_at ys values plane) off
shown-seen t xs ys values plane alike is (IsCrtc index within same) =
    let on : IsIn (crtc_at values plane) (ids_of t kind.Crtc) = subst (λ id. IsIn id (ids_of t kind.Crtc)) (sym same)
    (ids-has t kind.Crtc index within) in
    ap (λ m. shown_refusal t.profile m (plane_at ys values plane)) (mode-seen t xs ys values (crtc_at values plane) alike on)

-- The second part of a verdict is the same over lists of things that show the same.
pub late-seen : (t : Topology) (xs ys : List Thing) (old new : List Setting) (r : Request) → AreSeenAlike t xs ys old
    → AreSeenAlike t xs ys new → ArePlainHeld t xs new → late_refusal t xs old new r ≡ late_refusal t ys old new r
unfolding late_refusal
late-seen t xs ys old new r before after held =
    let planes = first_some-same (plane_refusal_at xs old new) (plane_refusal_at ys old new) (with_ids (first_id kind.Plane) t.planes)
    (λ p is. rw (plane-seen t xs ys old p.0 before (planes-in t p is), plane-seen t xs ys new p.0 after (planes-in t p is)) refl) in
    let crtcs = first_some-same (crtc_refusal_at xs old new r) (crtc_refusal_at ys old new r) (ids_of t kind.Crtc)
    (λ crtc is. ap (crtc_refusal (asks_signal old new r crtc) (is_active old crtc) (is_active new crtc))
    (mode-seen t xs ys new crtc after is)) in
    let routes = first_some-same (route_refusal_at t xs new) (route_refusal_at t ys new) (ids_of t kind.Crtc)
    (λ crtc is. rw (mode-seen t xs ys new crtc after is) refl) in
    let shown = first_some-same (shown_refusal_at t.profile xs new) (shown_refusal_at t.profile ys new) (ids_of t kind.Plane)
    (λ plane is. ap (shown_refusal t.profile (mode_at xs new (crtc_at new plane))) (plane-seen t xs ys new plane after is) ∙ shown-seen t xs
    ys new plane after is (plane_crtc-held t xs new plane held is)) in
    let modesets = list_any-same (needs_modeset t xs old new) (needs_modeset t ys old new) (ids_of t kind.Crtc)
    (λ crtc is. rw (mode-seen t xs ys old crtc before is, mode-seen t xs ys new crtc after is) refl) in
    rw (planes, crtcs, routes, shown, modesets) refl
