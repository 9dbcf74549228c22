-- What an accepted request leaves, and whom it names.
use Rattle.std.proofs.Common.{◌≡◌, ℕ, List, [], ◌∷◌, Bool, true, false, ◌&&◌, ◌==◌, Option, refl, sym, ap, ◌∙◌, subst, inl, inr, ◌⊎◌}
use Rattle.std.proofs.Common.{⊎_elim}
use Rattle.std.specs.Prelude.{if◌then◌else◌, is_some, not, pos}
use Rattle.std.specs.Ordering.{int_eq}
use Rattle.std.proofs.lemmas.Bool.{and_parts, and_from, or_cases, or_left, or_right, or_parts, or_from, eqb-true, eq-eqb, cases_Bool}
use Rattle.std.proofs.lemmas.Bool.{false_from_ne_true, false≢true}
use Rattle.kms_model.specs.Firsts.{one_if}
use Rattle.kms_model.specs.declared.objects.Kind.{Kind}
use Rattle.kms_model.specs.declared.objects.Kind.TheVariants.{Crtc, Plane, Conn, Enc}
use Rattle.kms_model.specs.declared.objects.Topology.{Topology}
use Rattle.kms_model.specs.declared.objects.Gamma.{Gamma}
use Rattle.kms_model.specs.declared.properties.TheConstants.{ACTIVE}
use Rattle.kms_model.specs.declared.scripts.Assign.{Assign}
use Rattle.kms_model.specs.declared.scripts.Request.{Request}
use Rattle.kms_model.specs.declared.worlds.Setting.{Setting}
use Rattle.kms_model.specs.declared.worlds.Thing.{Thing}
use Rattle.kms_model.specs.declared.worlds.World.{World}
use Rattle.kms_model.specs.Device.Objects.{ids_of}
use Rattle.kms_model.specs.Device.States.{connector_on, crtc_at, gamma_at, mode_at, plane_at}
use Rattle.kms_model.specs.Machine.Registers.{CrtcWords, crtc_words, gamma_words, mode_words}
use Rattle.kms_model.specs.Request.Agreement.{crtc_state_at}
use Rattle.kms_model.specs.Request.Apply.{after, object_of}
use Rattle.kms_model.specs.Request.Checks.{is_active}
use Rattle.kms_model.specs.Request.Named.{is_named_by, is_routed, moves_on, names, needs_modeset}
use Rattle.kms_model.specs.Request.Touched.{is_affected, sets, touches, touches_of_kind, touches_routed}
use Rattle.kms_model.proofs.AppliedValues.{value-apply_unset}
use Rattle.kms_model.proofs.Items.{IsIn, Passes, list_any-has, list_any-some}
use Rattle.kms_model.proofs.TouchedLemmas.{IsRequestAt, HasFewObjects, accepted-each, crtc_at-unset, few_objects, gamma_at-unset}
use Rattle.kms_model.proofs.TouchedLemmas.{kind_of_object, mode_at-unset, plane_at-unset, routed-unnamed, untouched-modeset}
use Rattle.kms_laws.proofs.Basics.{both_bools}
use Rattle.kms_laws.proofs.Objects.{plane_kind}

-- the words of a CRTC in values
abbrev pub words_at : Topology → List Thing → List Setting → ℕ → CrtcWords
words_at t things values crtc = crtc_words (connector_on values crtc (ids_of t Conn)) (crtc_state_at t things values crtc)

words_with : Bool → ℕ → List ℕ → Option Gamma → CrtcWords
words_with active conn mode gamma = record {
  active = one_if active;
  conn = conn;
  mode = mode;
  gamma_on = one_if (is_some gamma);
  gamma =
      gamma_words gamma;
}

pub words_same : (t : Topology) (xs ys : List Thing) (old new : List Setting) (c : ℕ) → is_active new c ≡ is_active old c
    → connector_on new c (ids_of t Conn) ≡ connector_on old c (ids_of t Conn) → mode_at ys new c ≡ mode_at xs old c
    → gamma_at ys new c ≡ gamma_at xs old c → words_at t ys new c ≡ words_at t xs old c
unfolding crtc_words words_with
words_same t xs ys old new c active conn mode gamma = (λ i. words_with (active i) (conn i) (mode_words (mode i)) (gamma i))

-- who is set is named
pub set-named : (old new : List Setting) (assigns : List Assign) (c : ℕ) → sets assigns c ≡ true → names old new assigns c ≡ true
set-named old new assigns c set =
    let found : Passes (λ a. object_of a == c) assigns = list_any-some (λ a. object_of a == c) assigns set in
    list_any-has (is_named_by old new c) assigns found.item found.is_in (or_left (object_of found.item == c) _ found.holds)

pub unnamed-unset : (old new : List Setting) (assigns : List Assign) (c : ℕ) → names old new assigns c ≡ false → sets assigns c ≡ false
unnamed-unset old new assigns c un = false_from_ne_true (sets assigns c) (λ set. both_bools _ (set-named old new assigns c set) un)

connector-same : (old new : List Setting) (c : ℕ) (conns : List ℕ) → ((k : ℕ) → IsIn k conns → (crtc_at new k == c) ≡ (crtc_at old k == c))
    → connector_on new c conns ≡ connector_on old c conns
connector-same old new c [] h = refl
connector-same old new c (k ∷ ks) h = (λ i. if h k (inl refl) i then k else connector-same old new c ks (λ q e. h q (inr e)) i)

module _ (t : Topology) (w : World) (r : Request) (at : IsRequestAt t w r) where
  -- an object of a kind is the CRTC, or is on it before or after
  abbrev pub is_on_kind : Kind → ℕ → ℕ → Bool
  is_on_kind Crtc o c = o == c
  is_on_kind Plane o c = moves_on w.values (after w r) c o
  is_on_kind Conn o c = moves_on w.values (after w r) c o
  is_on_kind Enc o c = false

  few : HasFewObjects t
  few = few_objects t at.device

  touched-routed : (p : ℕ) → IsIn p (ids_of t Plane) → touches t w r p ≡ touches_routed t w.things w.values (after w r) r.assigns p
  unfolding touches
  touched-routed p is = ap (λ kind. touches_of_kind kind t w r p) (plane_kind t p few is)

  -- a plane that is not touched stays as it is
  pub plane_frame : (p : ℕ) → IsIn p (ids_of t Plane) → touches t w r p ≡ false → plane_at w.things (after w r) p
      ≡ plane_at w.things w.values p
  plane_frame p is un =
      let parts = or_parts (sets r.assigns p) (is_affected t w.things w.values (after w r) p) (sym (touched-routed p is) ∙ un) in
      plane_at-unset w r p parts.0

  -- a CRTC that is not named stays as it is, its connector included
  pub crtc_frame : (c : ℕ) → names w.values (after w r) r.assigns c ≡ false → words_at t w.things (after w r) c
      ≡ words_at t w.things w.values c
  crtc_frame c un =
      let unset = unnamed-unset w.values (after w r) r.assigns c un in
      words_same t w.things w.things w.values (after w r) c
      (ap (λ n. not (int_eq n (pos 0))) (value-apply_unset w.things w.values r.assigns c ACTIVE unset))
      (connector-same w.values (after w r) c (ids_of t Conn) (λ k is. routed-unnamed t w r Conn c k at refl is un))
      (mode_at-unset w r c unset) (gamma_at-unset w r c unset)

  -- a CRTC that needs a modeset is named
  pub modeset_named : (c : ℕ) → needs_modeset t w.things w.values (after w r) c ≡ true → names w.values (after w r) r.assigns c ≡ true
  modeset_named c needs =
      elim (cases_Bool (names w.values (after w r) r.assigns c)) [
        | inl named ↦ named
        | inr un ↦ absurd (both_bools _ needs (untouched-modeset t w r c at
            (or_from (sets r.assigns c) _ (unnamed-unset w.values (after w r) r.assigns c un) un)))
      ]

  moved_by_set : (k : Kind) → is_routed k ≡ true → (p c : ℕ) → IsIn p (ids_of t k) → Passes (λ a. object_of a == p) r.assigns
      → moves_on w.values (after w r) c p ≡ true → names w.values (after w r) r.assigns c ≡ true
  moved_by_set k routed p c is found moves =
      let same : object_of found.item ≡ p = eqb-true (object_of found.item) p found.holds in
      let of_kind = kind_of_object t w found.item k p at.device (accepted-each t w r found.item at found.is_in) is same in
      list_any-has (is_named_by w.values (after w r) c) r.assigns found.item found.is_in
      (or_right (object_of found.item == c) _ (and_from (is_routed found.item.kind) _ (ap is_routed of_kind ∙ routed)
      (ap (λ o. moves_on w.values (after w r) c o) same ∙ moves)))

  moved_by_modeset : (p c : ℕ) → sets r.assigns p ≡ false
      → Passes (λ d. needs_modeset t w.things w.values (after w r) d && moves_on w.values (after w r) d p) (ids_of t Crtc)
      → (crtc_at w.values p ≡ c) ⊎ (crtc_at (after w r) p ≡ c) → names w.values (after w r) r.assigns c ≡ true
  moved_by_modeset p c un found on =
      let same : crtc_at (after w r) p ≡ crtc_at w.values p = crtc_at-unset w r p un in
      let two = and_parts (needs_modeset t w.things w.values (after w r) found.item) _ found.holds in
      let is_d : crtc_at w.values p ≡ found.item = ⊎_elim (λ e. eqb-true _ _ e) (λ e. sym same ∙ eqb-true _ _ e)
      (or_cases (crtc_at w.values p == found.item) _ two.1) in
      let is_c : crtc_at w.values p ≡ c = ⊎_elim (λ e. e) (λ e. sym same ∙ e) on in
      subst (λ z. names w.values (after w r) r.assigns z ≡ true) (sym is_d ∙ is_c) (modeset_named found.item two.0)

  pub moves_on-from : (p c : ℕ) → (crtc_at w.values p ≡ c) ⊎ (crtc_at (after w r) p ≡ c) → moves_on w.values (after w r) c p ≡ true
  moves_on-from p c on = ⊎_elim (λ e. or_left _ _ (eq-eqb (crtc_at w.values p) c e))
      (λ e. or_right (crtc_at w.values p == c) _ (eq-eqb (crtc_at (after w r) p) c e)) on

  -- a plane or a connector that is touched and is on a CRTC before or after makes the request name the CRTC
  routed_names : (k : Kind) → is_routed k ≡ true → (p c : ℕ) → IsIn p (ids_of t k)
      → touches_routed t w.things w.values (after w r) r.assigns p ≡ true → (crtc_at w.values p ≡ c) ⊎ (crtc_at (after w r) p ≡ c)
      → names w.values (after w r) r.assigns c ≡ true
  routed_names k routed p c is touch on =
      elim (cases_Bool (sets r.assigns p)) [
        | inl set ↦ moved_by_set k routed p c is (list_any-some (λ a. object_of a == p) r.assigns set) (moves_on-from p c on)
        | inr un ↦ moved_by_modeset p c un (list_any-some _ (ids_of t Crtc)
            (affected un (or_cases (sets r.assigns p) (is_affected t w.things w.values (after w r) p) touch))) on
      ]
    where
      affected : sets r.assigns p ≡ false → (sets r.assigns p ≡ true) ⊎ (is_affected t w.things w.values (after w r) p ≡ true)
          → is_affected t w.things w.values (after w r) p ≡ true
      affected un (inl set) = absurd (both_bools _ set un)
      affected un (inr is) = is

  pub moved_names : (p c : ℕ) → IsIn p (ids_of t Plane) → touches t w r p ≡ true → (crtc_at w.values p ≡ c) ⊎ (crtc_at (after w r) p ≡ c)
      → names w.values (after w r) r.assigns c ≡ true
  moved_names p c is touch on = routed_names Plane refl p c is (sym (touched-routed p is) ∙ touch) on

  on-either : (o c : ℕ) → moves_on w.values (after w r) c o ≡ true → (crtc_at w.values o ≡ c) ⊎ (crtc_at (after w r) o ≡ c)
  on-either o c h = ⊎_elim (λ e. inl (eqb-true _ c e)) (λ e. inr (eqb-true _ c e)) (or_cases (crtc_at w.values o == c) _ h)

  -- so does each touched object of a kind, where it is the CRTC or is on it
  pub kind_names : (k : Kind) (o c : ℕ) → IsIn o (ids_of t k) → touches_of_kind k t w r o ≡ true → is_on_kind k o c ≡ true
      → names w.values (after w r) r.assigns c ≡ true
  kind_names Crtc o c is touch on =
      subst (λ z. names w.values (after w r) r.assigns z ≡ true) (eqb-true o c on)
      (⊎_elim (λ set. set-named w.values (after w r) r.assigns o set) (λ named. named)
      (or_cases (sets r.assigns o) (names w.values (after w r) r.assigns o) touch))
  kind_names Plane o c is touch on = routed_names Plane refl o c is touch (on-either o c on)
  kind_names Conn o c is touch on = routed_names Conn refl o c is touch (on-either o c on)
  kind_names Enc o c is touch on = absurd (false≢true on)
