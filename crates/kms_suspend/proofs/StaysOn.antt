-- Planes and connectors that are on a CRTC are on one with a mode.
use Rattle.std.proofs.Common.{◌≡◌, ℕ, ◌<◌, Bool, true, false, List, [], ◌∷◌, length, Option, Some, None, inl, inr, refl, sym, ap, ◌∙◌}
use Rattle.std.proofs.Common.{subst, arith}
use Rattle.std.specs.Prelude.{◌==◌, filter, is_none, is_some, nat_lt, not}
use Rattle.std.proofs.lemmas.Bool.{cases_Bool, cond-false, cond-true, eq-eqb, false≢true, lt-ltb}
use Rattle.kms_model.specs.declared.objects.Kind.{Kind}
use Rattle.kms_model.specs.declared.objects.Kind.TheVariants as kind
use Rattle.kms_model.specs.declared.objects.Mode.{Mode}
use Rattle.kms_model.specs.declared.objects.Topology.{Topology}
use Rattle.kms_model.specs.declared.replies.TheConstants.Refusal.{CRTC_NOT_ENABLED}
use Rattle.kms_model.specs.declared.states.PlaneState.{PlaneState}
use Rattle.kms_model.specs.declared.worlds.World.{World}
use Rattle.kms_model.specs.Device.Objects.{count_of, ids_of, object_id}
use Rattle.kms_model.specs.Device.Sound.{IsSound}
use Rattle.kms_model.specs.Device.States.{crtc_at, mode_at, plane_at}
use Rattle.kms_model.specs.Firsts.{refused_if}
use Rattle.kms_model.specs.Order.Suspending.{has_crtc_at, has_mode_at}
use Rattle.kms_model.specs.Request.Checks.{shown_refusal}
use Rattle.kms_model.specs.Request.Named.{differs, is_routed}
use Rattle.kms_model.proofs.Items.{IsIn, ids-has, number_if-none, or_else-none}
use Rattle.kms_model.proofs.TouchedLemmas.{accepts}
use Rattle.kms_suspend.specs.Parts.{is_in_use}

module _ (t : Topology) (w : World) (sound : IsSound t w) where
  some_of : (o : Option Mode) → is_none o ≡ false → is_some o ≡ true
  some_of (Some m) e = refl
  some_of None e = absurd cc

  -- a plane's CRTC has a mode, else it would be refused
  enabled : (profile : ℕ) (mode : Option Mode) (state : PlaneState) → (state.crtc == 0) ≡ false
      → shown_refusal profile mode state ≡ None → is_some mode ≡ true
  unfolding shown_refusal
  enabled profile mode state on none =
      let all = sym (cond-false (state.crtc == 0) None _ on) ∙ none in
      some_of mode (number_if-none _ _ (or_else-none (refused_if CRTC_NOT_ENABLED (is_none mode)) _ all).first_none)

  not_false : (b : Bool) → not b ≡ true → b ≡ false
  not_false false e = refl
  not_false true e = absurd cc

  plane_enabled : (i : ℕ) → i < count_of t kind.Plane → has_crtc_at w (object_id kind.Plane i) ≡ true
      → has_mode_at w (crtc_at w.values (object_id kind.Plane i)) ≡ true
  plane_enabled i low has =
      enabled t.profile (mode_at w.things w.values (crtc_at w.values (object_id kind.Plane i)))
      (plane_at w.things w.values (object_id kind.Plane i)) (not_false _ has)
      ((accepts t w sound).shown (object_id kind.Plane i) (ids-has t kind.Plane i low))

  one_there : (x : ℕ) (xs : List ℕ) → nat_lt 0 (length (x ∷ xs)) ≡ true
  one_there x xs = lt-ltb 0 (length (x ∷ xs)) (omega arith)

  -- a connector's CRTC has a mode: it has a connector
  some_on : (c : ℕ) (conns : List ℕ) (conn : ℕ) → IsIn conn conns → crtc_at w.values conn ≡ c
      → nat_lt 0 (length (filter (λ x. crtc_at w.values x == c) conns)) ≡ true
  some_on c [] conn is on = absurd is
  some_on c (x ∷ xs) conn (inl same) on =
      let here : (crtc_at w.values x == c) ≡ true = eq-eqb (crtc_at w.values x) c (ap (crtc_at w.values) same ∙ on) in
      ap (λ ys. nat_lt 0 (length ys)) (cond-true (crtc_at w.values x == c) (x ∷ filter (λ y. crtc_at w.values y == c) xs) _ here)
      ∙ one_there x (filter (λ y. crtc_at w.values y == c) xs)
  some_on c (x ∷ xs) conn (inr rest) on = elim (cases_Bool (crtc_at w.values x == c)) [
    | inl here ↦ ap (λ ys. nat_lt 0 (length ys)) (cond-true (crtc_at w.values x == c) (x ∷ filter (λ y. crtc_at w.values y == c) xs) _ here)
        ∙ one_there x (filter (λ y. crtc_at w.values y == c) xs)
    | inr away ↦ ap (λ ys. nat_lt 0 (length ys)) (cond-false (crtc_at w.values x == c) _ (filter (λ y. crtc_at w.values y == c) xs) away)
        ∙ some_on c xs conn rest on
  ]

  routed : (has some : Bool) → differs has some ≡ false → some ≡ true → has ≡ true
  routed true some e on = refl
  routed false some e on = absurd (false≢true (sym e ∙ on))

  conn_enabled : (i j : ℕ) → i < count_of t kind.Conn → j < count_of t kind.Crtc
      → crtc_at w.values (object_id kind.Conn i) ≡ object_id kind.Crtc j → has_mode_at w (object_id kind.Crtc j) ≡ true
  conn_enabled i j low within on =
      routed (is_some (mode_at w.things w.values (object_id kind.Crtc j))) _
      (number_if-none _ _ ((accepts t w sound).routes (object_id kind.Crtc j) (ids-has t kind.Crtc j within)))
      (some_on (object_id kind.Crtc j) (ids_of t kind.Conn) (object_id kind.Conn i) (ids-has t kind.Conn i low) on)

  -- so what is in use is on no CRTC without a mode
  pub on_other : (k : Kind) (i j : ℕ) → is_routed k ≡ true → i < count_of t k → j < count_of t kind.Crtc → is_in_use w k i ≡ true
      → has_mode_at w (object_id kind.Crtc j) ≡ false
      → crtc_at w.values (object_id k i) ≡ object_id kind.Crtc j → ⊥
  on_other kind.Plane i j is low within used none on = false≢true
      (sym none ∙ subst (λ c. has_mode_at w c ≡ true) on (plane_enabled i low used))
  on_other kind.Conn i j is low within used none on = false≢true (sym none ∙ conn_enabled i j low within on)
  on_other kind.Crtc i j is low within used none on = false≢true is
  on_other kind.Enc i j is low within used none on = false≢true is
