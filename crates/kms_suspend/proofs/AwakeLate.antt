-- The states of a device that is brought back refuse nothing: they were accepted before, and nothing was on in between.
use Rattle.std.proofs.Common.{◌≡◌, ℕ, List, length, None, sym, ap, ◌∙◌, subst}
use Rattle.std.specs.Prelude.{◌&&◌, ◌==◌, is_none, is_some, nat_lt, not}
use Rattle.std.specs.List.{list_any}
use Rattle.kms_model.specs.declared.objects.Kind.TheVariants as kind
use Rattle.kms_model.specs.declared.objects.PlaneInfo.{PlaneInfo}
use Rattle.kms_model.specs.declared.objects.Topology.{Topology}
use Rattle.kms_model.specs.declared.replies.TheConstants.Refusal.{ACTIVE_WITHOUT_MODE}
use Rattle.kms_model.specs.declared.scripts.Request.{Request}
use Rattle.kms_model.specs.declared.worlds.Setting.{Setting}
use Rattle.kms_model.specs.declared.worlds.World.{World}
use Rattle.kms_model.specs.Device.Objects.{first_id, ids_of, object_id}
use Rattle.kms_model.specs.Device.Sound.{IsCrtcOrNone, IsSound}
use Rattle.kms_model.specs.Device.Sound.IsCrtcOrNone.{IsCrtc, IsNone}
use Rattle.kms_model.specs.Device.States.{crtc_at, mode_at, plane_at}
use Rattle.kms_model.specs.Firsts.{number_if}
use Rattle.kms_model.specs.Request.Checks.{clone_refusal_at, conn_refusal, conn_refusal_at, conns_on, crtc_refusal_at, is_active}
use Rattle.kms_model.specs.Request.Checks.{late_refusal, plane_refusal, plane_refusal_at, route_refusal_at, shown_refusal, shown_refusal_at}
use Rattle.kms_model.specs.Request.Checks.{with_ids}
use Rattle.kms_model.specs.Request.Named.{differs, names, needs_modeset}
use Rattle.kms_model.proofs.HeldValues.{plain_held-from}
use Rattle.kms_model.proofs.Items.{IsIn, filter-same, first_some-none, ids-has, none-number_if, number_if-none, or_else-none, or_else-nones}
use Rattle.kms_model.proofs.SeenLemmas.{plane_crtc-held, planes-in, shown-off}
use Rattle.kms_model.proofs.TouchedLemmas.{accepts}
use Rattle.kms_suspend.proofs.Asleep.{IsAsleep, IsPlain, no_signal}
use Rattle.kms_suspend.proofs.Awake.{IsAwake, plane-on, same_active, same_crtc, same_plane}

module _ (t : Topology) (w : World) (sound : IsSound t w) (old now : List Setting) (asleep : IsAsleep t w.things old)
    (awake : IsAwake t w.things w.values now)
    (r : Request) (plain : IsPlain r) where
  plane_on : (p : ℕ × PlaneInfo) → IsIn p (with_ids (first_id kind.Plane) t.planes) → plane_refusal_at w.things old now p ≡ None
  plane_on p is =
      ap (plane_refusal p.1 (plane_at w.things old p.0)) (same_plane t w.things w.values now awake p.0)
      ∙ plane-on p.1 (plane_at w.things old p.0) (plane_at w.things w.values p.0) (asleep.planes p.0 (planes-in t p is)).0
      ((accepts t w sound).planes p is)

  crtc_on : (c : ℕ) → IsIn c (ids_of t kind.Crtc) → crtc_refusal_at w.things old now r c ≡ None
  crtc_on c is =
      let was = or_else-none (number_if ACTIVE_WITHOUT_MODE.0 (is_active w.values c && is_none (mode_at w.things w.values c))) _
      ((accepts t w sound).crtcs c is) in
      let active = same_active t w.things w.values now awake c in
      let mode = awake.modes c is in
      or_else-nones _ _ (none-number_if _ _ ((λ i. active i && is_none (mode i)) ∙ number_if-none _ _ was.first_none))
      (none-number_if _ _ (ap (λ b. b && (not (is_active old c) && not (is_active now c))) (no_signal r plain old now c)))

  conn_on : (c : ℕ × ℕ) → IsIn c (with_ids (first_id kind.Conn) t.conns) → conn_refusal_at now c ≡ None
  conn_on c is = ap (conn_refusal c.1) (same_crtc t w.things w.values now awake c.0) ∙ (accepts t w sound).conns c is

  same_conns : (c : ℕ) → conns_on t now c ≡ conns_on t w.values c
  same_conns c = filter-same (λ conn. crtc_at now conn == c) (λ conn. crtc_at w.values conn == c) (ids_of t kind.Conn)
      (λ conn is. ap (λ n. n == c) (same_crtc t w.things w.values now awake conn))

  clone_on : (c : ℕ) → IsIn c (ids_of t kind.Crtc) → clone_refusal_at t now c ≡ None
  clone_on c is = none-number_if _ _
      (ap (λ conns. nat_lt 1 (length conns)) (same_conns c) ∙ number_if-none _ _ ((accepts t w sound).clones c is))

  route_on : (c : ℕ) → IsIn c (ids_of t kind.Crtc) → route_refusal_at t w.things now c ≡ None
  route_on c is =
      let mode = awake.modes c is in
      let conns = same_conns c in
      none-number_if _ _ ((λ i. differs (is_some (mode i)) (nat_lt 0 (length (conns i))))
      ∙ number_if-none _ _ ((accepts t w sound).routes c is))

  shown_on : (p : ℕ) → IsIn p (ids_of t kind.Plane) → shown_refusal_at t.profile w.things now p ≡ None
  shown_on p is =
      let state = same_plane t w.things w.values now awake p in
      (λ i. shown_refusal t.profile (mode_at w.things now (state i).crtc) (state i))
      ∙ by_crtc (plane_crtc-held t w.things w.values p (plain_held-from t w.things w.values sound.held) is)
      ∙ (accepts t w sound).shown p is
    where
      by_crtc : IsCrtcOrNone t (crtc_at w.values p)
          → shown_refusal t.profile (mode_at w.things now (crtc_at w.values p)) (plane_at w.things w.values p)
          ≡ shown_refusal t.profile (mode_at w.things w.values (crtc_at w.values p)) (plane_at w.things w.values p)
      by_crtc (IsNone none) = shown-off t.profile (mode_at w.things now (crtc_at w.values p))
          (mode_at w.things w.values (crtc_at w.values p)) (plane_at w.things w.values p) none
      by_crtc (IsCrtc index low same) =
          ap (λ m. shown_refusal t.profile m (plane_at w.things w.values p))
          (subst (λ c. mode_at w.things now c ≡ mode_at w.things w.values c) (sym same)
          (awake.modes (object_id kind.Crtc index) (ids-has t kind.Crtc index low)))

  pub late-awake : late_refusal t w.things old now r ≡ None
  unfolding late_refusal
  late-awake =
      or_else-nones _ _ (none-number_if _ _ (ap (λ b. b && not (list_any (names old now r.assigns) (ids_of t kind.Crtc))) plain.event))
      (or_else-nones _ _ (first_some-none (plane_refusal_at w.things old now) (with_ids (first_id kind.Plane) t.planes) plane_on)
      (or_else-nones _ _ (first_some-none (crtc_refusal_at w.things old now r) (ids_of t kind.Crtc) crtc_on)
      (or_else-nones _ _ (first_some-none (conn_refusal_at now) (with_ids (first_id kind.Conn) t.conns) conn_on)
      (or_else-nones _ _ (first_some-none (clone_refusal_at t now) (ids_of t kind.Crtc) clone_on)
      (or_else-nones _ _ (first_some-none (route_refusal_at t w.things now) (ids_of t kind.Crtc) route_on)
      (or_else-nones _ _ (first_some-none (shown_refusal_at t.profile w.things now) (ids_of t kind.Plane) shown_on)
      (none-number_if _ _ (ap (λ b. not b && list_any (needs_modeset t w.things old now) (ids_of t kind.Crtc)) plain.modeset))))))))
