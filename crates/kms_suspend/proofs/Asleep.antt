-- A device that is turned off: the first request is accepted in a sound world, and after it nothing is on.
use Rattle.std.proofs.Common.{◌≡◌, ℕ, ◌<◌, Bool, true, false, cond, List, [], ◌∷◌, ◌++◌, length, get_or, pos, Option, Some, None, inl, inr}
use Rattle.std.proofs.Common.{refl, sym, ap, ◌∙◌, subst, arith}
use Rattle.std.specs.Prelude.{◌&&◌, ◌||◌, ◌==◌, filter, is_none, is_some, nat_lt, not}
use Rattle.std.specs.Ordering.{int_eq}
use Rattle.std.specs.List.{list_any}
use Rattle.std.proofs.lemmas.Bool.{cases_Bool, cond-true, eq-eqb, eqb-true, ne_eqb}
use Rattle.std.proofs.lemmas.Option.{slice_get-get_or}
use Rattle.kms_model.specs.declared.objects.Kind.{Kind}
use Rattle.kms_model.specs.declared.objects.Kind.TheVariants as kind
use Rattle.kms_model.specs.declared.objects.Mode.{Mode}
use Rattle.kms_model.specs.declared.objects.PlaneInfo.{PlaneInfo}
use Rattle.kms_model.specs.declared.objects.Topology.{Topology}
use Rattle.kms_model.specs.declared.pictures.FbInfo.{FbInfo}
use Rattle.kms_model.specs.declared.pictures.Picture.TheVariants.{Off}
use Rattle.kms_model.specs.declared.properties.TheConstants.{ACTIVE, CRTC_ID, FB_ID, MODE_ID}
use Rattle.kms_model.specs.declared.replies.TheConstants.Refusal.{ACTIVE_WITHOUT_MODE}
use Rattle.kms_model.specs.declared.scripts.Request.{Request}
use Rattle.kms_model.specs.declared.scripts.Value.{Value}
use Rattle.kms_model.specs.declared.states.PlaneState.{PlaneState}
use Rattle.kms_model.specs.declared.worlds.Setting.{Setting}
use Rattle.kms_model.specs.declared.worlds.Thing.{Thing}
use Rattle.kms_model.specs.declared.worlds.World.{World}
use Rattle.kms_model.specs.Device.Objects.{count_of, first_id, ids_of, indices_of, object_id}
use Rattle.kms_model.specs.Device.Sound.{IsDevice, IsLawful}
use Rattle.kms_model.specs.Device.States.{crtc_at, framebuffer_of, mode_at, mode_of, natural, plane_at}
use Rattle.kms_model.specs.Device.World.{thing_numbered, value}
use Rattle.kms_model.specs.Firsts.{number_if}
use Rattle.kms_model.specs.Frames.Pictures.{picture}
use Rattle.kms_model.specs.Order.Suspending.{off_request}
use Rattle.kms_model.specs.Request.Apply.{after, is_kept}
use Rattle.kms_model.specs.Request.Checks.{clone_refusal_at, conn_refusal_at, conns_on, crtc_refusal_at, has_crtc, is_active, late_refusal}
use Rattle.kms_model.specs.Request.Checks.{plane_refusal, plane_refusal_at, plane_refusal_with, route_refusal_at, shown_refusal}
use Rattle.kms_model.specs.Request.Checks.{shown_refusal_at, with_ids}
use Rattle.kms_model.specs.Request.Flags.{allows_modeset, wants_event}
use Rattle.kms_model.specs.Request.Lookups.{look_up}
use Rattle.kms_model.specs.Request.Named.{differs, names, needs_modeset}
use Rattle.kms_model.specs.Request.Refusals.{assigns_refusal, early_refusal, flags_refusal}
use Rattle.kms_model.specs.Request.Touched.{asks_signal, is_asked, last_value}
use Rattle.kms_model.specs.Request.Verdict.{verdict}
use Rattle.kms_model.specs.Script.Assigning.{conn_off, crtc_off, plane_off, unset}
use Rattle.kms_model.proofs.ApplyLemmas.{number_or, value-apply}
use Rattle.kms_model.proofs.HeldValues.{filter-in}
use Rattle.kms_model.proofs.Items.{IsIn, first_some-none, ids-has, ids-in, none-number_if, number_if-none, or_else-none, or_else-nones}
use Rattle.kms_model.proofs.Items.{with_ids-has}
use Rattle.kms_model.proofs.SeenLemmas.{conns-in, planes-in}
use Rattle.kms_model.proofs.StandsLemmas.{thing_numbered-zero}
use Rattle.kms_model.proofs.TouchedLemmas.{accepts}
use Rattle.kms_suspend.specs.declared.parts.Way.TheVariants as Way
use Rattle.kms_suspend.specs.Parts.{is_in_use, part}
use Rattle.kms_suspend.proofs.LastValues.{in_range}
use Rattle.kms_suspend.proofs.Plain.{SetsShown, no_out, off-shown}
use Rattle.kms_suspend.proofs.Settable.{all_fine, append_fine, conn_off_fine, crtc_off_fine, plane_off_fine}
use Rattle.kms_suspend.proofs.WholeLasts.{at_conn, at_first, at_last}
use Rattle.kms_suspend.proofs.Wholes.{off_parts}

-- nothing is on: planes and connectors are on no CRTC and show nothing, CRTCs have no mode and are not active
pub record IsAsleep (t : Topology) (things : List Thing) (values : List Setting) : Type 0 where
  pub planes : (p : ℕ) → IsIn p (ids_of t kind.Plane) → (crtc_at values p ≡ 0) × ((plane_at things values p).fb ≡ None)
  pub conns : (o : ℕ) → IsIn o (ids_of t kind.Conn) → crtc_at values o ≡ 0
  pub crtcs : (c : ℕ) → IsIn c (ids_of t kind.Crtc) → (is_active values c ≡ false) × (mode_at things values c ≡ None)

-- a request that may take a modeset and wants no event
pub record IsPlain (r : Request) : Type 0 where
  pub event : wants_event r.flags ≡ false
  pub modeset : allows_modeset r.flags ≡ true
  pub shown : SetsShown r

off_second : (a b : Bool) → b ≡ false → (a && b) ≡ false
off_second true b off = off
off_second false b off = refl

filter_none : (p : ℕ → Bool) (xs : List ℕ) → ((x : ℕ) → IsIn x xs → p x ≡ false) → filter p xs ≡ []
filter_none p [] each = refl
filter_none p (y ∷ ys) each = rw (each y (inl refl)) (filter_none p ys (λ x is. each x (inr is)))

-- no signal is asked for
pub no_signal : (r : Request) → IsPlain r → (old new : List Setting) (c : ℕ) → asks_signal old new r c ≡ false
no_signal r plain old new c = off_second (names old new r.assigns c) _ (λ i. plain.event i || is_asked (no_out r c plain.shown i))

-- no state of a sleeping device refuses a request
module _ (t : Topology) (things : List Thing) (old new : List Setting) (r : Request) (plain : IsPlain r)
    (asleep : IsAsleep t things new) where
  no_plane : (p : ℕ × PlaneInfo) → IsIn p.0 (ids_of t kind.Plane) → plane_refusal_at things old new p ≡ None
  unfolding plane_refusal
  no_plane p is =
      let off = asleep.planes p.0 is in
      λ i. plane_refusal_with p.1 (plane_at things old p.0) (plane_at things new p.0) (off.1 i) (off.0 i == 0)

  no_crtc : (c : ℕ) → IsIn c (ids_of t kind.Crtc) → crtc_refusal_at things old new r c ≡ None
  no_crtc c is =
      or_else-nones _ _ (none-number_if _ _ (ap (λ b. b && is_none (mode_at things new c)) (asleep.crtcs c is).0))
      (none-number_if _ _ (ap (λ b. b && (not (is_active old c) && not (is_active new c))) (no_signal r plain old new c)))

  no_conn : (c : ℕ × ℕ) → IsIn c.0 (ids_of t kind.Conn) → conn_refusal_at new c ≡ None
  no_conn c is = none-number_if _ _ (ap (λ n. not (n == 0) && not (has_crtc c.1 n)) (asleep.conns c.0 is))

  no_conns : (c : ℕ) → IsIn c (ids_of t kind.Crtc) → conns_on t new c ≡ []
  no_conns c is =
      let o = ids-in t kind.Crtc c is in
      filter_none (λ conn. crtc_at new conn == c) (ids_of t kind.Conn)
      (λ conn on. ap (λ n. n == c) (asleep.conns conn on) ∙ ne_eqb 0 c (λ (e : 0 ≡ c). absurd (omega (arith, e, o.same))))

  no_clone : (c : ℕ) → IsIn c (ids_of t kind.Crtc) → clone_refusal_at t new c ≡ None
  no_clone c is = none-number_if _ _ (ap (λ conns. nat_lt 1 (length conns)) (no_conns c is))

  no_route : (c : ℕ) → IsIn c (ids_of t kind.Crtc) → route_refusal_at t things new c ≡ None
  no_route c is =
      let mode = (asleep.crtcs c is).1 in
      let conns = no_conns c is in
      none-number_if _ _ (λ i. differs (is_some (mode i)) (nat_lt 0 (length (conns i))))

  no_shown : (p : ℕ) → IsIn p (ids_of t kind.Plane) → shown_refusal_at t.profile things new p ≡ None
  unfolding shown_refusal
  no_shown p is = cond-true (crtc_at new p == 0) None _ (ap (λ n. n == 0) (asleep.planes p is).0)

  pub late-asleep : late_refusal t things old new r ≡ None
  unfolding late_refusal
  late-asleep =
      or_else-nones _ _ (none-number_if _ _ (ap (λ b. b && not (list_any (names old new r.assigns) (ids_of t kind.Crtc))) plain.event))
      (or_else-nones _ _ (first_some-none (plane_refusal_at things old new) (with_ids (first_id kind.Plane) t.planes)
      (λ p is. no_plane p (planes-in t p is)))
      (or_else-nones _ _ (first_some-none (crtc_refusal_at things old new r) (ids_of t kind.Crtc) no_crtc)
      (or_else-nones _ _ (first_some-none (conn_refusal_at new) (with_ids (first_id kind.Conn) t.conns)
      (λ c is. no_conn c (conns-in t c is)))
      (or_else-nones _ _ (first_some-none (clone_refusal_at t new) (ids_of t kind.Crtc) no_clone)
      (or_else-nones _ _ (first_some-none (route_refusal_at t things new) (ids_of t kind.Crtc) no_route)
      (or_else-nones _ _ (first_some-none (shown_refusal_at t.profile things new) (ids_of t kind.Plane) no_shown)
      (none-number_if _ _ (ap (λ b. not b && list_any (needs_modeset t things old new) (ids_of t kind.Crtc)) plain.modeset))))))))

pub off_plain : (t : Topology) (w : World) → IsPlain (off_request t w)
unfolding off_request
off_plain t w = record { event = refl; modeset = refl; shown = off-shown t w }

-- a plane on no CRTC has no framebuffer where that is accepted
no_fb : (info : PlaneInfo) (state : PlaneState) → state.crtc ≡ 0 → plane_refusal info state state ≡ None → state.fb ≡ None
unfolding plane_refusal
no_fb info state off none = go state.fb (sym (λ i. plane_refusal_with info state state state.fb (off i == 0)) ∙ none)
  where
    go : (fb : Option FbInfo) → plane_refusal_with info state state fb true ≡ None → fb ≡ None
    go None e = refl
    go (Some fb) e = absurd cc

was_off : (b : Bool) → not b ≡ false → b ≡ true
was_off true e = refl
was_off false e = absurd cc

module _ (t : Topology) (w : World) (device : IsDevice t) (lawful : IsLawful t w) where
  abbrev off : Request
  off = off_request t w

  -- what the request sets objects of the device to
  pub assigns_are : off.assigns ≡ part Way.Off t w kind.Plane ++ (part Way.Off t w kind.Conn ++ part Way.Off t w kind.Crtc)
  assigns_are = ap (λ r. r.assigns) (sym (off_parts t w))

  set_off : (o p : ℕ) (b : Bool) (v : Option Value) → is_kept p ≡ true → last_value off.assigns o p ≡ cond b v None → v ≡ Some unset
      → value (after w off) o p ≡ cond b (pos 0) (value w.values o p)
  set_off o p b v kept last is =
      value-apply w.things w.values off.assigns o p kept
      ∙ ap (λ x. number_or w.things x (value w.values o p)) (last ∙ ap (λ y. cond b y None) is)
      ∙ by b
    where
      by : (b : Bool) → number_or w.things (cond b (Some unset) None) (value w.values o p) ≡ cond b (pos 0) (value w.values o p)
      by true = refl
      by false = refl

  pub off_plane : (j p : ℕ) → j < count_of t kind.Plane → is_kept p ≡ true
      → last_value (plane_off j) (object_id kind.Plane j) p ≡ Some unset
      → value (after w off) (object_id kind.Plane j) p ≡ cond (is_in_use w kind.Plane j) (pos 0) (value w.values (object_id kind.Plane j) p)
  off_plane j p low kept is =
      set_off (object_id kind.Plane j) p (is_in_use w kind.Plane j) _ kept
      (ap (λ assigns. last_value assigns (object_id kind.Plane j) p) assigns_are
      ∙ at_first Way.Off t w device kind.Plane kind.Crtc (λ e. absurd cc) (λ e. absurd cc) (λ e. absurd cc) j p low) is

  pub off_conn : (j : ℕ) → j < count_of t kind.Conn
      → value (after w off) (object_id kind.Conn j) CRTC_ID ≡ cond (is_in_use w kind.Conn j) (pos 0)
      (value w.values (object_id kind.Conn j) CRTC_ID)
  off_conn j low =
      set_off (object_id kind.Conn j) CRTC_ID (is_in_use w kind.Conn j) _ refl
      (ap (λ assigns. last_value assigns (object_id kind.Conn j) CRTC_ID) assigns_are
      ∙ at_conn Way.Off t w device kind.Plane kind.Crtc (λ e. absurd cc) (λ e. absurd cc) (λ e. absurd cc) j CRTC_ID low)
      (rw (eq-eqb (object_id kind.Conn j) (object_id kind.Conn j) refl) refl)

  pub off_crtc : (j p : ℕ) → j < count_of t kind.Crtc → is_kept p ≡ true → last_value (crtc_off j) (object_id kind.Crtc j) p ≡ Some unset
      → value (after w off) (object_id kind.Crtc j) p ≡ cond (is_in_use w kind.Crtc j) (pos 0) (value w.values (object_id kind.Crtc j) p)
  off_crtc j p low kept is =
      set_off (object_id kind.Crtc j) p (is_in_use w kind.Crtc j) _ kept
      (ap (λ assigns. last_value assigns (object_id kind.Crtc j) p) assigns_are
      ∙ at_last Way.Off t w device kind.Plane kind.Crtc (λ e. absurd cc) (λ e. absurd cc) (λ e. absurd cc) j p low) is

  nothing : thing_numbered w.things (pos 0) ≡ None
  nothing = thing_numbered-zero 1000 w.things (omega arith) lawful.numbered.things

  plane_asleep : (j : ℕ) → j < count_of t kind.Plane → (crtc_at (after w off) (object_id kind.Plane j) ≡ 0) ×
      ((plane_at w.things (after w off) (object_id kind.Plane j)).fb ≡ None)
  plane_asleep j low =
      let o = object_id kind.Plane j in
      let crtc = off_plane j CRTC_ID low refl (rw (eq-eqb o o refl) refl) in
      let fb = off_plane j FB_ID low refl (rw (eq-eqb o o refl) refl) in
      elim (cases_Bool (is_in_use w kind.Plane j)) [
        | inl used ↦ (
          ap natural (crtc ∙ ap (λ b. cond b (pos 0) (value w.values o CRTC_ID)) used),
          ap (λ n. framebuffer_of (thing_numbered w.things n)) (fb ∙ ap (λ b. cond b (pos 0) (value w.values o FB_ID)) used)
              ∙ ap framebuffer_of nothing,
        )
        | inr free ↦ (
            let info = get_or t.planes j (record { kind = 0; crtcs = 0; formats = 0 }) in
            let none : crtc_at w.values o ≡ 0 = eqb-true (crtc_at w.values o) 0 (was_off _ free) in
            let accepted = (accepts t w lawful.sound).planes (o, info)
            (with_ids-has (first_id kind.Plane) t.planes j info (slice_get-get_or t.planes j _ low)) in (
              ap natural (crtc ∙ ap (λ b. cond b (pos 0) (value w.values o CRTC_ID)) free) ∙ none,
              ap (λ n. framebuffer_of (thing_numbered w.things n)) (fb ∙ ap (λ b. cond b (pos 0) (value w.values o FB_ID)) free)
                  ∙ no_fb info (plane_at w.things w.values o) none accepted,
            ))
      ]

  conn_asleep : (j : ℕ) → j < count_of t kind.Conn → crtc_at (after w off) (object_id kind.Conn j) ≡ 0
  conn_asleep j low =
      let o = object_id kind.Conn j in
      elim (cases_Bool (is_in_use w kind.Conn j)) [
        | inl used ↦ ap natural (off_conn j low ∙ ap (λ b. cond b (pos 0) (value w.values o CRTC_ID)) used)
        | inr free ↦ ap natural (off_conn j low ∙ ap (λ b. cond b (pos 0) (value w.values o CRTC_ID)) free)
            ∙ eqb-true (crtc_at w.values o) 0 (was_off _ free)
      ]

  no_mode : (o : Option Mode) → is_some o ≡ false → o ≡ None
  no_mode None e = refl
  no_mode (Some m) e = absurd cc

  -- a CRTC without a mode is not active
  not_on : (on : Bool) (o : Option Mode) → o ≡ None → (on && is_none o) ≡ false → on ≡ false
  not_on true None e h = absurd cc
  not_on true (Some m) e h = absurd cc
  not_on false o e h = refl

  crtc_asleep : (j : ℕ) → j < count_of t kind.Crtc → (is_active (after w off) (object_id kind.Crtc j) ≡ false) ×
      (mode_at w.things (after w off) (object_id kind.Crtc j) ≡ None)
  crtc_asleep j low =
      let o = object_id kind.Crtc j in
      let active = off_crtc j ACTIVE low refl (rw (eq-eqb o o refl) refl) in
      let mode = off_crtc j MODE_ID low refl (rw (eq-eqb o o refl) refl) in
      elim (cases_Bool (is_in_use w kind.Crtc j)) [
        | inl used ↦ (
          ap (λ n. not (int_eq n (pos 0))) (active ∙ ap (λ b. cond b (pos 0) (value w.values o ACTIVE)) used),
          ap (λ n. mode_of (thing_numbered w.things n)) (mode ∙ ap (λ b. cond b (pos 0) (value w.values o MODE_ID)) used)
              ∙ ap mode_of nothing,
        )
        | inr free ↦ (
            let none = no_mode (mode_at w.things w.values o) free in
            let refused = or_else-none (number_if ACTIVE_WITHOUT_MODE.0 (is_active w.values o && is_none (mode_at w.things w.values o))) _
            ((accepts t w lawful.sound).crtcs o (ids-has t kind.Crtc j low)) in (
              ap (λ n. not (int_eq n (pos 0))) (active ∙ ap (λ b. cond b (pos 0) (value w.values o ACTIVE)) free)
                  ∙ not_on (is_active w.values o) (mode_at w.things w.values o) none (number_if-none _ _ refused.first_none),
              ap (λ n. mode_of (thing_numbered w.things n)) (mode ∙ ap (λ b. cond b (pos 0) (value w.values o MODE_ID)) free) ∙ none,
            ))
      ]

  pub asleep : IsAsleep t w.things (after w off)
  asleep = record {
    planes = λ p is. let o = ids-in t kind.Plane p is in
        subst (λ x. (crtc_at (after w off) x ≡ 0) × ((plane_at w.things (after w off) x).fb ≡ None)) (sym o.same)
        (plane_asleep o.index o.within);
    conns = λ c is. let o = ids-in t kind.Conn c is in subst (λ x. crtc_at (after w off) x ≡ 0) (sym o.same) (conn_asleep o.index o.within);
    crtcs = λ c is. let o = ids-in t kind.Crtc c is in
        subst (λ x. (is_active (after w off) x ≡ false) × (mode_at w.things (after w off) x ≡ None)) (sym o.same)
        (crtc_asleep o.index o.within);
  }

  -- nothing is wrong with its assignments
  pub in_order : (k : Kind) (i : ℕ) → IsIn i (filter (is_in_use w k) (indices_of t k)) → i < count_of t k
  in_order k i is = let within = in_range 0 (count_of t k) i (filter-in (is_in_use w k) (indices_of t k) i is).0 in omega (arith, within.1)

  flags_fine : flags_refusal off.flags ≡ None
  unfolding off_request
  flags_fine = refl

  pub early_off : early_refusal t (look_up w) off ≡ None
  unfolding early_refusal
  early_off =
      let f = look_up w in
      or_else-nones _ _ flags_fine
      (subst (λ assigns. assigns_refusal t f [] assigns ≡ None) (sym assigns_are)
      (append_fine t f _ _ (all_fine t f plane_off _ (λ i is. plane_off_fine t f device i (in_order kind.Plane i is)))
      (append_fine t f _ _ (all_fine t f (λ i. conn_off i ∷ []) _ (λ i is. conn_off_fine t f device i (in_order kind.Conn i is)))
      (all_fine t f crtc_off _ (λ i is. crtc_off_fine t f device i (in_order kind.Crtc i is)))) []))

  pub off_accepted : verdict t w off ≡ None
  unfolding verdict
  off_accepted = or_else-nones _ _ early_off (late-asleep t w.things w.values (after w off) off (off_plain t w) asleep)

  -- each CRTC shows nothing then
  pub off_pictures : (c : ℕ) → IsIn c (ids_of t kind.Crtc) → picture t w.things (after w off) c ≡ Off
  unfolding picture
  off_pictures c is = cond-true (int_eq (value (after w off) c ACTIVE) (pos 0)) Off _ (was_off _ (asleep.crtcs c is).0)
