-- What a tail answers is what the machine has of its commit.
use Rattle.std.proofs.Common.{◌≡◌, ℕ, ◌<◌, List, get_or, true, Option, Some, None, arith, sym, ap, ◌∙◌}
use Rattle.std.specs.Prelude.{find, is_none, is_some, IfSome, nat_lt, not, slice_get, ◌&&◌}
use Rattle.std.specs.Option.{option_map}
use Rattle.std.proofs.lemmas.Bool.{or_right}
use Rattle.kms_model.specs.declared.objects.Kind.{Kind}
use Rattle.kms_model.specs.declared.objects.Kind.TheVariants.{Crtc, Plane}
use Rattle.kms_model.specs.declared.objects.Topology.{Topology}
use Rattle.kms_model.specs.declared.runs.Latch.{Latch}
use Rattle.kms_model.specs.declared.scripts.Request.{Request}
use Rattle.kms_model.specs.declared.states.Both.{Both}
use Rattle.kms_model.specs.declared.states.CrtcState.{CrtcState}
use Rattle.kms_model.specs.declared.states.Mask.{Mask}
use Rattle.kms_model.specs.declared.states.PlaneState.{PlaneState}
use Rattle.kms_model.specs.declared.worlds.World.{World}
use Rattle.kms_model.specs.Device.Masks.{has_bit}
use Rattle.kms_model.specs.Device.Objects.{count_of, ids_of, object_id}
use Rattle.kms_model.specs.Device.Sound.{IsDevice}
use Rattle.kms_model.specs.Firsts.{or_else}
use Rattle.kms_model.specs.Machine.Commits.{commit_at, commit_names, commit_touches, has_latched, has_pair, is_all_flushed, is_all_latched}
use Rattle.kms_model.specs.Machine.Commits.{is_all_written, new_connector, new_crtc, new_plane, new_values, old_plane, out_fence_of}
use Rattle.kms_model.specs.Machine.Commits.{registered}
use Rattle.kms_model.specs.Machine.State.{DeviceState}
use Rattle.kms_model.specs.Machine.Steps.{next_flush, next_write}
use Rattle.kms_model.specs.Request.Apply.{after}
use Rattle.kms_model.specs.Request.Named.{names}
use Rattle.kms_model.specs.Request.Touched.{sets, touches, touches_crtc, touches_of_kind, touches_routed}
use Rattle.kms_model.proofs.KindsOfIds.{kind_of-object}
use Rattle.kms_model.proofs.MaskLemmas.{has_bit-mask_below}
use Rattle.kms_model.proofs.TouchedLemmas.{HasFewObjects, few_objects}
use Rattle.kms_track.specs.declared.tail.Tail.{Tail}
use Rattle.kms_track.specs.InStep.{AreStates, IsTailOf, old_crtc}
use Rattle.kms_track.specs.Tails.{connector_of, first_left, next_flush_of, next_latch_of, next_write_of}
use Rattle.kms_track.proofs.CheckedLemmas.{got}
use Rattle.kms_track.proofs.Lefts.{all_over, connector_is, find_both, is_none_mapped, left_of}

module _ (t : Topology) (d : DeviceState) (latches : List Latch) (k : ℕ) (x : Tail) (device : IsDevice t)
    (is : IsTailOf t d.commits d.marks latches k x) where
  few : HasFewObjects t
  few = few_objects t device

  w : World
  w = (commit_at t d.commits k).world

  r : Request
  r = (commit_at t d.commits k).request

  of_kind : (kind : Kind) (i : ℕ) → i < 100
      → commit_touches t d.commits k (object_id kind i) ≡ touches_of_kind kind t w r (object_id kind i)
  unfolding commit_touches touches w r
  of_kind kind i low = ap (λ a. touches_of_kind a t w r (object_id kind i)) (kind_of-object kind i low)

  pub touched_crtc : (i : ℕ) → i < 4
      → has_bit x.checked.touched.crtcs i ≡ (nat_lt i (count_of t Crtc) && commit_touches t d.commits k (object_id Crtc i))
  unfolding w r
  touched_crtc i low =
      ap (λ (m : Mask). has_bit m.crtcs i) is.checked.is.touched
      ∙ (has_bit-mask_below (λ index. touches_crtc w.values (after w r) r.assigns (object_id Crtc index)) (count_of t Crtc) i
      ∙ ap (λ b. nat_lt i (count_of t Crtc) && b) (sym (of_kind Crtc i (omega (arith, low)))))

  pub touched_plane : (i : ℕ) → i < 16
      → has_bit x.checked.touched.planes i ≡ (nat_lt i (count_of t Plane) && commit_touches t d.commits k (object_id Plane i))
  unfolding w r
  touched_plane i low =
      ap (λ (m : Mask). has_bit m.planes i) is.checked.is.touched
      ∙ (has_bit-mask_below (λ index. touches_routed t w.things w.values (after w r) r.assigns (object_id Plane index)) (count_of t Plane) i
      ∙ ap (λ b. nat_lt i (count_of t Plane) && b) (sym (of_kind Plane i (omega (arith, low)))))

  pub named_crtc : (i : ℕ) → i < 4
      → has_bit x.checked.named i ≡ (nat_lt i (count_of t Crtc) && commit_names t d.commits k (object_id Crtc i))
  unfolding commit_names w r
  named_crtc i low = ap (λ m. has_bit m i) is.checked.is.named
      ∙ has_bit-mask_below (λ index. names w.values (after w r) r.assigns (object_id Crtc index)) (count_of t Crtc) i

  -- a CRTC that is named is touched
  pub named_touched : (i : ℕ) → i < 4 → commit_names t d.commits k (object_id Crtc i) ≡ true
      → commit_touches t d.commits k (object_id Crtc i) ≡ true
  unfolding commit_names w r
  named_touched i low named = of_kind Crtc i (omega (arith, low)) ∙ or_right (sets r.assigns (object_id Crtc i))
      (names w.values (after w r) r.assigns (object_id Crtc i)) named

  pub write_is : next_write_of x ≡ next_write t d k
  unfolding next_write
  write_is = sym (
      find_both (λ object. commit_touches t d.commits k object && not (has_pair d.marks.written k object)) (ids_of t Crtc) (ids_of t Plane)
      ∙ (ap (λ o. or_else o (find (λ object. commit_touches t d.commits k object && not (has_pair d.marks.written k object))
      (ids_of t Plane)))
      (left_of t Crtc (commit_touches t d.commits k) (has_pair d.marks.written k) x.checked.touched.crtcs x.progress.crtcs 4 few.crtcs
      touched_crtc is.progress.crtcs)
      ∙ ap (λ o. or_else (option_map (object_id Crtc) (first_left x.checked.touched.crtcs x.progress.crtcs 4)) o)
      (left_of t Plane (commit_touches t d.commits k) (has_pair d.marks.written k) x.checked.touched.planes x.progress.planes 16 few.planes
      touched_plane is.progress.planes))
      )

  pub flush_is : option_map (object_id Crtc) (next_flush_of x) ≡ next_flush t d k
  unfolding next_flush
  flush_is = sym (left_of t Crtc (commit_names t d.commits k) (has_pair d.marks.flushed k) x.checked.named x.progress.flushed 4 few.crtcs
      named_crtc is.progress.flushed)

  pub written_is : is_none (next_write_of x) ≡ is_all_written t d k
  unfolding is_all_written next_write
  written_is = ap (λ (o : Option ℕ). is_none o) write_is
      ∙ sym (all_over (commit_touches t d.commits k) (has_pair d.marks.written k) (registered t))

  pub all_flushed_is : is_none (next_flush_of x) ≡ is_all_flushed t d k
  unfolding is_all_flushed next_flush
  all_flushed_is =
      sym (is_none_mapped (object_id Crtc) (next_flush_of x)) ∙ ap (λ (o : Option ℕ). is_none o) flush_is
      ∙ sym (all_over (commit_names t d.commits k) (has_pair d.marks.flushed k) (ids_of t Crtc))

  pub all_latched_is : is_none (next_latch_of x) ≡ is_all_latched t d latches k
  unfolding is_all_latched
  all_latched_is =
      sym (is_none_mapped (object_id Crtc) (next_latch_of x))
      ∙ ap (λ (o : Option ℕ). is_none o)
      (sym (left_of t Crtc (commit_names t d.commits k) (has_latched latches k) x.checked.named x.progress.latched 4 few.crtcs
      named_crtc is.progress.latched))
      ∙ sym (all_over (commit_names t d.commits k) (has_latched latches k) (ids_of t Crtc))

  pub plane_is : (i : ℕ) (o : Option (Both PlaneState)) → get_or x.checked.states.planes i None ≡ o
      → IfSome o (AreStates (old_plane t d.commits k (object_id Plane i)) (new_plane t d.commits k (object_id Plane i)))
  unfolding old_plane new_plane
  plane_is i None there = tt
  plane_is i (Some both) there =
      (let at : slice_get x.checked.states.planes i ≡ Some (Some both) = got x.checked.states.planes i both there in
      record { old_is = is.checked.is.old.planes i both at; new_is = is.checked.is.new.planes i both at })

  pub crtc_is : (i : ℕ) (o : Option (Both CrtcState)) → get_or x.checked.states.crtcs i None ≡ o
      → IfSome o (AreStates (old_crtc t d.commits k (object_id Crtc i)) (new_crtc t d.commits k (object_id Crtc i)))
  unfolding new_crtc
  crtc_is i None there = tt
  crtc_is i (Some both) there = (let at : slice_get x.checked.states.crtcs i ≡ Some (Some both) = got x.checked.states.crtcs i both there in
      record { old_is = is.checked.is.old.crtcs i both at; new_is = is.checked.is.new.crtcs i both at })

  pub connector_at : (i : ℕ) (o : Option (Both CrtcState)) → get_or x.checked.states.crtcs i None ≡ o → is_some o ≡ true
      → connector_of o ≡ new_connector t d.commits k (object_id Crtc i)
  unfolding new_connector
  connector_at i None there some = absurd cc
  connector_at i (Some both) there some =
      (let at : slice_get x.checked.states.crtcs i ≡ Some (Some both) = got x.checked.states.crtcs i both there in
      ap (λ (s : CrtcState). connector_of (Some (record { old = both.old; new = s }))) (is.checked.is.new.crtcs i both at)
      ∙ connector_is t (new_values (commit_at t d.commits k)) (object_id Crtc i) few.conns)

  pub fence_is : (i : ℕ) → i < 4 → get_or x.signals.out_fences i None ≡ out_fence_of t d.commits k (object_id Crtc i)
  unfolding out_fence_of
  fence_is i low = is.signals.out_fences i low
