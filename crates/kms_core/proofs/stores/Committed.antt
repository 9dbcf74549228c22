-- The present states after a commit are those of the world that it leaves.
use Rattle.std.proofs.Common.{◌≡◌, ℕ, ◌+◌, ◌<◌, Bool, List, Some, true, false, None, arith, refl, sym, ap, ◌∙◌}
use Rattle.std.specs.Prelude.{Option, is_some, slice_get, slice_index_or}
use Rattle.std.specs.Option.{option_flatten}
use Rattle.std.proofs.lemmas.Option.{get_or_from_slice_get}
use Rattle.kms_model.specs.Device.Sound.{IsNumbered}
use Rattle.kms_model.specs.Device.Places.{state_at}
use Rattle.kms_model.specs.declared.states.Both.{Both}
use Rattle.std.proofs.lemmas.Bool.{and_from, false≢true, lt-ltb}
use Rattle.kms_model.specs.declared.objects.Kind.{Kind}
use Rattle.kms_model.specs.declared.objects.Kind.TheVariants.{Crtc, Plane, Conn}
use Rattle.kms_model.specs.declared.objects.Topology.{Topology}
use Rattle.kms_model.specs.declared.scripts.Request.{Request}
use Rattle.kms_model.specs.declared.states.Checked.{Checked}
use Rattle.kms_model.specs.declared.states.Duplicates.{Duplicates}
use Rattle.kms_model.specs.declared.states.Mask.{Mask}
use Rattle.kms_model.specs.declared.worlds.World.{World}
use Rattle.kms_model.specs.Device.Execution.{committed}
use Rattle.kms_model.specs.Device.Masks.{has_bit}
use Rattle.kms_model.specs.Device.Objects.{count_of, ids_of, object_id}
use Rattle.kms_model.specs.Device.States.{plane_at}
use Rattle.kms_model.specs.Machine.Commits.{lockable}
use Rattle.kms_model.specs.Request.Agreement.{conn_state_at, crtc_state_at}
use Rattle.kms_model.specs.Request.Apply.{after}
use Rattle.kms_model.specs.Request.Deciding.{IsChecked}
use Rattle.kms_model.specs.Request.Touched.{touches, touches_of_kind}
use Rattle.kms_model.specs.Request.Verdict.{verdict}
use Rattle.kms_model.specs.Promises.{HasSameState}
use Rattle.kms_model.proofs.Items.{IsIn, ids-has}
use Rattle.kms_model.proofs.KindsOfIds.{kind_of-object}
use Rattle.kms_model.proofs.MaskLemmas.{has_bit-mask_below}
use Rattle.kms_model.proofs.SoundKept.{sound-apply}
use Rattle.kms_model.proofs.TouchedLemmas.{HasFewObjects, IsRequestAt, few_objects}
use Rattle.kms_laws.proofs.Executed.{follows-out_fences}
use Rattle.kms_laws.proofs.HeldFrames.{untouched_same}
use Rattle.kms_laws.proofs.Words.{AreKept}
use Rattle.kms_things.specs.Present.{IsPresent}
use Rattle.kms_things.proofs.SeenStates.{present_seen}
use Rattle.kms_track.proofs.There.{in_left, in_right}
use Rattle.kms_track.specs.InStep.{HasStates}
use Rattle.kms_core.specs.SwappedIn.{IsSwappedIn}
use Rattle.kms_core.proofs.stores.AfterCommit.{swapped_agree, swapped_whole}

-- what is there in a list is there by its place
pub there_at : {S : Type 0} (states : List (Option (Both S))) (i : ℕ) → is_some (state_at states i) ≡ true
    → is_some (slice_index_or states i None) ≡ true
there_at {S} states i some = of_slot (slice_get states i) refl some where
  of_slot : (o : Option (Option (Both S))) → slice_get states i ≡ o → is_some (option_flatten o) ≡ true
      → is_some (slice_index_or states i None) ≡ true
  of_slot None is some = absurd cc
  of_slot (Some None) is some = absurd cc
  of_slot (Some (Some both)) is some = ap is_some (get_or_from_slice_get states i (Some both) None is)

-- What was not duplicated is as it was

module _ (t : Topology) (w : World) (r : Request) (at : IsRequestAt t w r) (checked : Checked) (is : IsChecked t w r checked)
    (has : HasStates checked) where
  few : HasFewObjects t
  few = few_objects t at.device

  touched_as : (kind : Kind) (i : ℕ) → i < 100 → touches t w r (object_id kind i) ≡ touches_of_kind kind t w r (object_id kind i)
  unfolding touches
  touched_as kind i low = ap (λ k. touches_of_kind k t w r (object_id kind i)) (kind_of-object kind i low)

  same_where : (kind : Kind) (i : ℕ) → IsIn (object_id kind i) (lockable t) → (touches t w r (object_id kind i) ≡ true → ⊥)
      → HasSameState t w (record w { values = after w r; commits = w.commits + 1 }) (object_id kind i)
  same_where kind i there free = by_touch (touches t w r (object_id kind i)) refl where
    by_touch : (b : Bool) → touches t w r (object_id kind i) ≡ b
        → HasSameState t w (record w { values = after w r; commits = w.commits + 1 }) (object_id kind i)
    by_touch true touched = absurd (free touched)
    by_touch false untouched = untouched_same t w r at (object_id kind i) there untouched (w.commits + 1)

  none_there : {A : Type 0} {o : Option A} → o ≡ None → is_some o ≡ true → ⊥
  none_there none some = false≢true (sym (ap is_some none) ∙ some)

  crtc_same : (i : ℕ) → i < t.crtcs → slice_index_or checked.states.crtcs i None ≡ None
      → crtc_state_at t w.things (after w r) (object_id Crtc i) ≡ crtc_state_at t w.things w.values (object_id Crtc i)
  crtc_same i low none =
      (same_where Crtc i (in_left (ids_of t Crtc) _ (object_id Crtc i) (ids-has t Crtc i low))
      (λ touched. none_there none
      (has.crtcs i (omega (arith, low, few.crtcs))
      (ap (λ (mask : Mask). has_bit mask.crtcs i) is.touched ∙ has_bit-mask_below
      (λ index. touches_of_kind Crtc t w r (object_id Crtc index)) (count_of t Crtc) i
      ∙ and_from _ _ (lt-ltb i (count_of t Crtc) low) (sym (touched_as Crtc i (omega (arith, low, few.crtcs))) ∙ touched))))).crtc
      (kind_of-object Crtc i (omega (arith, low, few.crtcs)))

  plane_same : (i : ℕ) → i < count_of t Plane → slice_index_or checked.states.planes i None ≡ None
      → plane_at w.things (after w r) (object_id Plane i) ≡ plane_at w.things w.values (object_id Plane i)
  plane_same i low none =
      (same_where Plane i (in_right (ids_of t Crtc) _ (object_id Plane i)
      (in_left (ids_of t Plane) _ (object_id Plane i) (ids-has t Plane i low)))
      (λ touched. none_there none
      (has.planes i (omega (arith, low, few.planes))
      (ap (λ (mask : Mask). has_bit mask.planes i) is.touched ∙ has_bit-mask_below
      (λ index. touches_of_kind Plane t w r (object_id Plane index)) (count_of t Plane) i
      ∙ and_from _ _ (lt-ltb i (count_of t Plane) low) (sym (touched_as Plane i (omega (arith, low, few.planes))) ∙ touched))))).plane
      (kind_of-object Plane i (omega (arith, low, few.planes)))

  conn_same : (i : ℕ) → i < count_of t Conn → slice_index_or checked.states.conns i None ≡ None
      → conn_state_at (after w r) (object_id Conn i) ≡ conn_state_at w.values (object_id Conn i)
  conn_same i low none =
      ap (λ n. record { crtc = n })
      ((same_where Conn i (in_right (ids_of t Crtc) _ (object_id Conn i)
      (in_right (ids_of t Plane) _ (object_id Conn i) (ids-has t Conn i low)))
      (λ touched. none_there none
      (has.conns i (omega (arith, low, few.conns))
      (ap (λ (mask : Mask). has_bit mask.conns i) is.touched ∙ has_bit-mask_below
      (λ index. touches_of_kind Conn t w r (object_id Conn index)) (count_of t Conn) i
      ∙ and_from _ _ (lt-ltb i (count_of t Conn) low) (sym (touched_as Conn i (omega (arith, low, few.conns))) ∙ touched))))).connector
      (kind_of-object Conn i (omega (arith, low, few.conns))))

  values_present : {present news : Duplicates} → IsPresent t w present → IsSwappedIn present checked.states news
      → IsPresent t (record w { values = after w r; commits = w.commits + 1 }) news
  values_present {present} {news} was swaps =
      let crtcs = swapped_agree (λ index. crtc_state_at t w.things w.values (object_id Crtc index))
      (λ index. crtc_state_at t w.things (after w r) (object_id Crtc index)) present.crtcs checked.states.crtcs news.crtcs t.crtcs
      swaps.crtcs was.whole.crtcs was.old.crtcs was.new.crtcs is.new.crtcs crtc_same in
      let planes = swapped_agree (λ index. plane_at w.things w.values (object_id Plane index))
      (λ index. plane_at w.things (after w r) (object_id Plane index)) present.planes checked.states.planes news.planes
      (count_of t Plane)
      swaps.planes was.whole.planes was.old.planes was.new.planes is.new.planes plane_same in
      let conns = swapped_agree (λ index. conn_state_at w.values (object_id Conn index))
      (λ index. conn_state_at (after w r) (object_id Conn index)) present.conns checked.states.conns news.conns (count_of t Conn)
      swaps.conns was.whole.conns was.old.conns was.new.conns is.new.conns conn_same in
      record {
        whole = record {
          crtcs = swapped_whole swaps.crtcs was.whole.crtcs;
          planes = swapped_whole swaps.planes was.whole.planes;
          conns = swapped_whole swaps.conns was.whole.conns;
        };
        old = record { crtcs = crtcs.0; planes = planes.0; conns = conns.0 };
        new = record { crtcs = crtcs.1; planes = planes.1; conns = conns.1 };
      }

  pub committed_present : (client : ℕ) {present news : Duplicates} → IsNumbered w → verdict t w r ≡ None → AreKept w.things
      → IsPresent t w present → IsSwappedIn present checked.states news → IsPresent t (committed t w client r).world news
  committed_present client {present} {news} numbered none kept was swaps =
      let v : World = record w { values = after w r; commits = w.commits + 1 } in
      let follows = follows-out_fences t client r.assigns v (ids_of t Crtc)
      (sound-apply t w r (w.commits + 1) (record { sound = at.sound; numbered = numbered }) none) kept in
      present_seen t v (committed t w client r).world news follows.like.values follows.like.alike (values_present was swaps)
