-- What a tracker that stands for a machine answers, in the machine's words.
use Rattle.std.proofs.Common.{◌≡◌, ℕ, ◌<◌, ◌≤◌, List, [], ◌∷◌, length, Bool, true, false, Some, None, cond, get_or, inl, inr, arith, refl}
use Rattle.std.proofs.Common.{sym, ap, ◌∙◌}
use Rattle.std.specs.Prelude.{◌&&◌, ◌||◌, not, nat_lt, find, Option, if◌then◌else◌}
use Rattle.std.specs.List.{list_all}
use Rattle.std.proofs.lemmas.Bool.{cases_Bool, cases_lt, ltb-false, ltb-true}
use borrow.Author.Tests.{le-ltb, lt-ltb}
use Rattle.kms_model.specs.declared.objects.Kind.TheVariants.{Crtc}
use Rattle.kms_model.specs.declared.objects.ObjId.{ObjId}
use Rattle.kms_model.specs.declared.objects.Topology.{Topology}
use Rattle.kms_model.specs.declared.scripts.Request.{Request}
use Rattle.kms_model.specs.declared.states.Mask.{Mask}
use Rattle.kms_model.specs.Device.Masks.{has_bit}
use Rattle.kms_model.specs.Device.Objects.{count_of}
use Rattle.kms_model.specs.Firsts.{or_else, first_some}
use Rattle.kms_model.specs.Machine.Commits.{commit_at, commit_concerns, commit_touches, has_flipped, has_latched, has_number, if_there}
use Rattle.kms_model.specs.Machine.Commits.{is_claimed, is_cleaned, is_hw_done, lockable, previous, waited_fences}
use Rattle.kms_model.specs.Machine.Effects.{commit_numbered}
use Rattle.kms_model.specs.Machine.State.{Commit, Machine}
use Rattle.kms_model.specs.Machine.Steps as steps
use Rattle.kms_model.specs.Request.Sets.{obj_id}
use Rattle.kms_model.specs.Request.Touched.{touches}
use Rattle.kms_model.proofs.Items.{IsIn}
use Rattle.kms_signal.specs.FenceSets.{FenceSet, is_signalled}
use Rattle.kms_signal.proofs.SlotLemmas.{value_above}
use Rattle.kms_track.specs.declared.tail.Tail.{Tail}
use Rattle.kms_track.specs.InStep.{IsInStep, IsKept, IsTailOf, IsWithinPlaces, is_of_device, is_there}
use Rattle.kms_track.specs.MachineLaws.{busy_answer}
use Rattle.kms_track.specs.Places.{crtc_id, is_side, mask_has, object_at_place, sides_at}
use Rattle.kms_track.specs.Tails.{all_signalled, fence_ids, flipped_at, has_latched_at}
use Rattle.kms_track.specs.Tracking.{Tracking, all_settled, busy_of, cleaned_of, done_of, flipped_of, is_gone, is_settled, last_at}
use Rattle.kms_track.specs.Tracking.{ready_of, tail_of, tail_ready, unless, with_object}
use Rattle.kms_track.proofs.CheckedLemmas.{mask_on}
use Rattle.kms_track.proofs.Kept.{all_alike}
use Rattle.kms_track.proofs.Lockables.{all_crtcs, all_lockable, first_lockable}
use Rattle.kms_track.proofs.Previous.{last_is}
use Rattle.kms_track.proofs.There.{on_index, on_place, place_lockable}

-- A commit that is kept

module _ (t : Topology) (m : Machine) (k p : ℕ) (x : Tail) (limits : IsWithinPlaces t) (place : p < 28)
    (is : IsTailOf t m.device.commits m.device.marks m.records.latches k x) where
  mask_of : mask_has x.checked.touched p
      ≡ (is_of_device t (object_at_place p) && commit_touches t m.device.commits k (object_at_place p))
  unfolding commit_touches
  mask_of = mask_on t (commit_at t m.device.commits k) x.checked p is.checked.is place

  latched_on : (i : ℕ) → i < 4 → is_of_device t (crtc_id i) ≡ true → mask_has x.checked.touched p ≡ true
      → has_latched_at x p i
      ≡ (not (commit_concerns t m.device.commits k (object_at_place p) (crtc_id i)) || has_latched m.records.latches k (crtc_id i))
  unfolding commit_concerns
  latched_on i few on has =
      ap (λ b. not b || has_bit x.progress.latched i) (sym (is.checked.on p i place few has) ∙ rw on refl)
      ∙ ap (λ b. not (commit_concerns t m.device.commits k (object_at_place p) (crtc_id i)) || b) (is.progress.latched i few)

  latched_off : (i : ℕ) → i < 4 → is_of_device t (crtc_id i) ≡ false → mask_has x.checked.touched p ≡ true
      → has_latched_at x p i ≡ true
  latched_off i few off has =
      (let side : is_side (sides_at x.checked.states p) (crtc_id i) ≡ false = rw (← is.checked.on p i place few has, off) refl in
      rw side refl)

  flipped_tail : mask_has x.checked.touched p ≡ true
      → flipped_at x p ≡ has_flipped t m.device.commits m.records.latches k (object_at_place p)
  unfolding has_flipped
  flipped_tail has =
      all_crtcs t (has_latched_at x p) _ limits.crtcs
      (λ i within. (let few : i < 4 = omega (arith, within, limits.crtcs) in
      latched_on i few (on_index t Crtc i (omega (arith, few)) ∙ lt-ltb i (count_of t Crtc) within) has))
      (λ i high few. latched_off i few (on_index t Crtc i (omega (arith, few)) ∙ le-ltb i (count_of t Crtc) high) has)

module _ (t : Topology) (m : Machine) (v : Tracking) (stands : IsInStep t m v) (limits : IsWithinPlaces t) where
  pub done_same : (k : ℕ) → k < length m.device.commits → done_of (tail_of v k) ≡ is_hw_done m.device k
  done_same k within = go (tail_of v k) (stands.kept k within) where
    go : (o : Option Tail) → IsKept t m.device.commits m.device.marks m.records.latches k o → done_of o ≡ is_hw_done m.device k
    go None kept = sym kept.1.done
    go (Some x) kept = kept.1.progress.done

  pub gone_same : (k : ℕ) → k < length m.device.commits → is_gone (tail_of v k) ≡ is_cleaned m.device k
  gone_same k within = go (tail_of v k) (stands.kept k within) where
    go : (o : Option Tail) → IsKept t m.device.commits m.device.marks m.records.latches k o → is_gone o ≡ is_cleaned m.device k
    go None kept = sym kept.0
    go (Some x) kept = sym kept.0

  flipped_same : (k p : ℕ) → k < length m.device.commits → p < 28 → is_there t p ≡ true
      → commit_touches t m.device.commits k (object_at_place p) ≡ true
      → flipped_of (tail_of v k) p ≡ has_flipped t m.device.commits m.records.latches k (object_at_place p)
  flipped_same k p within place there touched = go (tail_of v k) (stands.kept k within) where
    go : (o : Option Tail) → IsKept t m.device.commits m.device.marks m.records.latches k o
        → flipped_of o p ≡ has_flipped t m.device.commits m.records.latches k (object_at_place p)
    go None kept = sym (kept.1.flipped (object_at_place p) (place_lockable t p place there) touched)
    go (Some x) kept = flipped_tail t m k p x limits place kept.1
        (mask_of t m k p x limits place kept.1 ∙ rw (on_place t p place ∙ there) touched)

  -- The last commit that touched an object

  last_flipped : (n k p : ℕ) → n ≤ length m.device.commits → p < 28 → is_there t p ≡ true
      → previous t m.device.commits n (object_at_place p) ≡ Some k
      → (k < length m.device.commits)
      × (flipped_of (tail_of v k) p ≡ has_flipped t m.device.commits m.records.latches k (object_at_place p))
  unfolding previous
  last_flipped n k p within place there found =
      let last = last_is (λ j. commit_touches t m.device.commits j (object_at_place p)) n k found in
      let before : k < length m.device.commits = omega (arith, last.0, within) in
      (before, flipped_same k p before place there last.1)

  -- Commits that may be claimed

  settled_same : (n p : ℕ) (o : Option ℕ) → n ≤ length m.device.commits → p < 28 → is_there t p ≡ true
      → previous t m.device.commits n (object_at_place p) ≡ o
      → if_there (λ j. done_of (tail_of v j) && flipped_of (tail_of v j) p) o
      ≡ if_there (λ j. is_hw_done m.device j && has_flipped t m.device.commits m.records.latches j (object_at_place p)) o
  settled_same n p None within place there found = refl
  settled_same n p (Some j) within place there found =
      let last = last_flipped n j p within place there found in rw (done_same j last.0, last.1) refl

  settled_there : (k p : ℕ) (x : Tail) → k < length m.device.commits → p < 28 → is_there t p ≡ true
      → IsTailOf t m.device.commits m.device.marks m.records.latches k x
      → is_settled v x p
      ≡ (not (commit_touches t m.device.commits k (object_at_place p)) || steps.is_settled_for t m k (object_at_place p))
  settled_there k p x within place there is =
      let on : is_of_device t (object_at_place p) ≡ true = on_place t p place ∙ there in
      let o : Option ℕ = previous t m.device.commits k (object_at_place p) in
      ap (λ b. not b || if_there (λ j. done_of (tail_of v j) && flipped_of (tail_of v j) p) (get_or x.previous p None))
      (mask_of t m k p x limits place is ∙ rw on refl)
      ∙ (ap (λ q. not (commit_touches t m.device.commits k (object_at_place p))
      || if_there (λ j. done_of (tail_of v j) && flipped_of (tail_of v j) p) q) (is.previous_are p place on)
      ∙ ap (λ b. not (commit_touches t m.device.commits k (object_at_place p)) || b)
      (settled_same k p o (omega (arith, within)) place there refl))

  settled_gone : (k p : ℕ) (x : Tail) → p < 28 → is_there t p ≡ false
      → IsTailOf t m.device.commits m.device.marks m.records.latches k x → is_settled v x p ≡ true
  settled_gone k p x place gone is = rw (mask_of t m k p x limits place is, on_place t p place ∙ gone) refl

  signals_same : (fences : FenceSet) (ids : List (Option ℕ)) → all_signalled fences ids ≡ list_all (is_signalled fences) (fence_ids ids)
  signals_same fences [] = refl
  signals_same fences (None ∷ ids) = signals_same fences ids
  signals_same fences (Some id ∷ ids) = ap (λ b. is_signalled fences id && b) (signals_same fences ids)

  ready_kept : (fences : FenceSet) (k : ℕ) (o : Option Tail) → k < length m.device.commits
      → IsKept t m.device.commits m.device.marks m.records.latches k o
      → ((id : ℕ) → IsIn id (waited_fences t m.device.commits k) → is_signalled fences id ≡ has_number m.device.signalled id)
      → tail_ready v fences o
      ≡ (not (is_claimed m.device k) && (list_all (has_number m.device.signalled) (waited_fences t m.device.commits k)
      && list_all (λ object. not (commit_touches t m.device.commits k object) || steps.is_settled_for t m k object) (lockable t)))
  ready_kept fences k None within kept signalled = rw kept.1.claimed refl
  ready_kept fences k (Some x) within kept signalled =
      let waited : all_signalled fences x.in_fences ≡ list_all (has_number m.device.signalled) (waited_fences t m.device.commits k) =
      signals_same fences x.in_fences
      ∙ (ap (list_all (is_signalled fences)) kept.1.in_fences ∙ all_alike _ _ (waited_fences t m.device.commits k) signalled) in
      let settled : all_settled v x
      ≡ list_all (λ object. not (commit_touches t m.device.commits k object) || steps.is_settled_for t m k object) (lockable t) =
      all_lockable t (is_settled v x) _ limits (λ p place there. settled_there k p x within place there kept.1)
      (λ p place gone. settled_gone k p x place gone kept.1) in
      rw (kept.1.progress.claimed, waited, settled) refl

  pub ready_machine : (fences : FenceSet) (k : ℕ)
      → ((id : ℕ) → IsIn id (waited_fences t m.device.commits k) → is_signalled fences id ≡ has_number m.device.signalled id)
      → ready_of v fences k ≡ steps.may_claim t m k
  unfolding steps.may_claim
  ready_machine fences k signalled =
      elim (cases_lt k (length m.device.commits)) [
        | inl less ↦ rw (lt-ltb k (length m.device.commits) less) (ready_kept fences k (tail_of v k) less (stands.kept k less) signalled)
        | inr other ↦ (
            let none : tail_of v k ≡ None = value_above v.tails.slots (length m.device.commits) k stands.below other in
            rw (none, le-ltb k (length m.device.commits) other) refl
            )
      ]

  -- Busy objects

  pending_same : (p : ℕ) (o : Option ℕ) → p < 28 → is_there t p ≡ true
      → previous t m.device.commits (length m.device.commits) (object_at_place p) ≡ o
      → with_object (object_at_place p) (unless (λ k. flipped_of (tail_of v k) p) o)
      ≡ (if not (if_there (λ k. has_flipped t m.device.commits m.records.latches k (object_at_place p)) o)
      then Some (obj_id (object_at_place p), commit_numbered o) else None)
  pending_same p None place there found = refl
  pending_same p (Some k) place there found =
      rw (last_flipped (length m.device.commits) k p (omega arith) place there found).1
      (as_pair (has_flipped t m.device.commits m.records.latches k (object_at_place p)))
    where
      as_pair : (b : Bool) → with_object (object_at_place p) (if b then None else Some k)
          ≡ (if not b then Some (obj_id (object_at_place p), k) else None)
      as_pair true = refl
      as_pair false = refl

-- `is_cleaned` tells whether a commit is cleaned

pub cleaned_machine : (t : Topology) (m : Machine) (v : Tracking) (k : ℕ) → IsInStep t m v → cleaned_of v k ≡ is_cleaned m.device k
cleaned_machine t m v k stands =
    elim (cases_Bool (nat_lt k v.count)) [
      | inl low ↦ (let below = ltb-true k v.count low in rw low (kept (tail_of v k) (stands.kept k (omega (arith, below, stands.count)))))
      | inr high ↦ (let above = ltb-false k v.count high in rw high (sym (stands.untouched k (omega (arith, above, stands.count))).cleaned))
    ]
  where
    kept : (o : Option Tail) → IsKept t m.device.commits m.device.marks m.records.latches k o → is_gone o ≡ is_cleaned m.device k
    kept None is = sym is.0
    kept (Some x) is = sym is.0

-- `busy` of the objects that a request touches tells the first that is pending, and its last commit.

both_tests : (a b : Bool) (x : Option (ObjId × ℕ)) → (if a then (if b then x else None) else None) ≡ (if a && b then x else None)
both_tests true b x = refl
both_tests false b x = refl

pub chosen : (object : ℕ) (b : Bool) (o : Option ℕ)
    → with_object object (if b then o else None) ≡ (if b then with_object object o else None)
chosen object true o = refl
chosen object false o = refl

find_first : (t : Topology) (commits : List Commit) (test : ℕ → Bool) (xs : List ℕ)
    → first_some (λ x. if test x then busy_answer t commits (Some x) else None) xs ≡ busy_answer t commits (find test xs)
find_first t commits test [] = refl
find_first t commits test (x ∷ xs) =
    elim (test x) as (λ b. or_else (if b then busy_answer t commits (Some x) else None)
    (first_some (λ x. if test x then busy_answer t commits (Some x) else None) xs)
    ≡ busy_answer t commits (cond b (Some x) (find test xs))) [
      | true ↦ refl
      | false ↦ find_first t commits test xs
    ]

pub busy_machine : (t : Topology) (m : Machine) (v : Tracking) (mask : Mask) (r : Request) → IsInStep t m v → IsWithinPlaces t
    → ((p : ℕ) → p < 28 → mask_has mask p ≡ (is_of_device t (object_at_place p) && touches t m.device.world r (object_at_place p)))
    → busy_of v mask ≡ busy_answer t m.device.commits (steps.first_pending t m r)
unfolding steps.first_pending steps.is_pending
busy_machine t m v mask r stands limits named =
    first_lockable t _
    (λ o. if touches t m.device.world r o && steps.is_pending t m o then busy_answer t m.device.commits (Some o) else None) limits
    here (λ p place gone. rw (named p place, on_place t p place ∙ gone) refl)
    ∙ find_first t m.device.commits (λ o. touches t m.device.world r o && steps.is_pending t m o) (lockable t)
  where
    here : (p : ℕ) → p < 28 → is_there t p ≡ true
        → with_object (object_at_place p) (if mask_has mask p then unless (λ k. flipped_of (tail_of v k) p) (last_at v p).commit else None)
        ≡ (if touches t m.device.world r (object_at_place p) && steps.is_pending t m (object_at_place p)
        then busy_answer t m.device.commits (Some (object_at_place p)) else None)
    here p place there =
        (let on : is_of_device t (object_at_place p) ≡ true = on_place t p place ∙ there in
        let last : (last_at v p).commit ≡ previous t m.device.commits (length m.device.commits) (object_at_place p) =
        (stands.lasts p place on).commit in
        ap (λ b. with_object (object_at_place p) (if b then unless (λ k. flipped_of (tail_of v k) p) (last_at v p).commit else None))
        (named p place ∙ rw on refl)
        ∙ (chosen (object_at_place p) (touches t m.device.world r (object_at_place p)) _
        ∙ (ap (λ (x : Option (ObjId × ℕ)). if touches t m.device.world r (object_at_place p) then x else None)
        (ap (λ o. with_object (object_at_place p) (unless (λ k. flipped_of (tail_of v k) p) o)) last
        ∙ pending_same t m v stands limits p _ place there refl)
        ∙ both_tests (touches t m.device.world r (object_at_place p)) (steps.is_pending t m (object_at_place p))
        (busy_answer t m.device.commits (Some (object_at_place p))))))
