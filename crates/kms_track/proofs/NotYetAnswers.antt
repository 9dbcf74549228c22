-- What `not_yet` of a tracker in step with the machine answers, in the machine's words.
use Rattle.std.proofs.Common.{◌≡◌, ℕ, ◌<◌, ◌≤◌, List, [], ◌∷◌, length, Bool, true, false, Some, None, cond, arith, refl, ap, ◌∙◌}
use Rattle.std.specs.Prelude.{◌&&◌, nat_lt, is_none, filter, Option, if◌then◌else◌}
use Rattle.std.specs.List.{list_all}
use borrow.Author.Tests.{lt-ltb, le-ltb}
use Rattle.kms_model.specs.declared.objects.Kind.TheVariants.{Crtc}
use Rattle.kms_model.specs.declared.objects.ObjId.{ObjId}
use Rattle.kms_model.specs.declared.objects.Topology.{Topology}
use Rattle.kms_model.specs.declared.scripts.Request.{Request}
use Rattle.kms_model.specs.Firsts.{or_else, first_some}
use Rattle.kms_model.specs.Device.Masks.{has_bit}
use Rattle.kms_model.specs.Device.Objects.{object_id, ids_of, count_of}
use Rattle.kms_model.specs.Machine.Commits as machine
use Rattle.kms_model.specs.Machine.Commits.{commit_touches, if_there, is_hw_done, is_cleaned}
use Rattle.kms_model.specs.Machine.State.{Machine}
use Rattle.kms_model.specs.Machine.Steps as steps
use Rattle.kms_model.specs.Request.Apply.{after}
use Rattle.kms_model.specs.Request.Named.{named, names}
use Rattle.kms_model.specs.Request.Touched.{named_by}
use Rattle.kms_model.proofs.MaskLemmas.{has_bit-mask_below}
use Rattle.kms_track.specs.InStep.{AreLastOf, IsInStep, IsWithinPlaces, is_of_device}
use Rattle.kms_track.specs.MachineLaws.{awaited_answer, awaited_commit}
use Rattle.kms_track.specs.Places.{object_at_place}
use Rattle.kms_track.specs.Tracking.{Tracking, awaited, last_at, not_yet_of, or_other, uncleaned, undone, unless, with_object}
use Rattle.kms_track.proofs.Lockables.{first_crtc}
use Rattle.kms_track.proofs.MachineAnswers.{chosen, done_same, gone_same}
use Rattle.kms_track.proofs.Previous.{last_is}
use Rattle.kms_track.proofs.There.{on_index}

-- the commit that is waited for at a CRTC

module _ (t : Topology) (m : Machine) (v : Tracking) (stands : IsInStep t m v) (limits : IsWithinPlaces t) where
  undone_same : (o : Option ℕ) → ((k : ℕ) → o ≡ Some k → k < length m.device.commits) → undone v o ≡ unless (is_hw_done m.device) o
  undone_same None within = refl
  undone_same (Some k) within = rw (done_same t m v stands limits k (within k refl)) refl

  uncleaned_same : (o : Option ℕ) → ((k : ℕ) → o ≡ Some k → k < length m.device.commits) → uncleaned v o ≡ unless (is_cleaned m.device) o
  uncleaned_same None within = refl
  uncleaned_same (Some k) within = rw (gone_same t m v stands limits k (within k refl)) refl

  previous_within : (n object k : ℕ) → machine.previous t m.device.commits n object ≡ Some k → k < n
  unfolding machine.previous
  previous_within n object k found = (last_is (λ j. commit_touches t m.device.commits j object) n k found).0

  second_within : (n object k : ℕ) (o : Option ℕ) → machine.previous t m.device.commits n object ≡ o
      → machine.previous_of t m.device.commits o object ≡ Some k → k < n
  second_within n object k None is found = cc
  second_within n object k (Some j) is found =
      let first : j < n = previous_within n object j is in
      let second : k < j = previous_within j object k found in
      omega arith

  awaited_same : (i : ℕ) → i < 4 → is_of_device t (object_at_place i) ≡ true
      → awaited v (last_at v i) ≡ awaited_commit t m (object_at_place i)
  awaited_same i few on =
      let last : AreLastOf t m.device.commits (object_at_place i) (last_at v i) = stands.lasts i (omega (arith, few)) on in
      let first : undone v (last_at v i).commit
      ≡ unless (is_hw_done m.device) (machine.previous t m.device.commits (length m.device.commits) (object_at_place i)) =
      ap (undone v) last.commit ∙ undone_same _ (previous_within (length m.device.commits) (object_at_place i)) in
      let second : uncleaned v (last_at v i).before
      ≡ unless (is_cleaned m.device) (machine.second_previous t m.device.commits (length m.device.commits) (object_at_place i)) =
      ap (uncleaned v) last.before
      ∙ uncleaned_same _ (λ k found. second_within (length m.device.commits) (object_at_place i) k _ refl found) in
      rw (first, second) refl

first_filtered : {A : Type 0} (p : ℕ → Bool) (g : ℕ → Option A) (xs : List ℕ) → first_some (λ x. if p x then g x else None) xs
    ≡ first_some g (filter p xs)
first_filtered p g [] = refl
first_filtered p g (x ∷ xs) =
    elim (p x) as (λ b. or_else (if b then g x else None) (first_some (λ x. if p x then g x else None) xs)
    ≡ first_some g (cond b (x ∷ filter p xs) (filter p xs))) [
      | true ↦ ap (λ rest. or_else (g x) rest) (first_filtered p g xs)
      | false ↦ first_filtered p g xs
    ]

-- `not_yet`, of the CRTCs that a request names, tells the first at which its swap waits, with the commit.
pub awaited_told : (t : Topology) (m : Machine) (v : Tracking) (r : Request) → IsInStep t m v → IsWithinPlaces t
    → not_yet_of v (named_by t m.device.world r) ≡ awaited_answer t m r
awaited_told t m v r stands limits =
    first_crtc t _ (λ crtc. if is_named crtc then with_object crtc (awaited_commit t m crtc) else None) limits here beyond
    ∙ first_filtered is_named (λ crtc. with_object crtc (awaited_commit t m crtc)) (ids_of t Crtc)
  where
    is_named : ℕ → Bool
    is_named crtc = names m.device.world.values (after m.device.world r) r.assigns crtc

    has : (i : ℕ) → has_bit (named_by t m.device.world r) i ≡ (nat_lt i (count_of t Crtc) && is_named (object_id Crtc i))
    has i = has_bit-mask_below (λ index. is_named (object_id Crtc index)) (count_of t Crtc) i

    here : (i : ℕ) → i < count_of t Crtc
        → with_object (object_at_place i) (if has_bit (named_by t m.device.world r) i then awaited v (last_at v i) else None)
        ≡ (if is_named (object_id Crtc i) then with_object (object_id Crtc i) (awaited_commit t m (object_id Crtc i)) else None)
    here i within =
        (let few : i < 4 = omega (arith, within, limits.crtcs) in
        let there : nat_lt i (count_of t Crtc) ≡ true = lt-ltb i (count_of t Crtc) within in
        let at : object_at_place i ≡ object_id Crtc i = rw (lt-ltb i 4 few) refl in
        let on : is_of_device t (object_at_place i) ≡ true = ap (is_of_device t) at ∙ (on_index t Crtc i (omega (arith, few)) ∙ there) in
        ap (λ b. with_object (object_at_place i) (if b then awaited v (last_at v i) else None))
        (has i ∙ ap (λ b. b && is_named (object_id Crtc i)) there)
        ∙ (chosen (object_at_place i) (is_named (object_id Crtc i)) (awaited v (last_at v i))
        ∙ (ap (λ k. if is_named (object_id Crtc i) then with_object (object_at_place i) k else None)
        (awaited_same t m v stands limits i few on)
        ∙ ap (λ o. if is_named (object_id Crtc i) then with_object o (awaited_commit t m o) else None) at)))

    beyond : (i : ℕ) → count_of t Crtc ≤ i → i < 4
        → with_object (object_at_place i) (if has_bit (named_by t m.device.world r) i then awaited v (last_at v i) else None) ≡ None
    beyond i high low = rw (has i, le-ltb i (count_of t Crtc) high) refl

-- Whether it is none

none_if : (b : Bool) (k : ℕ) → is_none (if b then None else Some k) ≡ b
none_if true k = refl
none_if false k = refl

none_marked : (marked : ℕ → Bool) (o : Option ℕ) → is_none (unless marked o) ≡ if_there marked o
none_marked marked None = refl
none_marked marked (Some k) = none_if (marked k) k

none_other : (x y : Option ℕ) → is_none (or_other x y) ≡ (is_none x && is_none y)
none_other None y = refl
none_other (Some k) y = refl

none_pair : (object : ℕ) (o : Option ℕ) → is_none (with_object object o) ≡ is_none o
none_pair object None = refl
none_pair object (Some k) = refl

none_either : (x y : Option (ObjId × ℕ)) → is_none (or_else x y) ≡ (is_none x && is_none y)
none_either None y = refl
none_either (Some a) y = refl

-- the swap of a request is ready at a CRTC
abbrev pub is_ready_at : Topology → Machine → ℕ → Bool
is_ready_at t m crtc =
    if_there (is_hw_done m.device) (machine.previous t m.device.commits (length m.device.commits) crtc)
    && if_there (is_cleaned m.device) (machine.second_previous t m.device.commits (length m.device.commits) crtc)

none_awaited : (t : Topology) (m : Machine) (crtc : ℕ) → is_none (with_object crtc (awaited_commit t m crtc)) ≡ is_ready_at t m crtc
none_awaited t m crtc =
    let last : Option ℕ = machine.previous t m.device.commits (length m.device.commits) crtc in
    let second : Option ℕ = machine.second_previous t m.device.commits (length m.device.commits) crtc in
    none_pair crtc (awaited_commit t m crtc)
    ∙ (none_other (unless (is_hw_done m.device) last) (unless (is_cleaned m.device) second)
    ∙ (ap (λ b. b && is_none (unless (is_cleaned m.device) second)) (none_marked (is_hw_done m.device) last)
    ∙ ap (λ b. if_there (is_hw_done m.device) last && b) (none_marked (is_cleaned m.device) second)))

none_first : (t : Topology) (m : Machine) (xs : List ℕ)
    → is_none (first_some (λ crtc. with_object crtc (awaited_commit t m crtc)) xs) ≡ list_all (is_ready_at t m) xs
none_first t m [] = refl
none_first t m (x ∷ xs) =
    none_either (with_object x (awaited_commit t m x)) (first_some (λ crtc. with_object crtc (awaited_commit t m crtc)) xs)
    ∙ (ap (λ b. b && is_none (first_some (λ crtc. with_object crtc (awaited_commit t m crtc)) xs)) (none_awaited t m x)
    ∙ ap (λ b. is_ready_at t m x && b) (none_first t m xs))

-- `not_yet` answers none exactly where the CRTCs that a request names are ready for its swap.
pub not_yet_machine : (t : Topology) (m : Machine) (v : Tracking) (r : Request) → IsInStep t m v → IsWithinPlaces t
    → is_none (not_yet_of v (named_by t m.device.world r)) ≡ steps.is_ready t m r
unfolding steps.is_ready
not_yet_machine t m v r step limits =
    ap (λ (o : Option (ObjId × ℕ)). is_none o) (awaited_told t m v r step limits) ∙ none_first t m (named t m.device.world r)
