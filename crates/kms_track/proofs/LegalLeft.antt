-- A step of a tail that is legal is left to do.
use Rattle.std.proofs.Common.{◌≡◌, ℕ, ◌<◌, List, get_or, Bool, true, false, Option, Some, None, arith, refl, sym, ap, ◌∙◌}
use Rattle.std.specs.Prelude.{◌&&◌, is_some, not, nat_lt, IfSome}
use Rattle.std.proofs.lemmas.Bool.{and_from, false≢true, ltb-true}
use Rattle.kms_model.specs.declared.objects.Kind.TheVariants.{Crtc, Plane}
use Rattle.kms_model.specs.declared.objects.Topology.{Topology}
use Rattle.kms_model.specs.declared.replies.Step.{Step}
use Rattle.kms_model.specs.declared.replies.Step.TheVariants.{Claim, Write}
use Rattle.kms_model.specs.declared.replies.Step.TheVariants.{Flush, HwDone}
use Rattle.kms_model.specs.declared.runs.Latch.{Latch}
use Rattle.kms_model.specs.declared.scripts.Script.{Script}
use Rattle.kms_model.specs.declared.states.Both.{Both}
use Rattle.kms_model.specs.declared.states.CrtcState.{CrtcState}
use Rattle.kms_model.specs.Device.Masks.{has_bit}
use Rattle.kms_model.specs.Device.Objects.{count_of, object_id}
use Rattle.kms_model.specs.Device.Sound.{IsDevice}
use Rattle.kms_model.specs.Machine.Commits.{commit_names, commit_touches, has_latched, has_number, has_pair}
use Rattle.kms_model.specs.Machine.Commits.{new_crtc}
use Rattle.kms_model.specs.Machine.Histories.{legal}
use Rattle.kms_model.specs.Machine.State.{DeviceState, Machine}
use Rattle.kms_model.proofs.Guards.{IsWrite, legal_guards}
use Rattle.kms_model.proofs.TouchedLemmas.{HasFewObjects, few_objects}
use Rattle.kms_track.specs.declared.progress.Mark.{Mark}
use Rattle.kms_track.specs.declared.progress.Mark.TheVariants as mark
use Rattle.kms_track.specs.declared.tail.Tail.{Tail}
use Rattle.kms_track.specs.InStep.{AreStates, IsTailOf, old_crtc}
use Rattle.kms_track.specs.Tails.{is_latch_left, is_left, is_on_after, is_step_left, on_after}
use Rattle.kms_track.specs.StepLaws.{commit_of_tail_step, mark_of}
use Rattle.kms_track.proofs.Queries.{crtc_is, named_crtc, named_touched, touched_crtc, touched_plane}

-- a bit that is asked for and not over
bit_left : (asked over i : ℕ) (there asks was : Bool) → has_bit asked i ≡ (there && asks) → has_bit over i ≡ was → there ≡ true
    → asks ≡ true → was ≡ false → is_left asked over i ≡ true
bit_left asked over i there asks was asked_is over_is is asks_now fresh =
    and_from (has_bit asked i) (not (has_bit over i)) (asked_is ∙ and_from there asks is asks_now) (ap not (over_is ∙ fresh))

module _ (t : Topology) (d : DeviceState) (latches : List Latch) (k : ℕ) (x : Tail) (device : IsDevice t)
    (is : IsTailOf t d.commits d.marks latches k x) where
  few : HasFewObjects t
  few = few_objects t device

  crtc_low : (i : ℕ) → nat_lt i (count_of t Crtc) ≡ true → i < 4
  crtc_low i there = let low : i < count_of t Crtc = ltb-true i (count_of t Crtc) there in omega (arith, low, few.crtcs)

  crtc_left : (i : ℕ) → nat_lt i (count_of t Crtc) ≡ true → IsWrite t d k (object_id Crtc i)
      → is_left x.checked.touched.crtcs x.progress.crtcs i ≡ true
  crtc_left i there write =
      bit_left x.checked.touched.crtcs x.progress.crtcs i (nat_lt i (count_of t Crtc)) (commit_touches t d.commits k (object_id Crtc i))
      (has_pair d.marks.written k (object_id Crtc i))
      (touched_crtc t d latches k x device is i (crtc_low i there)) (is.progress.crtcs i (crtc_low i there)) there
      write.touches write.fresh

  plane_left : (i : ℕ) → nat_lt i (count_of t Plane) ≡ true → IsWrite t d k (object_id Plane i)
      → is_left x.checked.touched.planes x.progress.planes i ≡ true
  plane_left i there write =
      (let within : i < count_of t Plane = ltb-true i (count_of t Plane) there in
      let low : i < 16 = omega (arith, within, few.planes) in
      bit_left x.checked.touched.planes x.progress.planes i (nat_lt i (count_of t Plane)) (commit_touches t d.commits k (object_id Plane i))
      (has_pair d.marks.written k (object_id Plane i))
      (touched_plane t d latches k x device is i low) (is.progress.planes i low) there write.touches write.fresh)

  flush_left : (i : ℕ) → nat_lt i (count_of t Crtc) ≡ true → commit_names t d.commits k (object_id Crtc i) ≡ true
      → has_pair d.marks.flushed k (object_id Crtc i) ≡ false
      → is_left x.checked.named x.progress.flushed i ≡ true
  flush_left i there names fresh =
      bit_left x.checked.named x.progress.flushed i (nat_lt i (count_of t Crtc)) (commit_names t d.commits k (object_id Crtc i))
      (has_pair d.marks.flushed k (object_id Crtc i))
      (named_crtc t d latches k x device is i (crtc_low i there)) (is.progress.flushed i (crtc_low i there)) there
      names fresh

  -- whether a CRTC is on after the commit
  on_is : (i : ℕ) (o : Option (Both CrtcState)) → is_some o ≡ true
      → IfSome o (AreStates (old_crtc t d.commits k (object_id Crtc i)) (new_crtc t d.commits k (object_id Crtc i)))
      → is_on_after o ≡ (new_crtc t d.commits k (object_id Crtc i)).active
  on_is i None some states = absurd (false≢true some)
  on_is i (Some both) some states = ap (λ (s : CrtcState). s.active) states.new_is

  off_is : (i : ℕ) (o : Option (Both CrtcState))
      → IfSome o (AreStates (old_crtc t d.commits k (object_id Crtc i)) (new_crtc t d.commits k (object_id Crtc i)))
      → (new_crtc t d.commits k (object_id Crtc i)).active ≡ false → is_on_after o ≡ false
  off_is i None states off = refl
  off_is i (Some both) states off = ap (λ (s : CrtcState). s.active) states.new_is ∙ off

  pub latch_left : (i : ℕ) → nat_lt i (count_of t Crtc) ≡ true → commit_names t d.commits k (object_id Crtc i) ≡ true
      → has_latched latches k (object_id Crtc i) ≡ false
      → (new_crtc t d.commits k (object_id Crtc i)).active ≡ true → is_latch_left x i ≡ true
  latch_left i there names unlatched on =
      (let low : i < 4 = crtc_low i there in
      let touched : has_bit x.checked.touched.crtcs i ≡ true = touched_crtc t d latches k x device is i low
      ∙ and_from _ _ there (named_touched t d latches k x device is i low names) in
      and_from (is_left x.checked.named x.progress.latched i) (on_after x i)
      (bit_left x.checked.named x.progress.latched i (nat_lt i (count_of t Crtc)) (commit_names t d.commits k (object_id Crtc i))
      (has_latched latches k (object_id Crtc i))
      (named_crtc t d latches k x device is i low) (is.progress.latched i low) there names unlatched)
      (on_is i (get_or x.checked.states.crtcs i None) (is.checked.states.crtcs i low touched)
      (crtc_is t d latches k x device is i (get_or x.checked.states.crtcs i None) refl) ∙ on))

  pub latch_off : (i : ℕ) → (new_crtc t d.commits k (object_id Crtc i)).active ≡ false → not (on_after x i) ≡ true
  latch_off i off = ap (λ b. not b)
      (off_is i (get_or x.checked.states.crtcs i None)
      (crtc_is t d latches k x device is i (get_or x.checked.states.crtcs i None) refl) off)

module _ (s : Script) (m : Machine) (k : ℕ) (x : Tail) (device : IsDevice s.topology)
    (is : IsTailOf s.topology m.device.commits m.device.marks m.records.latches k x) where
  -- a step of this commit
  legal_of : (step : Step) (a : Mark) → commit_of_tail_step step ≡ Some k → mark_of step ≡ Some a → legal s m step ≡ true
      → is_step_left a x ≡ true
  legal_of (Claim n) a of does allowed =
      (let same : n ≡ k = cc in
      let mark_is : mark.Claimed ≡ a = cc in
      rw (← mark_is) (ap not (is.progress.claimed ∙ ap (λ j. has_number m.device.marks.claimed j) (sym same)
      ∙ (legal_guards s m (Claim n) allowed).unclaimed)))
  legal_of (HwDone n) a of does allowed =
      (let same : n ≡ k = cc in
      let mark_is : mark.Done ≡ a = cc in
      rw (← mark_is) (ap not (is.progress.done ∙ ap (λ j. has_number m.device.marks.done j) (sym same)
      ∙ (legal_guards s m (HwDone n) allowed).undone)))
  legal_of (Write n Crtc index) a of does allowed =
      (let same : n ≡ k = cc in
      let mark_is : mark.WroteCrtc index ≡ a = cc in
      let g = legal_guards s m (Write n Crtc index) allowed in
      rw (← mark_is) (crtc_left s.topology m.device m.records.latches k x device is index g.there (rw same at g.write)))
  legal_of (Write n Plane index) a of does allowed =
      (let same : n ≡ k = cc in
      let mark_is : mark.WrotePlane index ≡ a = cc in
      let g = legal_guards s m (Write n Plane index) allowed in
      rw (← mark_is) (plane_left s.topology m.device m.records.latches k x device is index g.there (rw same at g.write)))
  legal_of (Flush n Crtc index) a of does allowed =
      (let same : n ≡ k = cc in
      let mark_is : mark.Flushed index ≡ a = cc in
      let g = legal_guards s m (Flush n Crtc index) allowed in
      rw (← mark_is) (flush_left s.topology m.device m.records.latches k x device is index g.there (rw same at g.flush.names)
      (rw same at g.flush.fresh)))
  legal_of step a of does allowed = absurd cc

pub legal_left : (s : Script) (m : Machine) (step : Step) (k : ℕ) (a : Mark) (x : Tail) → commit_of_tail_step step ≡ Some k
    → mark_of step ≡ Some a → legal s m step ≡ true → IsDevice s.topology
    → IsTailOf s.topology m.device.commits m.device.marks m.records.latches k x → is_step_left a x ≡ true
legal_left s m step k a x of does allowed device is = legal_of s m k x device is step a of does allowed
