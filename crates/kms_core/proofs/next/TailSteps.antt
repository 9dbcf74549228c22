-- Which steps of tails are legal while the history goes on, told by the tails that are left.
use Rattle.std.proofs.Common.{◌≡◌, ℕ, ◌<◌, ◌≤◌, Bool, true, false, length, Option, Some, None, inl, inr, refl, sym, ap, ◌∙◌, subst, arith}
use Rattle.std.specs.Prelude.{◌&&◌, ◌||◌, is_none, is_some, nat_lt, not}
use Rattle.std.specs.Option.{option_map}
use Rattle.std.proofs.lemmas.Bool.{and_left, cases_lt, false_from_ne_true, false≢true, le-ltb}
use Rattle.kms_model.specs.declared.objects.Kind.{Kind}
use Rattle.kms_model.specs.declared.objects.Kind.TheVariants.{Conn, Crtc, Enc, Plane}
use Rattle.kms_model.specs.declared.objects.Topology.{Topology}
use Rattle.kms_model.specs.declared.replies.Step.{Step}
use Rattle.kms_model.specs.declared.replies.Step.TheVariants as step
use Rattle.kms_model.specs.Device.Objects.{exists, object_id}
use Rattle.kms_model.specs.Machine.Commits.{has_number, is_all_flushed, is_all_latched, is_all_written, is_claimed, is_cleaned, is_hw_done}
use Rattle.kms_model.specs.Machine.Histories.{legal}
use Rattle.kms_model.specs.Machine.Registers.{is_on_in}
use Rattle.kms_model.specs.Machine.State.{Machine, go_at, has_value}
use Rattle.kms_model.specs.Machine.Steps.{is_crtc_of, may, may_claim}
use Rattle.kms_model.specs.Things.Tables.{value_with_id}
use Rattle.kms_laws.proofs.Drained.{no_cleanup, no_done, no_flush, no_write}
use Rattle.kms_signal.proofs.SlotLemmas.{value_above}
use Rattle.kms_track.specs.declared.tail.Tail.{Tail}
use Rattle.kms_track.specs.InStep.{IsKept, IsTailOf}
use Rattle.kms_track.specs.Tails.{next_flush_of, next_latch_of, next_write_of}
use Rattle.kms_track.specs.StepLaws.{commit_of_tail_step}
use Rattle.kms_track.proofs.Queries.{all_flushed_is, all_latched_is, flush_is, write_is, written_is}
use Rattle.kms_track.proofs.StepLemmas.{legal_below}
use Rattle.kms_track.specs.Tracking.{ready_of, tail_ready}
use Rattle.kms_track.proofs.CheckedLemmas.{device_within}
use Rattle.kms_track.proofs.MachineAnswers.{ready_machine}
use Rattle.kms_core.specs.Next.{ends_next, flushes_next, is_over_tail, writes_next}
use Rattle.kms_core.specs.Run.{Run, machine}
use Rattle.kms_core.specs.Stands.{Stores, Stands}
use Rattle.kms_core.proofs.stores.CommitStates.{facts}
use Rattle.kms_core.proofs.stores.Seeking.{waited_made}

-- a history that was not ended
abbrev going : Machine → Machine
going m = record m { stalled = false }

-- the tail of a commit that is not cleaned
record IsLeft (r : Run) (k : ℕ) (x : Tail) : Type 0 where
  within : k < length (machine r).device.commits
  unclean : has_number (machine r).device.marks.cleaned k ≡ false
  is : IsTailOf r.script.topology (machine r).device.commits (machine r).device.marks (machine r).records.latches k x

module _ (r v : Run) (st : Stores) (k : ℕ) (stands : Stands r st) (same : r ≡ v) where
  is_left : {x : Tail} → Some x ≡ value_with_id st.tracker.tails.slots k → IsLeft r k x
  is_left {x} found =
      elim (cases_lt k (length (machine r).device.commits)) [
        | inl within ↦
            (let kept = subst (λ (o : Option Tail). IsKept r.script.topology (machine r).device.commits (machine r).device.marks
            (machine r).records.latches k o) (sym found) (stands.stores.tracker.kept k within) in
            record { within = within; unclean = kept.0; is = kept.1 })
        | inr above ↦ (let none : Some x ≡ None = found
            ∙ value_above st.tracker.tails.slots (length (machine r).device.commits) k stands.stores.tracker.below above in absurd cc)
      ]

  -- a commit that has no tail is cleaned, or was not set up
  absent : (step : Step) → commit_of_tail_step step ≡ Some k → None ≡ value_with_id st.tracker.tails.slots k
      → legal r.script (going (machine r)) step ≡ may r.script (machine r) step
      → (has_number (machine r).device.marks.cleaned k ≡ true → may r.script (machine r) step ≡ false) → false
      ≡ may v.script (machine v) step
  absent step of_commit gone is_legal cleaned =
      sym
      (elim (cases_lt k (length (machine r).device.commits)) [
        | inl within ↦
            cleaned (subst (λ (o : Option Tail). IsKept r.script.topology (machine r).device.commits (machine r).device.marks
            (machine r).records.latches k o) (sym gone) (stands.stores.tracker.kept k within)).0
        | inr above ↦
            false_from_ne_true (may r.script (machine r) step)
            (λ may_be. (let within = legal_below r.script (going (machine r)) step k st.tracker of_commit
            (is_legal ∙ may_be) stands.stores.tracker in absurd (omega (arith, within, above))))
      ])
      ∙ ap (λ (w : Run). may w.script (machine w) step) same

  pub write_told : (x : Tail) (kind : Kind) (index : ℕ) → Some x ≡ value_with_id st.tracker.tails.slots k
      → writes_next r.script.topology x kind index ≡ may v.script (machine v) (step.Write k kind index)
  unfolding may
  write_told x kind index found =
      let l = is_left found in
      let d = (machine r).device in
      ap (λ b. b && (exists r.script.topology kind index && has_value (object_id kind index) (next_write_of x))) l.is.progress.claimed
      ∙ ap (λ o. is_claimed d k && (exists r.script.topology kind index && has_value (object_id kind index) o))
      (write_is r.script.topology d (machine r).records.latches k x stands.formed.device l.is)
      ∙ ap (λ (w : Run). may w.script (machine w) (step.Write k kind index)) same

  pub write_absent : (kind : Kind) (index : ℕ) → None ≡ value_with_id st.tracker.tails.slots k
      → false ≡ may v.script (machine v) (step.Write k kind index)
  unfolding may legal
  write_absent kind index gone = absent (step.Write k kind index) refl gone refl
      (λ clean. no_write r.script (machine r) (facts stands).holds k clean kind index)

  pub flush_told : (x : Tail) (kind : Kind) (index : ℕ) → Some x ≡ value_with_id st.tracker.tails.slots k
      → flushes_next r.script.topology x kind index ≡ may v.script (machine v) (step.Flush k kind index)
  unfolding may
  flush_told x kind index found =
      let l = is_left found in
      let d = (machine r).device in
      ap (λ b. b && (exists r.script.topology kind index
      && has_value (object_id kind index) (option_map (object_id Crtc) (next_flush_of x))))
      (written_is r.script.topology d (machine r).records.latches k x stands.formed.device l.is)
      ∙ ap (λ o. is_all_written r.script.topology d k && (exists r.script.topology kind index && has_value (object_id kind index) o))
      (flush_is r.script.topology d (machine r).records.latches k x stands.formed.device l.is)
      ∙ ap (λ (w : Run). may w.script (machine w) (step.Flush k kind index)) same

  pub flush_absent : (kind : Kind) (index : ℕ) → None ≡ value_with_id st.tracker.tails.slots k
      → false ≡ may v.script (machine v) (step.Flush k kind index)
  unfolding may legal
  flush_absent kind index gone = absent (step.Flush k kind index) refl gone refl
      (λ clean. no_flush r.script (machine r) (facts stands).holds k clean kind index)

  pub done_told : (x : Tail) → Some x ≡ value_with_id st.tracker.tails.slots k → ends_next x ≡ may v.script (machine v) (step.HwDone k)
  unfolding may
  done_told x found =
      let l = is_left found in
      let d = (machine r).device in
      ap (λ b. b && (is_none (next_write_of x) && (is_none (next_flush_of x) && not x.progress.done))) l.is.progress.claimed
      ∙ ap (λ b. is_claimed d k && (b && (is_none (next_flush_of x) && not x.progress.done)))
      (written_is r.script.topology d (machine r).records.latches k x stands.formed.device l.is)
      ∙ ap (λ b. is_claimed d k && (is_all_written r.script.topology d k && (b && not x.progress.done)))
      (all_flushed_is r.script.topology d (machine r).records.latches k x stands.formed.device l.is)
      ∙ ap (λ b. is_claimed d k && (is_all_written r.script.topology d k && (is_all_flushed r.script.topology d k && not b)))
      l.is.progress.done
      ∙ ap (λ (w : Run). may w.script (machine w) (step.HwDone k)) same

  pub done_absent : None ≡ value_with_id st.tracker.tails.slots k → false ≡ may v.script (machine v) (step.HwDone k)
  unfolding may legal
  done_absent gone = absent (step.HwDone k) refl gone refl (λ clean. no_done r.script (machine r) (facts stands).holds k clean)

  over_unclean : (a b c : Bool) → c ≡ false → (a && b) ≡ (a && (b && not c))
  over_unclean true true true off = absurd (false≢true (sym off))
  over_unclean true true false off = refl
  over_unclean true false c off = refl
  over_unclean false b c off = refl

  pub cleanup_told : (x : Tail) → Some x ≡ value_with_id st.tracker.tails.slots k
      → is_over_tail x ≡ may v.script (machine v) (step.Cleanup k)
  unfolding may
  cleanup_told x found =
      let l = is_left found in
      let d = (machine r).device in
      ap (λ b. b && is_none (next_latch_of x)) l.is.progress.done
      ∙ ap (λ b. is_hw_done d k && b) (all_latched_is r.script.topology d (machine r).records.latches k x stands.formed.device l.is)
      ∙ over_unclean (is_hw_done d k) (is_all_latched r.script.topology d (machine r).records.latches k) (is_cleaned d k) l.unclean
      ∙ ap (λ (w : Run). may w.script (machine w) (step.Cleanup k)) same

  pub cleanup_absent : None ≡ value_with_id st.tracker.tails.slots k → false ≡ may v.script (machine v) (step.Cleanup k)
  unfolding may legal
  cleanup_absent gone = absent (step.Cleanup k) refl gone refl (λ clean. no_cleanup r.script (machine r) (facts stands).holds k clean)

  -- Claims

  claim_within : k < length (machine r).device.commits → ready_of st.tracker st.fences k ≡ may_claim r.script.topology (machine r) k
  claim_within within =
      ready_machine r.script.topology (machine r) st.tracker stands.stores.tracker
      (device_within r.script.topology stands.formed.device) st.fences k
      (λ id is. stands.stores.fences.same id (waited_made k id stands within is))

  claim_above : length (machine r).device.commits ≤ k → ready_of st.tracker st.fences k ≡ may_claim r.script.topology (machine r) k
  unfolding may_claim
  claim_above above =
      ap (tail_ready st.tracker st.fences)
      (value_above st.tracker.tails.slots (length (machine r).device.commits) k stands.stores.tracker.below above)
      ∙ sym (and_left (nat_lt k (length (machine r).device.commits)) _ (le-ltb k (length (machine r).device.commits) above))

  pub claim_told : ready_of st.tracker st.fences k ≡ may v.script (machine v) (step.Claim k)
  unfolding may
  claim_told =
      elim (cases_lt k (length (machine r).device.commits)) [
        | inl within ↦ claim_within within
        | inr above ↦ claim_above above
      ]
      ∙ ap (λ (w : Run). may w.script (machine w) (step.Claim k)) same

-- Vertical blankings

pub crtc_kind : (t : Topology) (kind : Kind) (index : ℕ) → is_crtc_of t kind index ≡ true → kind ≡ Crtc
crtc_kind t Crtc index is = refl
crtc_kind t Plane index is = absurd (false≢true is)
crtc_kind t Conn index is = absurd (false≢true is)
crtc_kind t Enc index is = absurd (false≢true is)

module _ (v : Run) (kind : Kind) (index : ℕ) where
  pub blank_told : is_crtc_of v.script.topology kind index ≡ true
      → (is_some (go_at (machine v).device (object_id Crtc index)) || is_on_in (machine v).device.live (object_id Crtc index))
      ≡ may v.script (machine v) (step.Vblank kind index)
  unfolding may
  blank_told is =
      ap (λ (k : Kind). is_some (go_at (machine v).device (object_id k index)) || is_on_in (machine v).device.live (object_id k index))
      (sym (crtc_kind v.script.topology kind index is))
      ∙ ap (λ b. b && (is_some (go_at (machine v).device (object_id kind index))
      || is_on_in (machine v).device.live (object_id kind index))) (sym is)

  pub blank_other : is_crtc_of v.script.topology kind index ≡ false → false ≡ may v.script (machine v) (step.Vblank kind index)
  unfolding may
  blank_other other = ap (λ b. b && (is_some (go_at (machine v).device (object_id kind index))
      || is_on_in (machine v).device.live (object_id kind index))) (sym other)
