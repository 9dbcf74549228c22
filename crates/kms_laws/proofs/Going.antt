-- What is flushed and has not latched waits for a vblank.
use Rattle.std.proofs.Common.{◌≡◌, ℕ, ◌+◌, ◌≤◌, List, ◌∷◌, true, false, Option, Some, None, refl, sym, ap, ◌∙◌, arith, ⊎_elim}
use Rattle.std.proofs.lemmas.Bool.{cases_eq, cases_lt, false_from_ne_true}
use Rattle.kms_model.specs.declared.objects.Kind.TheVariants.{Crtc}
use Rattle.kms_model.specs.declared.replies.Step.{Step}
use Rattle.kms_model.specs.declared.runs.Latch.{Latch}
use Rattle.kms_model.specs.declared.scripts.Script.{Script}
use Rattle.kms_model.specs.Device.Execution.{execute}
use Rattle.kms_model.specs.Device.Objects.{ids_of, object_id}
use Rattle.kms_model.specs.Machine.Commits.{has_latched, has_pair, is_all_written}
use Rattle.kms_model.specs.Machine.Effects.{answers, counts_vblank, flushes, goes_on, next, signals}
use Rattle.kms_model.specs.Machine.Histories.{legal}
use Rattle.kms_model.specs.Machine.Registers.{read}
use Rattle.kms_model.specs.Machine.State.{DeviceState, Machine, count_at, go_at}
use Rattle.kms_model.proofs.Guards.{IsFlush}
use Rattle.kms_model.proofs.Items.{IsIn}
use Rattle.kms_laws.proofs.Basics.{both_bools, pair_cases, pair_now, read_other, read_same}
use Rattle.kms_laws.proofs.EachStep.{Carries, by_bool, by_fence, by_latch, by_two, each_step, latched_as, locks_leave, made_as, swapped_as}
use Rattle.kms_laws.proofs.Latching.{latched_before}
use Rattle.kms_laws.proofs.Objects.{crtc_index}
use Rattle.kms_laws.proofs.Steps.{Holds, flushed_at, flushed_holds, fresh-unlatched}
use Rattle.kms_laws.proofs.Tails.{latch_more, latch_now}
use Rattle.kms_laws.proofs.Traversal.{TailOf, latch_of}

abbrev pub Goes : List (ℕ × ℕ) → List Latch → List (ℕ × Option ℕ) → Type 0
Goes flushes ls go = (k c : ℕ) → has_pair flushes k c ≡ true → has_latched ls k c ≡ false → read None go c ≡ Some k

abbrev pub Going : Machine → Type 0
Going m = Goes m.device.marks.flushed m.records.latches m.device.go

-- of one CRTC at most one commit is flushed and has not latched
one_pending : (s : Script) (d : DeviceState) (ls : List Latch) → TailOf s.topology d ls → (j k c : ℕ) → IsIn c (ids_of s.topology Crtc)
    → has_pair d.marks.flushed j c ≡ true → has_latched ls j c ≡ false → has_pair d.marks.flushed k c ≡ true → has_latched ls k c ≡ false
    → j ≡ k
one_pending s d ls T j k c i fj uj fk uk =
    ⊎_elim
    (λ lt. absurd (both_bools _ (latched_before T k c i fk uk j lt (T.marks.flushed j c fj).names) uj))
    (λ (ge : k ≤ j).
    ⊎_elim
    (λ lt. absurd (both_bools _ (latched_before T j c i fj uj k lt (T.marks.flushed k c fk).names) uk))
    (λ (ge2 : j ≤ k). omega arith)
    (cases_lt k j))
    (cases_lt j k)

unlatched_old : (l : Latch) (ls : List Latch) (k c : ℕ) → has_latched (l ∷ ls) k c ≡ false → has_latched ls k c ≡ false
unlatched_old l ls k c h = false_from_ne_true _ (λ y. both_bools _ (latch_more l ls k c y) h)

not_this : (l : Latch) (ls : List Latch) (k c : ℕ) → has_latched (l ∷ ls) k c ≡ false → l.commit ≡ k → object_id Crtc l.crtc ≡ c → ⊥
not_this l ls k c h e f = both_bools _ (latch_now l ls k c e f) h

module _ (s : Script) (m : Machine) (H : Holds s m) (G : Going m) where
  flush_on : (k c : ℕ) → is_all_written s.topology m.device k ≡ true → IsFlush s.topology m k c
      → Goes ((k, c) ∷ m.device.marks.flushed) m.records.latches ((c, Some k) ∷ m.device.go)
  flush_on k c written f j e fl un =
      ⊎_elim
      (λ (same : c ≡ e).
      let fj : has_pair ((k, c) ∷ m.device.marks.flushed) j c ≡ true = ap (has_pair ((k, c) ∷ m.device.marks.flushed) j) same ∙ fl in
      let uj : has_latched m.records.latches j c ≡ false = ap (has_latched m.records.latches j) same ∙ un in
      let kj = one_pending s (flushed_at m k c).device m.records.latches (flushed_holds s m H k c written f).tail k j c f.is_crtc
      (pair_now k c m.device.marks.flushed) (fresh-unlatched s m H k c f) fj uj in
      ap (read None ((c, Some k) ∷ m.device.go)) (sym same) ∙ read_same None m.device.go c (Some k) ∙ ap Some kj)
      (λ ne.
      read_other None m.device.go c e (Some k) ne
      ∙ ⊎_elim (λ (same : (k ≡ j) × (c ≡ e)). absurd (ne same.1)) (λ old. G j e old un) (pair_cases k c m.device.marks.flushed j e fl))
      (cases_eq c e)

  flush_off : (k c : ℕ) → IsFlush s.topology m k c
      → Goes ((k, c) ∷ m.device.marks.flushed) (latch_of s.topology (flushed_at m k c).device k c (count_at m.device c) ∷ m.records.latches)
      m.device.go
  flush_off k c f j e fl un =
      ⊎_elim
      (λ (same : (k ≡ j) × (c ≡ e)). absurd (not_this (latch_of s.topology (flushed_at m k c).device k c (count_at m.device c))
      m.records.latches j e un same.0 (crtc_index s.topology c H.tail.few f.is_crtc ∙ same.1)))
      (λ old. G j e old (unlatched_old _ m.records.latches j e un))
      (pair_cases k c m.device.marks.flushed j e fl)

  blank_none : (c : ℕ) → go_at m.device c ≡ None → Goes m.device.marks.flushed m.records.latches ((c, None) ∷ m.device.go)
  blank_none c e j d fl un =
      ⊎_elim
      (λ (same : c ≡ d). let is : None ≡ Some j = sym e ∙ ap (read None m.device.go) same ∙ G j d fl un in absurd cc)
      (λ ne. read_other None m.device.go c d None ne ∙ G j d fl un)
      (cases_eq c d)

  blank_some : (c k : ℕ) (l : Latch) → l.commit ≡ k → object_id Crtc l.crtc ≡ c → go_at m.device c ≡ Some k
      → Goes m.device.marks.flushed (l ∷ m.records.latches) ((c, None) ∷ m.device.go)
  blank_some c k l of_k at_c e j d fl un =
      let old = unlatched_old l m.records.latches j d un in
      ⊎_elim
      (λ (same : c ≡ d).
      let is : Some k ≡ Some j = sym e ∙ ap (read None m.device.go) same ∙ G j d fl old in
      let kj : k ≡ j = cc in
      absurd (not_this l m.records.latches j d un (of_k ∙ kj) (at_c ∙ same)))
      (λ ne. read_other None m.device.go c d None ne ∙ G j d fl old)
      (cases_eq c d)

  carries_going : Carries s m (λ step m2. Going m2)
  carries_going = record {
    locks = locks_leave s m (λ step m2. Going m2) (λ step contexts. G);
    answers = record {
      refuses = λ client r e taking may. G;
      tests = λ client r e taking may. G;
      swaps = λ client r e taking may b w eb ew. by_two (λ b w. Going (swapped_as s.topology b w m client r)) G G G G b w;
      makes = λ client c e making idle b eb. by_bool (λ b. Going (made_as b m client (execute s.topology m.device.world client c))) G G b;
      signalled = λ client c e is_signal idle o. by_fence
          (λ o. Going (goes_on (signals (answers m client (execute s.topology m.device.world client c).reply) o) client)) G (λ fence. G) o;
      read_none = λ client c e is_wait idle none. G;
      read_one = λ client c e is_wait idle event events some. G;
    };
    tails = record {
      claimed = λ k h. G;
      written = λ k kind index found. G;
      waits = λ k kind index written found. flush_on k (object_id kind index) written found;
      flushed = λ k kind index written found b o eb eo.
          let now = flush_off k (object_id kind index) found in
          by_latch (λ b o. Going (latched_as s.topology b o (flushed_at m k (object_id kind index)) k (object_id kind index)
          (count_at m.device (object_id kind index)))) now (λ fence. now) now (λ fence. now) b o;
      done = λ k a b c d. G;
      counted = λ kind index is none. blank_none (object_id kind index) none;
      blanked = λ kind index k is some b o eb eo.
          let now = blank_some (object_id kind index) k
          (latch_of s.topology (counts_vblank m (object_id kind index)).device k (object_id kind index)
          (count_at m.device (object_id kind index) + 1)) refl (crtc_index s.topology (object_id kind index) H.tail.few is) some in
          by_latch (λ b o. Going (latched_as s.topology b o (counts_vblank m (object_id kind index)) k (object_id kind index)
          (count_at m.device (object_id kind index) + 1))) now (λ fence. now) now (λ fence. now) b o;
      cleaned = λ k a b c. G;
    };
    stalled = λ h. G;
  }

  pub step_go : (step : Step) → legal s m step ≡ true → Going (next s m step)
  step_go step h = each_step s m (λ step m2. Going m2) carries_going step h
