-- At each CRTC the counts of latches do not fall, and rise where a picture is on: a latch at a flush is of a CRTC that is off.
use Rattle.std.proofs.Common.{◌≡◌, ℕ, suc, ◌+◌, ◌<◌, ◌≤◌, Bool, true, false, cond, List, [], ◌∷◌, ◌++◌, None, refl, sym, ap, ◌∙◌, subst}
use Rattle.std.proofs.Common.{arith, append-nil, ⊎_elim}
use Rattle.std.specs.Prelude.{◌==◌, filter, not, reverse, if◌then◌else◌, ⊤}
use Rattle.std.specs.List.{last_or}
use Rattle.std.specs.Option.{option_map_or}
use Rattle.std.proofs.lemmas.Bool.{cases_Bool, cases_eq, cond-false, eqb-true, false≢true, le-leb, lt-ltb}
use Rattle.std.proofs.lemmas.List.Elements.{filter-append}
use Rattle.kms_model.specs.declared.objects.Kind.TheVariants.{Crtc, Plane}
use Rattle.kms_model.specs.declared.objects.Topology.{Topology}
use Rattle.kms_model.specs.declared.pictures.Picture.{Picture}
use Rattle.kms_model.specs.declared.pictures.Picture.TheVariants.{Off, On}
use Rattle.kms_model.specs.declared.replies.Step.{Step}
use Rattle.kms_model.specs.declared.replies.Step.TheVariants.{Flush}
use Rattle.kms_model.specs.declared.runs.Latch.{Latch}
use Rattle.kms_model.specs.declared.scripts.Script.{Script}
use Rattle.kms_model.specs.Device.Execution.{execute}
use Rattle.kms_model.specs.Device.Objects.{ids_of, index_of, object_id}
use Rattle.kms_model.specs.Firsts.{one_if}
use Rattle.kms_model.specs.Frames.Pictures.{layers_with, shown_with}
use Rattle.kms_model.specs.Machine.Commits.{is_all_written, new_crtc}
use Rattle.kms_model.specs.Machine.Effects.{answers, counts_vblank, goes_on, next, signals}
use Rattle.kms_model.specs.Machine.Histories.{at, is_history, legal}
use Rattle.kms_model.specs.Machine.Registers.{crtc_words, gamma_in_words, mode_in_words, plane_in, read}
use Rattle.kms_model.specs.Machine.State.{Commit, Machine, count_at, first_machine}
use Rattle.kms_model.specs.Report.Right.{may_count}
use Rattle.kms_model.proofs.Guards.{IsFlush}
use Rattle.kms_model.proofs.Items.{IsIn}
use Rattle.kms_laws.proofs.Basics.{pair_now, read_other, read_same}
use Rattle.kms_laws.proofs.EachStep.{Carries, by_bool, by_fence, by_latch, by_two, each_step, latched_as, locks_leave, made_as, swapped_as}
use Rattle.kms_laws.proofs.Invariants.{crtc_after, picture_at, plane_after}
use Rattle.kms_laws.proofs.Latching.{latches_commit}
use Rattle.kms_laws.proofs.Objects.{crtc_index}
use Rattle.kms_laws.proofs.Present.{reverse_more}
use Rattle.kms_laws.proofs.Steps.{Holds, IsPlainScript, along, first_kept, flushed_at, flushed_holds, fresh-unlatched, step_kept}
use Rattle.kms_laws.proofs.Traversal.{latch_of}
use Rattle.kms_told.proofs.Items.{AllPass, last-push, pass-append}

-- the count of the newest latch at a CRTC, by its index
abbrev pub newest_count : List Latch → ℕ → ℕ
newest_count [] crtc = 0
newest_count (l ∷ older) crtc = if l.crtc == crtc then l.count else newest_count older crtc

-- each latch's count may follow that of the older ones at its CRTC
abbrev pub AreCounted : List Latch → Type 0
AreCounted [] = ⊤
AreCounted (l ∷ older) = (may_count l.picture (newest_count older l.crtc) l.count ≡ true) × AreCounted older

-- no latch is beyond its CRTC's count
pub record CountsStand (counts : List (ℕ × ℕ)) (ls : List Latch) : Type 0 where
  pub below : (crtc : ℕ) → newest_count ls crtc ≤ read 0 counts (object_id Crtc crtc)
  pub counted : AreCounted ls

may-above : (p : Picture) (a b : ℕ) → a < b → may_count p a b ≡ true
may-above Off a b lt = le-leb a b (omega (arith, lt))
may-above (On shown) a b lt = lt-ltb a b lt

may-stay : (p : Picture) (a b : ℕ) → p ≡ Off → a ≤ b → may_count p a b ≡ true
may-stay p a b off le = ap (λ q. may_count q a b) off ∙ le-leb a b le

-- a vblank more
count-more : (counts : List (ℕ × ℕ)) (c o : ℕ) → read 0 counts o ≤ read 0 ((c, read 0 counts c + 1) ∷ counts) o
count-more counts c o =
    ⊎_elim
    (λ (same : c ≡ o).
    subst (λ z. read 0 counts z ≤ read 0 ((c, read 0 counts c + 1) ∷ counts) z) same
    (let a = read_same 0 counts c (read 0 counts c + 1) in omega (arith, a)))
    (λ apart. let a = read_other 0 counts c o (read 0 counts c + 1) apart in omega (arith, a))
    (cases_eq c o)

more-counts : (counts : List (ℕ × ℕ)) (ls : List Latch) (c : ℕ) → CountsStand counts ls → CountsStand ((c, read 0 counts c + 1) ∷ counts) ls
more-counts counts ls c C = record {
  below = λ crtc. let a = C.below crtc in let b = count-more counts c (object_id Crtc crtc) in omega (arith, a, b);
  counted = C.counted;
}

-- a latch more
latch-more : (counts : List (ℕ × ℕ)) (ls : List Latch) (l : Latch) → l.count ≤ read 0 counts (object_id Crtc l.crtc)
    → may_count l.picture (newest_count ls l.crtc) l.count ≡ true → CountsStand counts ls → CountsStand counts (l ∷ ls)
latch-more counts ls l within may C = record {
  below = λ crtc. by_crtc crtc (l.crtc == crtc) refl;
  counted = (may, C.counted);
} where
  by_crtc : (crtc : ℕ) (b : Bool) → (l.crtc == crtc) ≡ b
      → (if b then l.count else newest_count ls crtc) ≤ read 0 counts (object_id Crtc crtc)
  by_crtc crtc true e = subst (λ k. l.count ≤ read 0 counts (object_id Crtc k)) (eqb-true l.crtc crtc e) within
  by_crtc crtc false e = C.below crtc

-- a CRTC that is off after a commit shows nothing
picture-off : (t : Topology) (cs : List Commit) (k c : ℕ) → (new_crtc t cs k c).active ≡ false → picture_at t cs (suc k) c ≡ Off
unfolding crtc_after crtc_words
picture-off t cs k c off =
    let w = crtc_after t cs (suc k) c in
    cond-false (not (one_if (new_crtc t cs k c).active == 0))
    (On (shown_with (mode_in_words w) w.conn (gamma_in_words w)
    (layers_with (λ p. plane_in (plane_after t cs (suc k) p)) (mode_in_words w) c (ids_of t Plane))))
    Off (ap (λ b. not (one_if b == 0)) off)

-- Steps

abbrev pub HasCounts : Machine → Type 0
HasCounts m = CountsStand m.device.counts m.records.latches

module _ (s : Script) (m : Machine) (H : Holds s m) (C : HasCounts m) where
  -- a flush of a CRTC that is on waits
  abbrev waits_on : Step → Bool
  waits_on (Flush k kind index) = (new_crtc s.topology m.device.commits k (object_id kind index)).active
  waits_on _ = false

  abbrev Kept : Step → Machine → Type 0
  Kept step n = waits_on step ≡ false → HasCounts n

  now-flushed : (k c : ℕ) → is_all_written s.topology m.device k ≡ true → IsFlush s.topology m k c
      → (new_crtc s.topology m.device.commits k c).active ≡ false
      → CountsStand m.device.counts (latch_of s.topology (flushed_at m k c).device k c (count_at m.device c) ∷ m.records.latches)
  now-flushed k c written f off =
      let T = (flushed_holds s m H k c written f).tail in
      let at_c = crtc_index s.topology c T.few f.is_crtc in
      let off_picture = latches_commit T m.device.live k c f.is_crtc (pair_now k c m.device.marks.flushed) (fresh-unlatched s m H k c f)
      ∙ picture-off s.topology m.device.commits k c off in
      let same = ap (λ o. read 0 m.device.counts o) at_c in
      let below = C.below (index_of c) in
      latch-more m.device.counts m.records.latches (latch_of s.topology (flushed_at m k c).device k c (count_at m.device c))
      (omega (arith, same)) (may-stay _ (newest_count m.records.latches (index_of c)) (count_at m.device c) off_picture
      (omega (arith, same, below))) C

  now-blanked : (k c : ℕ) → IsIn c (ids_of s.topology Crtc)
      → CountsStand ((c, count_at m.device c + 1) ∷ m.device.counts)
      (latch_of s.topology (counts_vblank m c).device k c (count_at m.device c + 1) ∷ m.records.latches)
  now-blanked k c is =
      let at_c = crtc_index s.topology c H.tail.few is in
      let same = ap (λ o. read 0 ((c, count_at m.device c + 1) ∷ m.device.counts) o) at_c in
      let now = read_same 0 m.device.counts c (count_at m.device c + 1) in
      let old = ap (λ o. read 0 m.device.counts o) at_c in
      let below = C.below (index_of c) in
      latch-more ((c, count_at m.device c + 1) ∷ m.device.counts) m.records.latches
      (latch_of s.topology (counts_vblank m c).device k c (count_at m.device c + 1))
      (omega (arith, same, now)) (may-above _ (newest_count m.records.latches (index_of c)) (count_at m.device c + 1)
      (omega (arith, old, below)))
      (more-counts m.device.counts m.records.latches c C)

  carries_counts : Carries s m Kept
  carries_counts = record {
    locks = locks_leave s m Kept (λ step contexts off. C);
    answers = record {
      refuses = λ client r e taking may off. C;
      tests = λ client r e taking may off. C;
      swaps = λ client r e taking may b w eb ew off. by_two (λ b w. HasCounts (swapped_as s.topology b w m client r)) C C C C b w;
      makes = λ client c e making idle b eb off. by_bool (λ b. HasCounts
          (made_as b m client (execute s.topology m.device.world client c))) C C b;
      signalled = λ client c e is_signal idle o off.
          by_fence (λ o. HasCounts (goes_on (signals (answers m client (execute s.topology m.device.world client c).reply) o) client)) C
          (λ fence. C) o;
      read_none = λ client c e is_wait idle none off. C;
      read_one = λ client c e is_wait idle event events some off. C;
    };
    tails = record {
      claimed = λ k h off. C;
      written = λ k kind index found off. C;
      waits = λ k kind index written found off. C;
      flushed = λ k kind index written found b o eb eo off.
          let c = object_id kind index in
          let now = now-flushed k c written found off in
          by_latch (λ b o. HasCounts (latched_as s.topology b o (flushed_at m k c) k c (count_at m.device c))) now (λ fence. now) now
          (λ fence. now) b o;
      done = λ k a b c d off. C;
      counted = λ kind index is none off. more-counts m.device.counts m.records.latches (object_id kind index) C;
      blanked = λ kind index k is some b o eb eo off.
          let c = object_id kind index in
          let now = now-blanked k c is in
          by_latch (λ b o. HasCounts (latched_as s.topology b o (counts_vblank m c) k c (count_at m.device c + 1))) now (λ fence. now) now
          (λ fence. now) b o;
      cleaned = λ k a b c off. C;
    };
    stalled = λ h off. C;
  }

  kept : (step : Step) → legal s m step ≡ true → Kept step (next s m step)
  kept step h = each_step s m Kept carries_counts step h

  -- a flush of a CRTC that is on latches nothing
  waiting-counts : (step : Step) → waits_on step ≡ true → HasCounts (next s m step)
  unfolding next
  waiting-counts (Flush k kind index) on = rw on C
  waiting-counts _ on = absurd (false≢true on)

  pub step_counts : (step : Step) → legal s m step ≡ true → HasCounts (next s m step)
  step_counts step h = ⊎_elim (λ (on : waits_on step ≡ true). waiting-counts step on) (λ off. kept step h off) (cases_Bool (waits_on step))

pub first_counts : (s : Script) → HasCounts (first_machine s.topology)
first_counts s = record { below = λ crtc. omega arith; counted = tt }

-- In order of time

-- the count of the last of some latches, 0 before the first
abbrev pub last_of : List Latch → ℕ
last_of ls = option_map_or (λ l. l.count) (last_or None ls) 0

abbrev pub may_be_next : List Latch → Latch → Bool
may_be_next before l = may_count l.picture (last_of before) l.count

module _ (crtc : ℕ) where
  abbrev at_crtc : List Latch → List Latch
  at_crtc ls = filter (λ l. l.crtc == crtc) (reverse ls)

  at-more : (l : Latch) (ls : List Latch) → at_crtc (l ∷ ls) ≡ at_crtc ls ++ cond (l.crtc == crtc) (l ∷ []) []
  at-more l ls = ap (filter (λ x. x.crtc == crtc)) (reverse_more l ls) ∙ filter-append (λ x. x.crtc == crtc) (reverse ls) (l ∷ [])

  last-newest : (ls : List Latch) → last_of (at_crtc ls) ≡ newest_count ls crtc
  last-newest [] = refl
  last-newest (l ∷ ls) = ap last_of (at-more l ls) ∙ by_test (l.crtc == crtc) (last-newest ls) where
    by_test : (b : Bool) → last_of (at_crtc ls) ≡ newest_count ls crtc
        → last_of (at_crtc ls ++ cond b (l ∷ []) []) ≡ cond b l.count (newest_count ls crtc)
    by_test true e = ap (λ o. option_map_or (λ x. x.count) o 0) (last-push None (at_crtc ls) l)
    by_test false e = ap last_of (append-nil (at_crtc ls)) ∙ e

  pub counted-pass : (ls : List Latch) → AreCounted ls → AllPass may_be_next [] (at_crtc ls)
  counted-pass [] all = tt
  counted-pass (l ∷ ls) all =
      subst (AllPass may_be_next []) (sym (at-more l ls))
      (pass-append may_be_next [] (at_crtc ls) (cond (l.crtc == crtc) (l ∷ []) []) (counted-pass ls all.1) (by_test (l.crtc == crtc) refl))
    where
      by_test : (b : Bool) → (l.crtc == crtc) ≡ b → AllPass may_be_next (at_crtc ls) (cond b (l ∷ []) [])
      by_test true e = (
        ap (λ n. may_count l.picture n l.count) (last-newest ls ∙ ap (newest_count ls) (sym (eqb-true l.crtc crtc e))) ∙ all.0,
        tt,
      )
      by_test false e = tt

-- Histories

pub history_counts : (s : Script) (h : List Step) → IsPlainScript s → is_history s h ≡ true → HasCounts (at s h)
history_counts s h plain is =
    (along s (λ m. Holds s m × HasCounts m)
    (λ m step both legal_step. (step_kept s m step plain both.0 legal_step, step_counts s m both.0 both.1 step legal_step))
    h (first_machine s.topology) (first_kept s plain, first_counts s) is).1
