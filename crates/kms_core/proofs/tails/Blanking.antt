-- A CRTC has a vblank.
use Rattle.std.proofs.Common.{◌≡◌, ℕ, ◌+◌, ◌<◌, ◌≤◌, Bool, true, false, List, [], ◌∷◌, ◌++◌, length, length-append, reverse, Option, Some}
use Rattle.std.proofs.Common.{None, inl, inr, refl, sym, ap, ◌∙◌, subst, arith}
use Rattle.std.specs.Prelude.{if◌then◌else◌, is_some, slice_index_or, slice_set}
use Rattle.std.proofs.lemmas.Bool.{false_from_ne_true, ltb-true}
use Rattle.std.proofs.lemmas.Bool.Decides.{eqb_tells}
use Rattle.kms_model.specs.declared.objects.Kind.TheVariants.{Crtc}
use Rattle.kms_model.specs.declared.objects.Topology.{Topology}
use Rattle.kms_model.specs.declared.pictures.Picture.{Picture}
use Rattle.kms_model.specs.declared.pictures.Picture.TheVariants.{Off}
use Rattle.kms_model.specs.declared.replies.Step.{Step}
use Rattle.kms_model.specs.declared.replies.Step.TheVariants as step
use Rattle.kms_model.specs.declared.runs.Latch.{Latch}
use Rattle.kms_model.specs.declared.scripts.Script.{Script}
use Rattle.kms_model.specs.Device.Objects.{count_of, ids_of, index_of, object_id}
use Rattle.kms_model.specs.Machine.Commits.{has_latched, has_number, has_pair, out_fence_of}
use Rattle.kms_model.specs.Machine.Effects.{counts_vblank, next}
use Rattle.kms_model.specs.Machine.Histories.{legal}
use Rattle.kms_model.specs.Machine.Registers.{read}
use Rattle.kms_model.specs.Machine.State.{DeviceState, Machine, count_at, go_at}
use Rattle.kms_model.proofs.Guards.{legal_guards}
use Rattle.kms_model.proofs.Items.{IsIn}
use Rattle.kms_model.proofs.KindsOfIds.{index_of-object}
use Rattle.kms_model.proofs.TouchedLemmas.{few_objects}
use Rattle.kms_laws.proofs.Basics.{both_bools, read_other, read_same}
use Rattle.kms_laws.proofs.EventsKept.{reserved_some}
use Rattle.kms_laws.proofs.Modes.{plain-from}
use Rattle.kms_laws.proofs.Objects.{crtc_registered, names-touches}
use Rattle.kms_laws.proofs.SmallNumbers.{numbers_fit}
use Rattle.kms_regs.specs.File.{RegisterFile, StandsForDevice, blanked, blanked_picture, blanking_count, counted, latched_device}
use Rattle.kms_regs.specs.File.{latched_picture}
use Rattle.kms_regs.specs.StepLaws.{Blanks}
use Rattle.kms_regs.proofs.MachineEffects as registers_follow
use Rattle.kms_signal.specs.FenceSets.{FenceSet}
use Rattle.kms_signal.specs.Queues.{Queue}
use Rattle.kms_signal.proofs.StepLemmas as signals_follow
use Rattle.kms_things.specs.Made.{Made}
use Rattle.kms_track.specs.Tracking.{Tracking, marked}
use Rattle.kms_track.specs.declared.progress.Mark.TheVariants as mark
use Rattle.kms_track.proofs.Marking.{latched_stands}
use Rattle.kms_track.proofs.StepLemmas as tracker_follows
use Rattle.kms_core.specs.Latching.{IsLatching, LatchIsTold, MayBlank, goes_at}
use Rattle.kms_core.specs.Logs.{Logged}
use Rattle.kms_core.specs.Run.{Run, gains, machine}
use Rattle.kms_core.specs.Stands.{AreGoing, Stores, Stands, queue_of}
use Rattle.kms_core.proofs.stores.CommitStates.{commits_sound, facts}
use Rattle.kms_core.specs.Freeing.{AreAllOf}
use Rattle.kms_core.specs.Logs.{Reserved}
use Rattle.kms_core.specs.Needs.{Frees}
use Rattle.kms_core.specs.Work.{AreFewCommits}
use Rattle.kms_core.proofs.stores.FreedCalls.{goes_latching, latches_by}
use Rattle.kms_core.proofs.freeing.FreedHistories.{changes}
use Rattle.kms_core.proofs.freeing.FreedSteps.{SameNeeds}
use Rattle.kms_core.proofs.stores.Histories.{goes_same}
use Rattle.kms_model.specs.Machine.Framebuffers.{picture_names}
use Rattle.kms_model.specs.Machine.Registers.{decoded_picture}
use Rattle.kms_core.proofs.tails.Latched.{FoundTail, SameParts, found_tail, going_set, is_latching, latched_shown, latches_go}
use Rattle.kms_core.proofs.tails.Latched.{latches_signalled, more_signalled, same_latches, stands_shown}

-- What is asked

pub blanks_low : {r : Run} {st : Stores} (crtc : ℕ) → Stands r st → MayBlank r crtc → crtc < 4
blanks_low {r} crtc stands asked =
    let t = r.script.topology in
    let g = legal_guards r.script (machine r) (step.Vblank Crtc crtc) asked in
    let few = few_objects t stands.formed.device in
    let there : crtc < count_of t Crtc = ltb-true crtc (count_of t Crtc) g.there in
    omega (arith, there, few.crtcs)

-- the count fits
pub count_fits : {r : Run} {st : Stores} (crtc : ℕ) (step : Step) (before steps : List Step) → Stands r st → before ≡ r.steps → steps
    ≡ before ++ step ∷ [] → length steps ≤ 18446744073709551615
    → blanking_count st.registers (object_id Crtc crtc) < 18446744073709551615
count_fits {r} crtc step before steps stands is more fits =
    let few = (numbers_fit r.script r.steps stands.formed stands.history).counts (object_id Crtc crtc) in
    let same = stands.stores.registers.counted crtc in
    let long : length steps ≡ length r.steps + 1 = ap length more ∙ length-append before (step ∷ []) ∙ ap (λ (h : List Step). length h + 1)
    is in
    omega (arith, few, same, long, fits)

-- What the register file answers

abbrev pub TellsBlank : RegisterFile → ℕ → Option Picture → Type 0
TellsBlank f crtc o = (t : Topology) (d : DeviceState) → StandsForDevice t d f → o ≡ blanked_picture t d (object_id Crtc crtc)

none_from : (o : Option ℕ) (p : Picture) → None ≡ (if is_some o then Some p else None) → o ≡ None
none_from None p is = refl
none_from (Some k) p is = absurd cc

picture_from : (o : Option ℕ) (p q : Picture) → Some q ≡ (if is_some o then Some p else None) → q ≡ p
picture_from None p q is = absurd cc
picture_from (Some k) p q is = cc

-- whether it goes is told by the commits that have GO
pub goes_is : {r : Run} {st : Stores} (crtc : ℕ) {o : Option ℕ} → Stands r st → crtc < 4 → slice_index_or st.goes crtc None ≡ o
    → is_some o ≡ goes_at r crtc
goes_is crtc stands low is = ap (λ (p : Option ℕ). is_some p) (sym (stands.stores.going.go crtc low ∙ is))

-- one that goes has a picture
pub has_picture : {r : Run} {st : Stores} (k crtc : ℕ) → Stands r st → crtc < 4 → slice_index_or st.goes crtc None ≡ Some k
    → TellsBlank st.registers crtc None → ⊥
has_picture {r} k crtc stands low is tells =
    let none : go_at (machine r).device (object_id Crtc crtc)
    ≡ None = none_from (go_at (machine r).device (object_id Crtc crtc)) _
    (tells r.script.topology (machine r).device stands.stores.registers) in
    let both : Some k ≡ None = sym (stands.stores.going.go crtc low ∙ is) ∙ none in
    absurd cc

-- Without GO

record IsBlank (m : Machine) (crtc : ℕ) (n : Machine) : Type 0 where
  same : SameParts m n
  latches : n.records.latches ≡ m.records.latches
  signalled : n.device.signalled ≡ m.device.signalled
  go : n.device.go ≡ (object_id Crtc crtc, None) ∷ m.device.go
  needs : SameNeeds m n

blank_without : (s : Script) (m : Machine) (crtc : ℕ) → go_at m.device (object_id Crtc crtc) ≡ None
    → IsBlank m crtc (next s m (step.Vblank Crtc crtc))
unfolding next
blank_without s m crtc none = rw none (record {
  same =
      record { contexts = refl; world = refl; commits = refl; journal = refl; replies = refl; stalled = refl };
  latches = refl;
  signalled =
      refl;
  go = refl;
  needs = record { world = refl; commits = refl; cleaned = refl; live = refl };
})

going_none : (d n : DeviceState) (goes : List (Option ℕ)) (crtc : ℕ) → n.go ≡ (object_id Crtc crtc, None) ∷ d.go
    → go_at d (object_id Crtc crtc) ≡ None → AreGoing d goes → AreGoing n goes
going_none d n goes crtc is none stand = record {
  size = stand.size;
  go = λ index few.
      elim (eqb_tells crtc index) [
        | inl same ↦
            subst (λ i. i < 4 → go_at n (object_id Crtc i) ≡ slice_index_or goes i None) same.1
            (λ low. ap (λ rows. read None rows (object_id Crtc crtc)) is ∙ read_same None d.go (object_id Crtc crtc) None ∙ sym none ∙
            stand.go crtc low) few
        | inr different ↦
            ap (λ rows. read None rows (object_id Crtc index)) is
            ∙ read_other None d.go (object_id Crtc crtc) (object_id Crtc index) None (λ e. different.1 (omega (arith, e)))
            ∙ stand.go index few
      ];
}

pub blanks_without : {r w : Run} {st : Stores} {shown : Logged Latch} {new : RegisterFile} (crtc : ℕ) → Stands r st → MayBlank r crtc
    → w ≡ gains r (step.Vblank Crtc crtc ∷ []) → shown.items ≡ st.latches.items → Blanks st.registers new crtc
    → slice_index_or st.goes crtc None ≡ None → Stands w (record st { latches = shown; registers = new })
blanks_without {r} {st = st} {shown = shown} {new = new} crtc stands asked more is blanks off =
    let s = r.script in
    let m = machine r in
    let S = stands.stores in
    let none = S.going.go crtc (blanks_low crtc stands asked) ∙ off in
    let B = blank_without s m crtc none in
    let L = signals_follow.vblank_follows s m crtc none in
    goes_same (step.Vblank Crtc crtc) B.needs refl refl stands more asked
    (stands_shown (next s m (step.Vblank Crtc crtc)) shown st.fences st.queues st.tracker new st.goes
    (record {
      same = B.same;
      recorded = is ∙ S.recorded.latched ∙ ap reverse (sym B.latches);
      signalled = L.fences st.fences S.fences;
      fenced = rw B.signalled S.fenced;
      told = record {
        size = S.queues.size;
        queue = λ client low high. L.queues (queue_of st.queues client) client
            (S.queues.queue client low high);
      };
      tracked = tracker_follows.vblank_follows s m crtc st.tracker none S.tracker;
      written = registers_follow.vblank_follows s m crtc st.registers new S.registers blanks;
      going = going_none m.device (next s m (step.Vblank Crtc crtc)).device st.goes crtc B.go none S.going;
    })
    (λ id made. made) S)

-- With GO

pub record BlanksFor (r : Run) (k crtc : ℕ) : Type 0 where
  pub low : crtc < 4
  pub go : go_at (machine r).device (object_id Crtc crtc) ≡ Some k
  pub is_crtc : IsIn (object_id Crtc crtc) (ids_of r.script.topology Crtc)
  pub flushed : has_pair (machine r).device.marks.flushed k (object_id Crtc crtc) ≡ true
  pub unlatched : has_latched (machine r).records.latches k (object_id Crtc crtc) ≡ false
  pub within : k < length (machine r).device.commits
  pub kept : has_number (machine r).device.marks.cleaned k ≡ false

pub blanks_for : {r : Run} {st : Stores} {k : ℕ} (crtc : ℕ) → Stands r st → MayBlank r crtc → slice_index_or st.goes crtc None ≡ Some k
    → BlanksFor r k crtc
blanks_for {r} {st} {k} crtc stands asked is =
    let c = object_id Crtc crtc in
    let low = blanks_low crtc stands asked in
    let T = (facts stands).holds.tail in
    let go = stands.stores.going.go crtc low ∙ is in
    let pending = T.marks.go_is k c go in
    let f = T.marks.flushed k c pending.flushed in
    let written = f.written c (crtc_registered r.script.topology c f.is_crtc)
    (names-touches r.script.topology (machine r).device.commits k c T.few f.is_crtc f.names) in
    record {
      low = low;
      go = go;
      is_crtc = f.is_crtc;
      flushed = pending.flushed;
      unlatched = pending.unlatched;
      within = T.marks.claimed k (T.marks.written k c written).0;
      kept = false_from_ne_true _ (λ yes. both_bools _ (T.marks.cleaned k c yes f.is_crtc f.names) pending.unlatched);
    }

blank_tail : {r : Run} {st : Stores} {k crtc : ℕ} → Stands r st → BlanksFor r k crtc
    → FoundTail r.script.topology (machine r).device.commits (machine r).device.marks (machine r).records.latches st.tracker k
blank_tail {r} {st} {k} stands B = found_tail k B.within B.kept stands.stores.tracker

pub blank_latches : {r : Run} {st : Stores} (k crtc count : ℕ) (picture : Picture) → Stands r st → MayBlank r crtc
    → slice_index_or st.goes crtc None ≡ Some k
    → IsLatching st.tracker st.queues (record { crtc = crtc; commit = k; count = count; picture = picture })
blank_latches {r} {st} k crtc count picture stands asked is =
    let s = r.script in
    let m = machine r in
    let B = blanks_for crtc stands asked is in
    let F = facts stands in
    let C = commits_sound r.steps (plain-from s stands.formed) stands.history k B.within in
    let l : Latch = record { crtc = crtc; commit = k; count = count; picture = picture } in
    is_latching l
    (blank_tail stands B) stands.stores.queues C.low C.high
    (reserved_some F.holds.tail k (object_id Crtc crtc) count l B.is_crtc B.flushed B.unlatched refl refl refl m.events F.events)

record IsBlankFor (s : Script) (m : Machine) (k crtc : ℕ) (n : Machine) : Type 0 where
  same : SameParts m n
  signalled : n.device.signalled ≡ more_signalled m.device.signalled (out_fence_of s.topology m.device.commits k (object_id Crtc crtc))
  go : n.device.go ≡ (object_id Crtc crtc, None) ∷ m.device.go

blank_with : (s : Script) (m : Machine) (k crtc : ℕ) → go_at m.device (object_id Crtc crtc) ≡ Some k
    → IsBlankFor s m k crtc (next s m (step.Vblank Crtc crtc))
unfolding next
blank_with s m k crtc has =
    let c = object_id Crtc crtc in
    rw has (record {
      same = same_latches s.topology m (counts_vblank m c) k c (count_at m.device c + 1)
          (record { contexts = refl; world = refl; commits = refl; journal = refl; replies = refl; stalled = refl });
      signalled = latches_signalled s.topology (counts_vblank m c) k c (count_at m.device c + 1);
      go = latches_go s.topology (counts_vblank m c) k c (count_at m.device c + 1);
    })

count_blanked : (t : Topology) (d : DeviceState) (c : ℕ) (b : Bool)
    → count_at (if b then latched_device t (counted d c) c else counted d c) c ≡ count_at d c + 1
count_blanked t d c true = read_same 0 d.counts c (count_at d c + 1)
count_blanked t d c false = read_same 0 d.counts c (count_at d c + 1)

-- what the calls leave of the stores
pub record HasBlanked (st : Stores) (k crtc : ℕ) (count : ℕ) (picture : Picture) (new : RegisterFile) (tracker : Tracking)
    (fences : FenceSet) (queues : List Queue) (shown : List Latch) : Type 0 where
  pub go : slice_index_or st.goes crtc None ≡ Some k
  pub blanks : Blanks st.registers new crtc
  pub tells : TellsBlank st.registers crtc (Some picture)
  pub counted : (t : Topology) (d : DeviceState) → StandsForDevice t d new → count ≡ count_at d (object_id Crtc crtc)
  pub told : LatchIsTold st.tracker tracker st.fences fences st.queues queues
      (record { crtc = crtc; commit = k; count = count; picture = picture })
  pub recorded : shown ≡ st.latches.items ++ record { crtc = crtc; commit = k; count = count; picture = picture } ∷ []

pub blanks_with : {r w : Run} {st : Stores} (k crtc count : ℕ) (picture : Picture) (new : RegisterFile) (tracker : Tracking)
    (fences : FenceSet) (queues : List Queue) (shown : Logged Latch)
    → Stands r st → MayBlank r crtc → w ≡ gains r (step.Vblank Crtc crtc ∷ [])
    → HasBlanked st k crtc count picture new tracker fences queues shown.items
    → (ids : List ℕ) (freed : Reserved (ℕ × ℕ)) (made : Made)
    → AreAllOf ids (λ id. picture_names id (decoded_picture r.script.topology (machine r).device.live (object_id Crtc crtc)))
    → {crtcs : ℕ} → crtcs ≡ r.script.topology.crtcs → Frees st.made made st.present new tracker crtcs ids st.freed freed
    → Stands w (record st {
      latches = shown;
      fences = fences;
      queues = queues;
      tracker = tracker;
      registers = new;
      goes = slice_set st.goes crtc None;
      freed = freed;
      made = made;
    })
blanks_with {r} {st = st} k crtc count picture new tracker fences queues shown stands asked more has ids freed made all crtcs_are frees =
    let s = r.script in
    let t = s.topology in
    let m = machine r in
    let d = m.device in
    let c = object_id Crtc crtc in
    let B = blanks_for crtc stands asked has.go in
    let S = stands.stores in
    let n = next s m (step.Vblank Crtc crtc) in
    let O = blank_with s m k crtc B.go in
    let l : Latch = record { crtc = crtc; commit = k; count = count; picture = picture } in
    let low = B.low in
    let index_is : crtc ≡ index_of c = sym (index_of-object Crtc crtc (omega (arith, low))) in
    let count_is : count ≡ count_at d c + 1 = has.counted t (blanked t d c) (has.blanks t d S.registers) ∙ count_blanked t d c
    (is_some (go_at d c)) in
    let picture_is : picture ≡ latched_picture t d c = picture_from (go_at d c) (latched_picture t d c) picture (has.tells t d S.registers)
    in
    let one : n.records.latches ≡ l ∷ m.records.latches =
    registers_follow.vblank_recorded s m k crtc B.go ∙
    (λ i. record { crtc = sym index_is i; commit = k; count = sym count_is i; picture = sym picture_is i } ∷ m.records.latches) in
    goes_latching (step.Vblank Crtc crtc) freed made
    (latches_by l
    (changes s m (step.Vblank Crtc crtc) asked) index_is B.is_crtc one) all (rw crtcs_are at frees) refl stands more asked
    (latched_shown n (count_at d c + 1) d.marks st.tracker tracker fences queues shown l new (slice_set st.goes crtc None)
    (record {
      low = B.low;
      within = B.within;
      found = blank_tail stands B;
      signals = signals_follow.vblank_with_go_follows s m k crtc B.go;
      same = O.same;
      signalled = O.signalled;
      counted = count_is;
      recorded = one;
      told = has.told;
      latched = has.recorded;
    })
    (rw has.told.tracker (tracker_follows.vblank_with_go_follows s m k crtc st.tracker B.within B.low B.go S.tracker))
    (registers_follow.vblank_follows s m crtc st.registers new S.registers has.blanks)
    (going_set n.device crtc None O.go B.low S.going) stands)

-- the commits after it are few
pub few_blanked : {r : Run} {st : Stores} (k crtc : ℕ) → Stands r st → MayBlank r crtc → slice_index_or st.goes crtc None ≡ Some k
    → AreFewCommits (marked st.tracker k (mark.Latched crtc))
few_blanked {r} {st} k crtc stands asked is =
    let m = machine r in
    let B = blanks_for crtc stands asked is in
    let fit = (numbers_fit r.script r.steps stands.formed stands.history).commits in
    let l : Latch = record { crtc = crtc; commit = k; count = 0; picture = Off } in
    record {
      topology = r.script.topology;
      commits = m.device.commits;
      marks = m.device.marks;
      latches = l ∷ m.records.latches;
      stand = latched_stands r.script.topology m.device.commits m.device.marks m.records.latches st.tracker k B.within
          stands.stores.tracker l refl B.low;
      few = omega (arith, fit);
    }
