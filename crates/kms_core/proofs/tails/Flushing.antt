-- A commit flushes a CRTC that it names.
use Rattle.std.proofs.Common.{◌≡◌, ℕ, ◌<◌, Bool, true, false, List, [], ◌∷◌, ◌++◌, length, reverse, Option, Some, None, refl, sym, ap, ◌∙◌}
use Rattle.std.proofs.Common.{arith}
use Rattle.std.specs.Prelude.{if◌then◌else◌, not, slice_set, ◌||◌}
use Rattle.std.proofs.lemmas.Bool.{false_from_ne_true, false≢true, ltb-true}
use Rattle.kms_model.specs.declared.objects.Kind.TheVariants.{Crtc}
use Rattle.kms_model.specs.declared.objects.Topology.{Topology}
use Rattle.kms_model.specs.declared.pictures.Picture.{Picture}
use Rattle.kms_model.specs.declared.pictures.Picture.TheVariants.{Off}
use Rattle.kms_model.specs.declared.replies.Step.TheVariants as step
use Rattle.kms_model.specs.declared.runs.Latch.{Latch}
use Rattle.kms_model.specs.declared.scripts.Script.{Script}
use Rattle.kms_model.specs.Device.Objects.{count_of, index_of, object_id}
use Rattle.kms_model.specs.Machine.Commits.{commit_touches, has_number, has_pair, is_all_written, new_crtc, out_fence_of, registered}
use Rattle.kms_model.specs.Machine.Effects.{next}
use Rattle.kms_model.specs.Machine.Histories.{legal}
use Rattle.kms_model.specs.Machine.Registers.{is_on_in, read}
use Rattle.kms_model.specs.Machine.State.{DeviceState, Machine, Marks, count_at}
use Rattle.kms_model.proofs.Guards.{IsFlush, legal_guards}
use Rattle.kms_model.proofs.Items.{list_all-at}
use Rattle.kms_model.proofs.KindsOfIds.{index_of-object}
use Rattle.kms_model.proofs.TouchedLemmas.{few_objects}
use Rattle.kms_model.proofs.Facts.{implied}
use Rattle.kms_laws.proofs.Basics.{both_bools, pair_now}
use Rattle.kms_laws.proofs.EventsKept.{reserved_some}
use Rattle.kms_laws.proofs.Modes.{plain-from}
use Rattle.kms_laws.proofs.Objects.{crtc_registered, names-touches}
use Rattle.kms_laws.proofs.Steps.{flushed_at, flushed_holds, fresh-unlatched}
use Rattle.kms_regs.specs.File.{RegisterFile, StandsForDevice, flushed, flushed_picture, latched_device, latched_picture}
use Rattle.kms_regs.specs.StepLaws.{Flushes}
use Rattle.kms_regs.proofs.MachineEffects as registers_follow
use Rattle.kms_signal.specs.FenceSets.{FenceSet}
use Rattle.kms_signal.specs.Queues.{Queue}
use Rattle.kms_signal.proofs.StepLemmas as signals_follow
use Rattle.kms_things.specs.Made.{Made}
use Rattle.kms_track.specs.Tracking.{Tracking, marked}
use Rattle.kms_track.specs.declared.progress.Mark.TheVariants as mark
use Rattle.kms_track.specs.InStep.{IsTrackerOf}
use Rattle.kms_track.proofs.Marking.{flushed_stands, latched_stands}
use Rattle.kms_track.proofs.StepLemmas as tracker_follows
use Rattle.kms_core.specs.Latching.{IsLatching, LatchIsTold, MayFlush}
use Rattle.kms_core.specs.Logs.{Logged}
use Rattle.kms_core.specs.Run.{Run, gains, machine}
use Rattle.kms_core.specs.Stands.{Stores, Stands, queue_of}
use Rattle.kms_core.proofs.stores.CommitStates.{commits_sound, facts}
use Rattle.kms_core.specs.Freeing.{AreAllOf}
use Rattle.kms_core.specs.Logs.{Reserved}
use Rattle.kms_core.specs.Needs.{Frees}
use Rattle.kms_core.specs.Work.{AreFewCommits}
use Rattle.kms_core.proofs.stores.FreedCalls.{goes_latching, latches_by}
use Rattle.kms_core.proofs.freeing.FreedHistories.{changes}
use Rattle.kms_core.proofs.freeing.FreedSteps.{SameNeeds}
use Rattle.kms_core.proofs.stores.Histories.{goes_same}
use Rattle.kms_laws.proofs.SmallNumbers.{numbers_fit}
use Rattle.kms_model.specs.Machine.Framebuffers.{picture_names}
use Rattle.kms_model.specs.Machine.Registers.{decoded_picture}
use Rattle.kms_core.proofs.tails.Latched.{FoundTail, IsFlushed, SameParts, found_tail, going_set, is_latching, latched_shown, latches_go}
use Rattle.kms_core.proofs.tails.Latched.{latches_signalled, more_signalled, same_either, same_latches, shadow_flushed, stands_shown}

-- What is asked

pub record FlushesNext (r : Run) (k crtc : ℕ) : Type 0 where
  pub is_legal : legal r.script (machine r) (step.Flush k Crtc crtc) ≡ true
  pub low : crtc < 4
  pub all_written : is_all_written r.script.topology (machine r).device k ≡ true
  pub flush : IsFlush r.script.topology (machine r) k (object_id Crtc crtc)
  pub flushed : IsFlushed r.script.topology (machine r).device (machine r).records.latches k (object_id Crtc crtc)
  pub within : k < length (machine r).device.commits
  pub kept : has_number (machine r).device.marks.cleaned k ≡ false

pub flushes_next : {r : Run} {st : Stores} (k crtc : ℕ) → Stands r st → MayFlush r k crtc → FlushesNext r k crtc
unfolding is_all_written
flushes_next {r} k crtc stands asked =
    let t = r.script.topology in
    let m = machine r in
    let d = m.device in
    let c = object_id Crtc crtc in
    let g = legal_guards r.script m (step.Flush k Crtc crtc) asked in
    let few = few_objects t stands.formed.device in
    let there : crtc < count_of t Crtc = ltb-true crtc (count_of t Crtc) g.there in
    let f = g.flush in
    let H = (facts stands).holds in
    let T = H.tail in
    let written : has_pair d.marks.written k c ≡ true =
    implied (commit_touches t d.commits k c) (has_pair d.marks.written k c)
    (list_all-at (λ object. not (commit_touches t d.commits k object) || has_pair d.marks.written k object) (registered t) c g.written
    (crtc_registered t c f.is_crtc))
    (names-touches t d.commits k c few f.is_crtc f.names) in
    record {
      is_legal = asked;
      low = omega (arith, there, few.crtcs);
      all_written = g.written;
      flush = f;
      flushed = record { is_crtc = f.is_crtc; names = f.names; written = written; unlatched = fresh-unlatched r.script m H k c f };
      within = T.marks.claimed k (T.marks.written k c written).0;
      kept = false_from_ne_true (has_number d.marks.cleaned k)
          (λ yes. both_bools _ (T.marks.latched k c (T.marks.cleaned k c yes f.is_crtc f.names)) f.fresh);
    }

-- The machine after a flush

flush_same : (s : Script) (m : Machine) (k crtc : ℕ) → SameParts m (next s m (step.Flush k Crtc crtc))
unfolding next
flush_same s m k crtc =
    same_either (new_crtc s.topology m.device.commits k (object_id Crtc crtc)).active _
    (record { contexts = refl; world = refl; commits = refl; journal = refl; replies = refl; stalled = refl })
    (same_latches s.topology m (flushed_at m k (object_id Crtc crtc)) k (object_id Crtc crtc) (count_at m.device (object_id Crtc crtc))
    (record { contexts = refl; world = refl; commits = refl; journal = refl; replies = refl; stalled = refl }))

record IsOnFlush (s : Script) (m : Machine) (k crtc : ℕ) (n : Machine) : Type 0 where
  latches : n.records.latches ≡ m.records.latches
  signalled : n.device.signalled ≡ m.device.signalled
  go : n.device.go ≡ (object_id Crtc crtc, Some k) ∷ m.device.go
  needs : SameNeeds m n

flush_on : (s : Script) (m : Machine) (k crtc : ℕ) → (new_crtc s.topology m.device.commits k (object_id Crtc crtc)).active ≡ true
    → IsOnFlush s m k crtc (next s m (step.Flush k Crtc crtc))
unfolding next
flush_on s m k crtc on = rw on (record {
  latches = refl;
  signalled = refl;
  go = refl;
  needs =
      record { world = refl; commits = refl; cleaned = refl; live = refl };
})

record IsOffFlush (s : Script) (m : Machine) (k crtc : ℕ) (n : Machine) : Type 0 where
  signalled : n.device.signalled ≡ more_signalled m.device.signalled (out_fence_of s.topology m.device.commits k (object_id Crtc crtc))
  go : n.device.go ≡ m.device.go

flush_off : (s : Script) (m : Machine) (k crtc : ℕ) → (new_crtc s.topology m.device.commits k (object_id Crtc crtc)).active ≡ false
    → IsOffFlush s m k crtc (next s m (step.Flush k Crtc crtc))
unfolding next
flush_off s m k crtc off =
    rw off (record {
      signalled = latches_signalled s.topology (flushed_at m k (object_id Crtc crtc)) k (object_id Crtc crtc)
          (count_at m.device (object_id Crtc crtc));
      go = latches_go s.topology (flushed_at m k (object_id Crtc crtc)) k (object_id Crtc crtc) (count_at m.device (object_id Crtc crtc));
    })

-- What the register file answers

on_from : (b : Bool) (p : Picture) → None ≡ (if b then None else Some p) → b ≡ true
on_from true p is = refl
on_from false p is = absurd cc

off_from : (b : Bool) (p q : Picture) → Some q ≡ (if b then None else Some p) → b ≡ false
off_from true p q is = absurd cc
off_from false p q is = refl

abbrev pub TellsPicture : RegisterFile → ℕ → Option Picture → Type 0
TellsPicture f crtc o = (t : Topology) (d : DeviceState) → StandsForDevice t d f → o ≡ flushed_picture d (object_id Crtc crtc)

-- a CRTC that is on in the shadow has no picture at its flush, and one that is off there has one
pub tells_none : (f : RegisterFile) (crtc : ℕ)
    → ((t : Topology) (d : DeviceState) → StandsForDevice t d f → true ≡ is_on_in d.shadow (object_id Crtc crtc)) → TellsPicture f crtc None
tells_none f crtc on = λ t d stands. ap (λ (b : Bool). if b then None else Some Off) (on t d stands)

pub off_has_picture : {r : Run} {st : Stores} (crtc : ℕ) → Stands r st
    → ((t : Topology) (d : DeviceState) → StandsForDevice t d st.registers → false ≡ is_on_in d.shadow (object_id Crtc crtc))
    → TellsPicture st.registers crtc None → ⊥
off_has_picture {r} crtc stands off none =
    let t = r.script.topology in
    let d = (machine r).device in
    let found = stands.stores.registers in
    false≢true (off t d found ∙ on_from (is_on_in d.shadow (object_id Crtc crtc)) Off (none t d found))

active_is : {r : Run} {st : Stores} {k crtc : ℕ} → Stands r st → FlushesNext r k crtc
    → is_on_in (machine r).device.shadow (object_id Crtc crtc)
    ≡ (new_crtc r.script.topology (machine r).device.commits k (object_id Crtc crtc)).active
active_is {r} {k} {crtc} stands N = shadow_flushed
    (facts stands).holds.tail N.flushed

-- A CRTC that is on after the commit

pub flushes_on : {r w : Run} {st : Stores} {shown : Logged Latch} {new : RegisterFile} {u : Tracking} (k crtc : ℕ)
    → Stands r st → MayFlush r k crtc → w ≡ gains r (step.Flush k Crtc crtc ∷ []) → shown.items ≡ st.latches.items → u ≡ marked st.tracker k
    (mark.Flushed crtc) → Flushes st.registers new crtc
    → TellsPicture st.registers crtc None
    → Stands w (record st { latches = shown; tracker = u; registers = new; goes = slice_set st.goes crtc (Some k) })
flushes_on {r} {st = st} {shown = shown} {new = new} {u = u} k crtc stands asked more is after flushes tells =
    let s = r.script in
    let m = machine r in
    let N = flushes_next k crtc stands asked in
    let S = stands.stores in
    let shadow = active_is stands N in
    let on = sym shadow ∙ on_from (is_on_in m.device.shadow (object_id Crtc crtc)) _ (tells s.topology m.device S.registers) in
    let O = flush_on s m k crtc on in
    let L = signals_follow.flush_follows s m k crtc on in
    goes_same (step.Flush k Crtc crtc) O.needs refl refl stands more N.is_legal
    (stands_shown (next s m (step.Flush k Crtc crtc)) shown st.fences st.queues u new (slice_set st.goes crtc (Some k))
    (record {
      same = flush_same s m k crtc;
      recorded = is ∙ S.recorded.latched ∙ ap reverse (sym O.latches);
      signalled = L.fences st.fences S.fences;
      fenced = rw O.signalled S.fenced;
      told = record {
        size = S.queues.size;
        queue = λ client low high. L.queues (queue_of st.queues client) client
            (S.queues.queue client low high);
      };
      tracked = rw after (tracker_follows.flush_follows s m k crtc N.low on st.tracker N.is_legal S.tracker);
      written = registers_follow.flush_follows s m k crtc st.registers new shadow S.registers flushes;
      going = going_set (next s m (step.Flush k Crtc crtc)).device crtc (Some k) O.go N.low S.going;
    })
    (λ id made. made) S)

-- One that is off

abbrev flushed_marks : ℕ → ℕ → Marks → Marks
flushed_marks k crtc marks = record marks { flushed = (k, object_id Crtc crtc) ∷ marks.flushed }

-- the tracker once the flush is marked
flush_marked : {r : Run} {st : Stores} {k crtc : ℕ} {u : Tracking} → Stands r st → FlushesNext r k crtc
    → u ≡ marked st.tracker k (mark.Flushed crtc)
    → IsTrackerOf r.script.topology (machine r).device.commits (flushed_marks k crtc (machine r).device.marks) (machine r).records.latches u
flush_marked {r} {st} {k} {crtc} stands N after =
    rw after (flushed_stands r.script.topology (machine r).device.commits (machine r).device.marks (machine r).records.latches st.tracker k
    N.within stands.stores.tracker crtc N.low)

-- the tail of the commit then
pub flushed_tail : {r : Run} {st : Stores} {k crtc : ℕ} {u : Tracking} → Stands r st → FlushesNext r k crtc
    → u ≡ marked st.tracker k (mark.Flushed crtc)
    → FoundTail r.script.topology (machine r).device.commits (flushed_marks k crtc (machine r).device.marks) (machine r).records.latches u k
flushed_tail {r} {st} {k} {crtc} {u} stands N after =
    found_tail k N.within N.kept
    (flush_marked stands N after)

pub flush_latches : {r : Run} {st : Stores} (k crtc count : ℕ) (picture : Picture) {u : Tracking} → Stands r st
    → MayFlush r k crtc → u ≡ marked st.tracker k (mark.Flushed crtc)
    → IsLatching u st.queues (record { crtc = crtc; commit = k; count = count; picture = picture })
flush_latches {r} {st} k crtc count picture stands asked after =
    let s = r.script in
    let m = machine r in
    let N = flushes_next k crtc stands asked in
    let F = facts stands in
    let C = commits_sound r.steps (plain-from s stands.formed) stands.history k N.within in
    let l : Latch = record { crtc = crtc; commit = k; count = count; picture = picture } in
    is_latching l (flushed_tail stands N after) stands.stores.queues C.low C.high
    (reserved_some (flushed_holds s m F.holds k (object_id Crtc crtc) N.all_written N.flush).tail k (object_id Crtc crtc) count l
    N.flush.is_crtc (pair_now k (object_id Crtc crtc) m.device.marks.flushed) N.flushed.unlatched refl refl refl m.events F.events)

count_flushed : (t : Topology) (d : DeviceState) (k c : ℕ) (b : Bool)
    → count_at (if b then record d { go = (c, Some k) ∷ d.go } else latched_device t d c) c ≡ count_at d c
count_flushed t d k c true = refl
count_flushed t d k c false = refl

-- what the calls leave of the stores
pub record HasFlushedOff (st : Stores) (k crtc : ℕ) (count : ℕ) (picture : Picture) (new : RegisterFile) (u tracker : Tracking)
    (fences : FenceSet) (queues : List Queue) (shown : List Latch) : Type 0 where
  pub flushes : Flushes st.registers new crtc
  pub tells : TellsPicture st.registers crtc (Some picture)
  pub latched : (t : Topology) (d : DeviceState) → StandsForDevice t d st.registers → picture ≡ latched_picture t d (object_id Crtc crtc)
  pub counted : (t : Topology) (d : DeviceState) → StandsForDevice t d new → count ≡ count_at d (object_id Crtc crtc)
  pub marked_as : u ≡ marked st.tracker k (mark.Flushed crtc)
  pub told : LatchIsTold u tracker st.fences fences st.queues queues (record { crtc = crtc; commit = k; count = count; picture = picture })
  pub recorded : shown ≡ st.latches.items ++ record { crtc = crtc; commit = k; count = count; picture = picture } ∷ []

pub flushes_off : {r w : Run} {st : Stores} (k crtc count : ℕ) (picture : Picture) (new : RegisterFile) (u tracker : Tracking)
    (fences : FenceSet) (queues : List Queue) (shown : Logged Latch)
    → Stands r st → MayFlush r k crtc → w ≡ gains r (step.Flush k Crtc crtc ∷ [])
    → HasFlushedOff st k crtc count picture new u tracker fences queues shown.items
    → (ids : List ℕ) (freed : Reserved (ℕ × ℕ)) (made : Made)
    → AreAllOf ids (λ id. picture_names id (decoded_picture r.script.topology (machine r).device.live (object_id Crtc crtc)))
    → {crtcs : ℕ} → crtcs ≡ r.script.topology.crtcs → Frees st.made made st.present new tracker crtcs ids st.freed freed
    → Stands w (record st {
      latches = shown;
      fences = fences;
      queues = queues;
      tracker = tracker;
      registers = new;
      freed = freed;
      made =
          made;
    })
flushes_off {r} {st = st} k crtc count picture new u tracker fences queues shown stands asked more has ids freed made all crtcs_are frees =
    let s = r.script in
    let t = s.topology in
    let m = machine r in
    let d = m.device in
    let c = object_id Crtc crtc in
    let N = flushes_next k crtc stands asked in
    let S = stands.stores in
    let n = next s m (step.Flush k Crtc crtc) in
    let shadow = active_is stands N in
    let off = sym shadow ∙ off_from (is_on_in d.shadow c) _ picture (has.tells t d S.registers) in
    let O = flush_off s m k crtc off in
    let l : Latch = record { crtc = crtc; commit = k; count = count; picture = picture } in
    let low = N.low in
    let index_is : crtc ≡ index_of c = sym (index_of-object Crtc crtc (omega (arith, low))) in
    let count_is : count ≡ count_at d c = has.counted t (flushed t d k c) (has.flushes t d k S.registers) ∙ count_flushed t d k c
    (is_on_in d.shadow c) in
    let picture_is : picture ≡ latched_picture t d c = has.latched t d S.registers in
    let one : n.records.latches ≡ l ∷ m.records.latches =
    registers_follow.flush_recorded s m k crtc off ∙
    (λ i. record { crtc = sym index_is i; commit = k; count = sym count_is i; picture = sym picture_is i } ∷ m.records.latches) in
    goes_latching
    (step.Flush k Crtc crtc) freed made
    (latches_by l
    (changes s m (step.Flush k Crtc crtc) N.is_legal) index_is N.flush.is_crtc one) all (rw crtcs_are at frees) refl stands more
    N.is_legal
    (latched_shown n (count_at d c) (flushed_marks k crtc d.marks) u tracker fences queues shown l new st.goes
    (record {
      low = N.low;
      within = N.within;
      found = flushed_tail stands N has.marked_as;
      signals = signals_follow.flush_off_follows s m k crtc off;
      same = flush_same s m k crtc;
      signalled = O.signalled;
      counted = count_is;
      recorded = one;
      told = has.told;
      latched = has.recorded;
    })
    (rw (has.told.tracker, has.marked_as) (tracker_follows.flush_off_follows s m k crtc st.tracker N.low off N.is_legal S.tracker))
    (registers_follow.flush_follows s m k crtc st.registers new shadow S.registers has.flushes)
    (record { size = S.going.size; go = λ index few. ap (λ rows. read None rows (object_id Crtc index)) O.go ∙ S.going.go index few })
    stands)

-- the commits after it are few
pub few_flushed : {r : Run} {st : Stores} (k crtc : ℕ) (u : Tracking) → Stands r st → MayFlush r k crtc
    → u ≡ marked st.tracker k (mark.Flushed crtc) → AreFewCommits (marked u k (mark.Latched crtc))
few_flushed {r} {st} k crtc u stands asked after =
    let m = machine r in
    let N = flushes_next k crtc stands asked in
    let fit = (numbers_fit r.script r.steps stands.formed stands.history).commits in
    let l : Latch = record { crtc = crtc; commit = k; count = 0; picture = Off } in
    record {
      topology = r.script.topology;
      commits = m.device.commits;
      marks = flushed_marks k crtc m.device.marks;
      latches = l ∷ m.records.latches;
      stand = latched_stands r.script.topology m.device.commits (flushed_marks k crtc m.device.marks) m.records.latches u k N.within
          (flush_marked stands N after) l refl N.low;
      few = omega (arith, fit);
    }
