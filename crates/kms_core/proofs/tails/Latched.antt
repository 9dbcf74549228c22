-- All stores stand after a flush or a vblank, at which a commit may latch.
use Rattle.std.proofs.Common.{◌≡◌, ℕ, suc, ◌-◌, ◌%◌, ◌^◌, ◌<◌, ◌≤◌, Bool, true, false, List, [], ◌∷◌, ◌++◌, length, reverse, Option, Some}
use Rattle.std.proofs.Common.{None, inl, inr, refl, sym, ap, ◌∙◌, subst, arith}
use Rattle.std.specs.Prelude.{if◌then◌else◌, slice_index_or, slice_set}
use Rattle.std.proofs.lemmas.Bool.{false_from_ne_true}
use Rattle.std.proofs.lemmas.Bool.Decides.{eqb_tells}
use Rattle.std.proofs.lemmas.List.{get_or-set_other, get_or-set_same, length-set}
use Rattle.kms_model.specs.declared.objects.Kind.TheVariants.{Crtc}
use Rattle.kms_model.specs.declared.objects.Topology.{Topology}
use Rattle.kms_model.specs.declared.replies.Event.{Event}
use Rattle.kms_model.specs.declared.runs.Latch.{Latch}
use Rattle.kms_model.specs.declared.scripts.Script.{Script}
use Rattle.kms_model.specs.Device.Objects.{ids_of, object_id}
use Rattle.kms_model.specs.Machine.Commits.{asks_event, commit_at, commit_names, commit_touches, has_latched, has_number, has_pair}
use Rattle.kms_model.specs.Machine.Commits.{new_crtc, out_fence_of}
use Rattle.kms_model.specs.Machine.Effects.{delivers_if, event_of, latches, latches_picture, signals}
use Rattle.kms_model.specs.Machine.Registers.{is_on_in, read}
use Rattle.kms_model.specs.Machine.State.{Commit, DeviceState, Events, Machine, Marks, go_at, reserved_at}
use Rattle.kms_model.proofs.Items.{IsIn}
use Rattle.kms_laws.proofs.Basics.{both_bools, read_other, read_same}
use Rattle.kms_laws.proofs.Invariants.{Tail, crtc_after}
use Rattle.kms_laws.proofs.Latching.{crtc_same}
use Rattle.kms_laws.proofs.Modes.{plain-from}
use Rattle.kms_laws.proofs.Present.{reverse_more}
use Rattle.kms_laws.proofs.Objects.{concerns_self, crtc_lockable, names-touches}
use Rattle.kms_signal.proofs.FenceLemmas.{still_made}
use Rattle.kms_regs.specs.File.{RegisterFile, StandsForDevice}
use Rattle.kms_regs.proofs.MachineEffects.{on_in_words}
use Rattle.kms_signal.specs.FenceSets.{FenceSet, is_made}
use Rattle.kms_signal.specs.InStep.{AreFencesOf, IsQueueOf}
use Rattle.kms_signal.specs.Queues.{Queue, delivers, empty_queue}
use Rattle.kms_signal.specs.StepLaws.{LatchesSignals, client_of, with_signal}
use Rattle.kms_track.specs.declared.tail.Tail.{Tail as CommitTail}
use Rattle.kms_track.specs.InStep.{IsKept, IsTailOf, IsTrackerOf, out_fence_at}
use Rattle.kms_track.specs.Tracking.{Tracking, tail_of}
use Rattle.kms_core.specs.Latching.{IsLatching, LatchIsTold, event_told, told_if}
use Rattle.kms_core.specs.Logs.{Logged}
use Rattle.kms_core.specs.Run.{Run, machine}
use Rattle.kms_core.specs.Stands.{AreGoing, AreMadeFences, AreQueues, Stores, Stands, StandsAt, queue_of}
use Rattle.kms_core.proofs.stores.CommitStates.{commits_sound}
use Rattle.kms_core.proofs.stores.Fencing.{signalled_fenced}

-- What a latch leaves alone

pub record SameParts (old new : Machine) : Type 0 where
  pub contexts : new.contexts ≡ old.contexts
  pub world : new.device.world ≡ old.device.world
  pub commits : new.device.commits ≡ old.device.commits
  pub journal : new.records.journal ≡ old.records.journal
  pub replies : new.records.replies ≡ old.records.replies
  pub stalled : new.stalled ≡ old.stalled

same_signals : {m n : Machine} (fence : Option ℕ) → SameParts m n → SameParts m (signals n fence)
same_signals None S = S
same_signals (Some id) S = record {
  contexts = S.contexts;
  world = S.world;
  commits = S.commits;
  journal = S.journal;
  replies =
      S.replies;
  stalled = S.stalled;
}

pub same_either : (b : Bool) {m : Machine} (x : Machine) {y : Machine} → SameParts m x → SameParts m y → SameParts m (if b then x else y)
same_either true x first second = first
same_either false x first second = second

pub same_latches : (t : Topology) (m n : Machine) (k crtc count : ℕ) → SameParts m n → SameParts m (latches t n k crtc count)
unfolding latches
same_latches t m n k crtc count S =
    let shown : SameParts m (latches_picture t n k crtc count) =
    record {
      contexts = S.contexts;
      world = S.world;
      commits = S.commits;
      journal = S.journal;
      replies = S.replies;
      stalled = S.stalled;
    } in
    same_signals (out_fence_of t n.device.commits k crtc)
    (same_either (asks_event t n.device.commits k) _
    (record { contexts = S.contexts; world = S.world; commits = S.commits; journal = S.journal; replies = S.replies; stalled = S.stalled })
    shown)

-- the fences that are signalled, and GO, after a latch

abbrev pub more_signalled : List ℕ → Option ℕ → List ℕ
more_signalled ids None = ids
more_signalled ids (Some id) = id ∷ ids

signals_more : (m : Machine) (fence : Option ℕ) → (signals m fence).device.signalled ≡ more_signalled m.device.signalled fence
signals_more m None = refl
signals_more m (Some id) = refl

signals_go : (m : Machine) (fence : Option ℕ) → (signals m fence).device.go ≡ m.device.go
signals_go m None = refl
signals_go m (Some id) = refl

same_device : (b : Bool) (x y : Machine) (d : DeviceState) → x.device ≡ d → y.device ≡ d → (if b then x else y).device ≡ d
same_device true x y d first second = first
same_device false x y d first second = second

pub latches_signalled : (t : Topology) (m : Machine) (k crtc count : ℕ) → (latches t m k crtc count).device.signalled
    ≡ more_signalled m.device.signalled (out_fence_of t m.device.commits k crtc)
unfolding latches
latches_signalled t m k crtc count =
    signals_more (delivers_if t (latches_picture t m k crtc count) k crtc count) (out_fence_of t m.device.commits k crtc)
    ∙ ap (λ (d : DeviceState). more_signalled d.signalled (out_fence_of t m.device.commits k crtc))
    (same_device (asks_event t m.device.commits k) _ (latches_picture t m k crtc count) (latches_picture t m k crtc count).device refl
    refl)

pub latches_go : (t : Topology) (m : Machine) (k crtc count : ℕ) → (latches t m k crtc count).device.go ≡ m.device.go
unfolding latches
latches_go t m k crtc count =
    signals_go (delivers_if t (latches_picture t m k crtc count) k crtc count) (out_fence_of t m.device.commits k crtc)
    ∙ ap (λ (d : DeviceState). d.go) (same_device (asks_event t m.device.commits k) _ (latches_picture t m k crtc count)
    (latches_picture t m k crtc count).device refl refl)

-- All stores

pub record AreShown (s : Script) (m n : Machine) (latched : Logged Latch) (fences : FenceSet) (queues : List Queue) (tracker : Tracking)
    (registers : RegisterFile) (goes : List (Option ℕ)) : Type 0 where
  pub same : SameParts m n
  pub recorded : latched.items ≡ reverse n.records.latches
  pub signalled : AreFencesOf fences n.device.signalled
  pub fenced : AreMadeFences m.device.world n.device.signalled fences
  pub told : AreQueues (length s.clients) n.events queues
  pub tracked : IsTrackerOf s.topology n.device.commits n.device.marks n.records.latches tracker
  pub written : StandsForDevice s.topology n.device registers
  pub going : AreGoing n.device goes

pub stands_shown : {s : Script} {m : Machine} (n : Machine) {st : Stores} (latched : Logged Latch) (fences : FenceSet) (queues : List Queue)
    (tracker : Tracking) (registers : RegisterFile) (goes : List (Option ℕ))
    → AreShown s m n latched fences queues tracker registers goes
    → ((id : ℕ) → is_made st.fences id ≡ true → is_made fences id ≡ true) → StandsAt s m st
    → StandsAt s n (record st {
      latches = latched;
      fences = fences;
      queues = queues;
      tracker = tracker;
      registers = registers;
      goes = goes;
    })
stands_shown n latched fences queues tracker registers goes shown more stands =
    let S = shown.same in
    record {
      clients = rw S.contexts stands.clients;
      recorded = record {
        accepted = rw S.journal stands.recorded.accepted;
        answered = rw S.replies stands.recorded.answered;
        latched =
            shown.recorded;
      };
      world = rw S.world stands.world;
      fences = shown.signalled;
      fenced = rw S.world shown.fenced;
      out_fenced = rw S.commits (λ k index id low few is. more id (stands.out_fenced k index id low few is));
      queues = shown.told;
      tracker = shown.tracked;
      registers = shown.written;
      going = shown.going;
      ended = S.stalled ∙ stands.ended;
    }

-- The fences

pub latched_fenced : (m : Machine) (fence : Option ℕ) {fences : FenceSet} → ((id : ℕ) → fence ≡ Some id → is_made fences id ≡ true)
    → AreMadeFences m.device.world m.device.signalled fences
    → AreMadeFences m.device.world (more_signalled m.device.signalled fence) (with_signal fences fence)
latched_fenced m None made fenced = fenced
latched_fenced m (Some id) made fenced = signalled_fenced id (made id refl) fenced

pub latched_more : (fences : FenceSet) (fence : Option ℕ) (id : ℕ) → is_made fences id ≡ true → is_made (with_signal fences fence) id ≡ true
latched_more fences None id made = made
latched_more fences (Some other) id made = still_made fences other id ∙ made

-- The queues

own_told : (b : Bool) (queues : List Queue) (client : ℕ) (event : Event) → 1 ≤ client → client ≤ length queues
    → queue_of (told_if b client event queues) client ≡ (if b then delivers (queue_of queues client) event else queue_of queues client)
own_told true queues client event low high = get_or-set_same queues (client - 1) (delivers (queue_of queues client) event) empty_queue
    (omega (arith, low, high))
own_told false queues client event low high = refl

other_told : (b : Bool) (queues : List Queue) (client other : ℕ) (event : Event) → 1 ≤ client → 1 ≤ other → (client ≡ other → ⊥)
    → queue_of (told_if b client event queues) other ≡ queue_of queues other
other_told true queues client other event low from apart = get_or-set_other queues (client - 1) (other - 1)
    (delivers (queue_of queues client) event) empty_queue (λ e. apart (omega (arith, e, low, from)))
other_told false queues client other event low from apart = refl

size_told : (b : Bool) (queues : List Queue) (client : ℕ) (event : Event) → length (told_if b client event queues) ≡ length queues
size_told true queues client event = length-set queues (client - 1) (delivers (queue_of queues client) event)
size_told false queues client event = refl

pub queues_told : {t : Topology} {m n : Machine} {clients k crtc count : ℕ} {queues : List Queue} → LatchesSignals t m n k crtc count → 1
    ≤ client_of t m k → client_of t m k ≤ clients → AreQueues clients m.events queues
    → AreQueues clients n.events (told_if (asks_event t m.device.commits k) (client_of t m k) (event_of t m k crtc count) queues)
queues_told {t} {m} {n} {k} {crtc} {count} {queues} L low high stand =
    let owner = client_of t m k in
    let event = event_of t m k crtc count in
    let b = asks_event t m.device.commits k in
    let size = stand.size in
    record {
      size = size_told b queues owner event ∙ stand.size;
      queue = λ other from to.
          elim (eqb_tells owner other) [
            | inl same ↦
                subst (λ c. IsQueueOf (queue_of (told_if b owner event queues) c) n.events c) same.1
                (subst (λ q. IsQueueOf q n.events owner) (sym (own_told b queues owner event low (omega (arith, size, high))))
                (L.queue (queue_of queues owner) (stand.queue owner low high)))
            | inr different ↦
                subst (λ q. IsQueueOf q n.events other) (sym (other_told b queues owner other event low from different.1))
                (L.others (queue_of queues other) other different.0 (stand.queue other from to))
          ];
    }

-- one is delivered
pub delivered_one : (x : CommitTail) (l : Latch) (queues : List Queue) {q new : Queue} {crtc : ℕ} → x.signals.wants_event ≡ true
    → q ≡ queue_of queues x.signals.client → crtc ≡ object_id Crtc l.crtc
    → new ≡ delivers q (record { user_data = x.signals.user_data; sequence = l.count % 4294967296; crtc = crtc })
    → slice_set queues (x.signals.client - 1) new ≡ told_if x.signals.wants_event x.signals.client (event_told x l) queues
delivered_one x l queues wants found id delivered = rw (wants, delivered, found, id) refl

-- GO

pub going_set : {d : DeviceState} (n : DeviceState) {goes : List (Option ℕ)} (crtc : ℕ) (o : Option ℕ) → n.go ≡ (object_id Crtc crtc, o) ∷
    d.go → crtc < 4
    → AreGoing d goes → AreGoing n (slice_set goes crtc o)
going_set {d} n {goes} crtc o is low stand =
    let size = stand.size in
    record {
      size = length-set goes crtc o ∙ stand.size;
      go = λ index few.
          elim (eqb_tells crtc index) [
            | inl same ↦
                subst (λ i. go_at n (object_id Crtc i) ≡ slice_index_or (slice_set goes crtc o) i None) same.1
                (ap (λ rows. read None rows (object_id Crtc crtc)) is ∙ read_same None d.go (object_id Crtc crtc) o ∙ sym
                (get_or-set_same goes crtc o None (omega (arith, size, low))))
            | inr different ↦
                ap (λ rows. read None rows (object_id Crtc index)) is
                ∙ read_other None d.go (object_id Crtc crtc) (object_id Crtc index) o (λ e. different.1 (omega (arith, e)))
                ∙ stand.go index few
                ∙ sym (get_or-set_other goes crtc index o None (λ e. different.1 (sym e)))
          ];
    }

-- The tail of a commit that latches

pub record FoundTail (t : Topology) (commits : List Commit) (marks : Marks) (latches : List Latch) (u : Tracking) (k : ℕ) : Type 0 where
  pub tail : CommitTail
  pub found : tail_of u k ≡ Some tail
  pub is : IsTailOf t commits marks latches k tail

pub found_tail : {t : Topology} {commits : List Commit} {marks : Marks} {latches : List Latch} {u : Tracking} (k : ℕ) → k < length commits
    → has_number marks.cleaned k ≡ false → IsTrackerOf t commits marks latches u
    → FoundTail t commits marks latches u k
found_tail {t} {commits} {marks} {latches} {u} k within kept stand = at (tail_of u k) refl (stand.kept k within) where
  at : (o : Option CommitTail) → tail_of u k ≡ o → IsKept t commits marks latches k o → FoundTail t commits marks latches u k
  at None is over = absurd (both_bools _ over.0 kept)
  at (Some x) is both = record { tail = x; found = is; is = both.1 }

pub is_latching : {t : Topology} {commits : List Commit} {marks : Marks} {latches : List Latch} {events : Events} {u : Tracking}
    {queues : List Queue} {clients : ℕ} (l : Latch) → FoundTail t commits marks latches u l.commit
    → AreQueues clients events queues → 1 ≤ (commit_at t commits l.commit).client → (commit_at t commits l.commit).client ≤ clients
    → (asks_event t commits l.commit ≡ true → 1 ≤ reserved_at events (commit_at t commits l.commit).client) → IsLatching u queues l
is_latching {t} {commits} {queues} l f stand low high reserved =
    let x = f.tail in
    let same : x.signals.client ≡ (commit_at t commits l.commit).client = f.is.signals.client in
    let size = stand.size in
    record {
      tail = x;
      found = f.found;
      low = omega (arith, low, same);
      high = omega (arith, high, same, size);
      reserved = λ wants. (
          let some = reserved (sym f.is.signals.event ∙ wants) in
          let has = (stand.queue (commit_at t commits l.commit).client low high).reserved in
          subst (λ n. 0 < (queue_of queues n).reserved) (sym same) (omega (arith, some, has)));
    }

-- its out-fence at a CRTC
pub fence_is : (t : Topology) (d : DeviceState) (k crtc : ℕ) (x : CommitTail) → crtc < 4
    → ((i : ℕ) → i < 4 → slice_index_or x.signals.out_fences i None ≡ out_fence_at t (commit_at t d.commits k) i)
    → slice_index_or x.signals.out_fences crtc None ≡ out_fence_of t d.commits k (object_id Crtc crtc)
unfolding out_fence_of
fence_is t d k crtc x low fences = fences crtc low

-- A latch

pub record HasLatched (s : Script) (m n : Machine) (st : Stores) (count : ℕ) (marks : Marks) (u tracker : Tracking) (fences : FenceSet)
    (queues : List Queue) (shown : Logged Latch) (l : Latch) : Type 0 where
  pub low : l.crtc < 4
  pub within : l.commit < length m.device.commits
  pub found : FoundTail s.topology m.device.commits marks m.records.latches u l.commit
  pub signals : LatchesSignals s.topology m n l.commit (object_id Crtc l.crtc) count
  pub same : SameParts m n
  pub signalled : n.device.signalled ≡ more_signalled m.device.signalled
      (out_fence_of s.topology m.device.commits l.commit (object_id Crtc l.crtc))
  pub counted : l.count ≡ count
  pub recorded : n.records.latches ≡ l ∷ m.records.latches
  pub told : LatchIsTold u tracker st.fences fences st.queues queues l
  pub latched : shown.items ≡ st.latches.items ++ l ∷ []

pub latched_shown : {r : Run} (n : Machine) {st : Stores} (count : ℕ) (marks : Marks) (u tracker : Tracking) (fences : FenceSet)
    (queues : List Queue) (shown : Logged Latch) (l : Latch) (registers : RegisterFile) (goes : List (Option ℕ))
    → HasLatched r.script (machine r) n st count marks u tracker fences queues shown l
    → IsTrackerOf r.script.topology n.device.commits n.device.marks n.records.latches tracker
    → StandsForDevice r.script.topology n.device registers → AreGoing n.device goes → Stands r st
    → StandsAt r.script n (record st
    { latches = shown; fences = fences; queues = queues; tracker = tracker; registers = registers; goes = goes })
latched_shown {r} n {st} count marks u tracker fences queues shown l registers goes H tracked written going stand =
    let s = r.script in
    let t = s.topology in
    let m = machine r in
    let k = l.commit in
    let c = object_id Crtc l.crtc in
    let stands = stand.stores in
    let C = commits_sound r.steps (plain-from s stand.formed) stand.history k H.within in
    let x = H.found.tail in
    let is = H.found.is in
    let fence = out_fence_of t m.device.commits k c in
    let set : fences ≡ with_signal st.fences fence = H.told.fences x H.found.found
    ∙ ap (with_signal st.fences) (fence_is t m.device k l.crtc x H.low is.signals.out_fences) in
    let event : event_told x l ≡ event_of t m k c count =
    λ i. record { user_data = is.signals.user_data i; sequence = H.counted i % 2 ^ 32; crtc = c } in
    let told : queues ≡ told_if (asks_event t m.device.commits k) (client_of t m k)
    (event_of t m k c count) st.queues = H.told.queues x H.found.found
    ∙ (λ i. told_if (is.signals.event i) (is.signals.client i) (event i) st.queues) in
    let made : (id : ℕ) → fence ≡ Some id → is_made st.fences id ≡ true = λ id is. stands.out_fenced k l.crtc id H.within H.low is in
    stands_shown n shown fences queues tracker registers goes
    (record {
      same = H.same;
      recorded = H.latched ∙ ap (λ ls. ls ++ l ∷ []) stands.recorded.latched ∙ sym (reverse_more l m.records.latches) ∙ ap reverse
          (sym H.recorded);
      signalled = subst (λ f. AreFencesOf f n.device.signalled) (sym set) (H.signals.fences st.fences stands.fences);
      fenced = subst (λ f. AreMadeFences m.device.world n.device.signalled f) (sym set)
          (subst (λ ids. AreMadeFences m.device.world ids (with_signal st.fences fence)) (sym H.signalled)
          (latched_fenced m fence made stands.fenced));
      told = subst (λ qs. AreQueues (length s.clients) n.events qs) (sym told)
          (queues_told H.signals C.low C.high stands.queues);
      tracked = tracked;
      written = written;
      going = going;
    })
    (λ id is. subst (λ f. is_made f id ≡ true) (sym set) (latched_more st.fences fence id is)) stands

-- The shadow words at a flush are those of the commit's new state

pub record IsFlushed (t : Topology) (d : DeviceState) (ls : List Latch) (k c : ℕ) : Type 0 where
  pub is_crtc : IsIn c (ids_of t Crtc)
  pub names : commit_names t d.commits k c ≡ true
  pub written : has_pair d.marks.written k c ≡ true
  pub unlatched : has_latched ls k c ≡ false

pub shadow_flushed : {t : Topology} {d : DeviceState} {ls : List Latch} {k c : ℕ} → Tail t d.commits d.marks d.shadow d.go ls
    → IsFlushed t d ls k c → is_on_in d.shadow c ≡ (new_crtc t d.commits k c).active
unfolding crtc_after
shadow_flushed {t} {d} {k} {c} T f =
    let e = T.shadow.crtc c f.is_crtc in
    let up : k < e.at = e.above k f.written in
    let touched : commit_touches t d.commits k c ≡ true = names-touches t d.commits k c T.few f.is_crtc f.names in
    on_in_words d c _ (new_crtc t d.commits k c)
    (e.says
    ∙ crtc_same t d.commits T.commits c f.is_crtc (suc k) e.at (omega (arith, up)) e.within
    (λ j l m. false_from_ne_true _ (λ named. (
    let touches : commit_touches t d.commits j c ≡ true = names-touches t d.commits j c T.few f.is_crtc named in
    both_bools _
    ((T.order.settled j k c (T.marks.written j c (e.below j m touches)).0 (omega (arith, l)) (crtc_lockable t c f.is_crtc) touches
    touched).flipped c f.is_crtc (concerns_self t d.commits k c T.few f.is_crtc))
    f.unlatched))))
