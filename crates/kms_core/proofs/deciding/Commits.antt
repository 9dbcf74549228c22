-- What a commit finds in the stores, and what it leaves.
use Rattle.std.proofs.Common.{◌≡◌, ◌⊎◌, ℕ, zero, suc, ◌+◌, ◌*◌, ◌-◌, ◌<◌, ◌≤◌, Bool, true, false, List, [], ◌∷◌, ◌++◌, length, map, take}
use Rattle.std.proofs.Common.{Option, Some, None, inl, inr, refl, sym, ap, ◌∙◌, subst, arith, ⊎_elim}
use Rattle.std.specs.Prelude.{◌&&◌, IsSome, nat_lt, reverse, slice_index_or, slice_set, if◌then◌else◌}
use Rattle.std.proofs.lemmas.Bool.{cases_lt, false≢true, lt-ltb}
use Rattle.std.proofs.lemmas.Bool.Decides.{eqb_tells}
use Rattle.std.proofs.lemmas.List.{get_or_default, get_or-set_same, get_or-set_other, length-set}
use Rattle.kms_model.specs.declared.objects.Kind.TheVariants.{Crtc}
use Rattle.kms_model.specs.declared.replies.Answered.{Answered}
use Rattle.kms_model.specs.declared.replies.Reply.TheVariants as reply
use Rattle.kms_model.specs.declared.replies.Step.{Step}
use Rattle.kms_model.specs.declared.replies.Step.TheVariants as step
use Rattle.kms_model.specs.declared.runs.Latch.{Latch}
use Rattle.kms_model.specs.declared.runs.Place.{Place}
use Rattle.kms_model.specs.declared.scripts.Assign.{Assign}
use Rattle.kms_model.specs.declared.scripts.Command.{Command}
use Rattle.kms_model.specs.declared.scripts.Command.TheVariants as command
use Rattle.kms_model.specs.declared.scripts.Request.{Request}
use Rattle.kms_model.specs.declared.sets.Resolved.{Resolved}
use Rattle.kms_model.specs.declared.states.Checked.{Checked}
use Rattle.kms_model.specs.declared.states.Duplicates.{Duplicates}
use Rattle.kms_model.specs.declared.worlds.Thing.{Thing}
use Rattle.kms_model.specs.declared.worlds.World.{World}
use Rattle.kms_model.specs.Device.Execution.{committed, make_out_fences}
use Rattle.kms_model.specs.Device.Objects.{ids_of, object_id}
use Rattle.kms_model.specs.Device.Serial.{Entry, command_of}
use Rattle.kms_model.specs.Device.World.{start, thing_labelled}
use Rattle.kms_model.specs.Machine.Commits.{id_of_thing, out_fence_of, thing_made}
use Rattle.kms_model.specs.Machine.Effects.{next}
use Rattle.kms_model.specs.Machine.Registers.{read}
use Rattle.kms_model.specs.Machine.State.{Commit, Events, Machine, Records, doing_at, place_at, request_in}
use Rattle.kms_model.specs.Machine.Steps.{lacks_space, may_swap, space_used}
use Rattle.kms_model.specs.Request.Apply.{after}
use Rattle.kms_model.specs.Request.Flags.{is_nonblock, wants_event}
use Rattle.kms_model.specs.Request.Lookups.{look_up}
use Rattle.kms_model.specs.Request.Named.{named, names}
use Rattle.kms_model.specs.Request.Touched.{out_fence_label}
use Rattle.kms_model.proofs.Guards.{IsSwapping, legal_guards, swap_guards, taking_passes}
use Rattle.kms_model.proofs.Items.{IsIn}
use Rattle.kms_model.proofs.TouchedLemmas.{IsRequestAt, few_objects}
use Rattle.kms_model.proofs.CommitFacts.{commit_old, commit_new}
use Rattle.kms_wwlock.specs.InStep.{AreClientsOf, after_decision, after_swap}
use Rattle.kms_wwlock.specs.Standing.{Standing, place_of}
use Rattle.kms_laws.proofs.Fitting.{taking-busy}
use Rattle.kms_laws.proofs.Modes.{plain-from}
use Rattle.kms_laws.proofs.Present.{reverse_more}
use Rattle.kms_laws.proofs.Sizes.{answered as answered_by, ended_at}
use Rattle.kms_laws.proofs.SmallNumbers.{numbers_fit}
use Rattle.kms_laws.proofs.Steps.{Holds, history_kept, request-is}
use Rattle.kms_regs.proofs.MachineEffects.{others_follow}
use Rattle.kms_signal.proofs.StepLemmas.{queues_follow_others_swap, queues_follow_swap}
use Rattle.kms_signal.specs.FenceSets.{FenceSet, is_made}
use Rattle.kms_signal.specs.InStep.{IsQueueOf}
use Rattle.kms_signal.specs.Queues.{HasSpace, Queue, empty_queue}
use Rattle.kms_signal.specs.StepLaws.{new_commit}
use Rattle.kms_track.specs.declared.tail.Signals.{Signals}
use Rattle.kms_track.specs.InStep.{AreSignalsOf, IsInStep, out_fence_at}
use Rattle.kms_track.proofs.SettingUp.{room_stands}
use Rattle.kms_things.specs.Made.{HasIds, Made, with_made}
use Rattle.kms_track.proofs.CheckedLemmas.{checked_for}
use Rattle.kms_track.proofs.StepLemmas.{swap_follows}
use Rattle.kms_track.specs.Tracking.{IsSetUp, Tracking}
use Rattle.kms_core.specs.Calls.{answered}
use Rattle.kms_core.specs.Logs.{Logged}
use Rattle.kms_core.specs.Run.{Run, gains, machine}
use Rattle.kms_core.specs.Decisions.{world}
use Rattle.kms_core.specs.SwappedIn.{IsSwappedIn, events_asked_for, fences_for, fences_under, id_made_under, label_in, labels_in}
use Rattle.kms_core.specs.SwappedIn.{signals_for}
use Rattle.kms_core.specs.Stands.{AreOutFencesMade, AreQueues, AreRecords, IsWorldOf, Stores, Stands, StandsAt, entry_pair, is_fence}
use Rattle.kms_core.specs.Stands.{queue_of}
use Rattle.kms_core.specs.Swaps.{MayCommit}
use Rattle.kms_core.specs.Room.{KeepsStored, SameTracking}
use Rattle.kms_core.proofs.stores.WithRoom.{stands_with_room}
use Rattle.kms_core.proofs.deciding.Answering.{MayDecide, may_decide}
use Rattle.kms_core.proofs.stores.Committed.{committed_present}
use Rattle.kms_laws.proofs.Ended.{history_ended}
use Rattle.kms_core.proofs.stores.Fencing.{thing_made as thing_under}
use Rattle.kms_core.proofs.stores.Histories.{goes_on}
use Rattle.kms_laws.proofs.Labels.{asks_made, serial_absent}
use Rattle.kms_laws.specs.Once.{makes}
use Rattle.kms_laws.proofs.MadeOnce.{made_once}
use Rattle.kms_core.proofs.Lates.{OwnQueue, count_named, own_queue}
use Rattle.kms_core.proofs.deciding.OutFences.{FencesStand, fences_more, found_or_made, out_fences_made}
use Rattle.kms_core.proofs.deciding.OutLabels.{few_in_fences, label_at_crtc, labels_of_crtcs}
use Rattle.kms_core.proofs.stores.Recorded.{joined_more, records_answered}
use Rattle.kms_core.proofs.stores.Spared.{with_latches}
use Rattle.kms_core.proofs.deciding.Swaps.{SwapLeaves, clients_swapped, swap_leaves}

-- The journal

in_either_part : (xs ys : List Entry) (e : Entry) → IsIn e (xs ++ ys) → IsIn e xs ⊎ IsIn e ys
in_either_part [] ys e is = inr is
in_either_part (x ∷ xs) ys e (inl same) = inl (inl same)
in_either_part (x ∷ xs) ys e (inr later) = ⊎_elim (λ there. inl (inr there)) (λ there. inr there) (in_either_part xs ys e later)

in_reverse : (xs : List Entry) (e : Entry) → IsIn e (reverse xs) → IsIn e xs
in_reverse [] e is = is
in_reverse (x ∷ xs) e is = ⊎_elim (λ there. inr (in_reverse xs e there)) (λ here. ⊎_elim (λ same. inl same) (λ never. absurd never) here)
    (in_either_part (reverse xs) (x ∷ []) e (subst (λ ys. IsIn e ys) (reverse_more x xs) is))

-- Want of memory: stores with other room stand as well

-- a queue with other room is a client's as well
queue_same : {q : Queue} (new : Queue) {events : Events} {client : ℕ} → new.reserved ≡ q.reserved → new.unread ≡ q.unread → IsQueueOf q
    events client
    → IsQueueOf new events client
queue_same new reserved unread is = record { reserved = reserved ∙ is.reserved; unread = unread ∙ is.unread }

pub queues_same : {clients : ℕ} {events : Events} (client : ℕ) {queues : List Queue} (new : Queue) → 1 ≤ client → client ≤ clients
    → new.reserved ≡ (queue_of queues client).reserved → new.unread ≡ (queue_of queues client).unread
    → AreQueues clients events queues → AreQueues clients events (slice_set queues (client - 1) new)
queues_same {events} client {queues} new low high reserved unread stand = record {
  size = length-set queues (client - 1) new ∙ stand.size;
  queue = λ other from to.
      elim (eqb_tells client other) [
        | inl same ↦ (let size = stand.size in
            subst (λ n. IsQueueOf (queue_of (slice_set queues (client - 1) new) n) events n) same.1
            (subst (λ q. IsQueueOf q events client) (sym
            (get_or-set_same queues (client - 1) new empty_queue (omega (arith, size, low, high))))
            (queue_same new reserved unread (stand.queue client low high))))
        | inr different ↦
            subst (λ q. IsQueueOf q events other) (sym
            (get_or-set_other queues (client - 1) (other - 1) new empty_queue (λ e. different.1 (omega (arith, e, low, from)))))
            (stand.queue other from to)
      ];
}

-- a commit is set up with other room as well
pub set_up_same : {old middle new : Tracking} {signals : Signals} {checked : Checked} {fences : List ℕ} → SameTracking old middle
    → IsSetUp middle new signals checked fences → IsSetUp old new signals checked fences
set_up_same same up = record {
  count = up.count ∙ ap (λ n. n + 1) same.count;
  lasts = rw (← same.lasts, ← same.count) up.lasts;
  previous = up.previous;
  previous_are = rw (← same.lasts) up.previous_are;
  waits = up.waits;
  waits_are = up.waits_are;
  tails = rw (← same.tails, ← same.count) up.tails;
}

-- What a commit finds

-- as the call finds it
pub may_now : {r v : Run} {client : ℕ} {checked : Checked} {resolved : Resolved} → r ≡ v → MayCommit v client checked resolved
    → MayCommit r client checked resolved
may_now {client = client} {checked} {resolved} same can = subst (λ (x : Run). MayCommit x client checked resolved) (sym same) can

module _ {r : Run} {st : Stores} {client : ℕ} {checked : Checked} {resolved : Resolved} (stands : Stands r st)
    (can : MayCommit r client checked resolved) where
  pub own : OwnQueue r st client
  own = own_queue can.ready stands

  pub high : client ≤ length r.script.clients
  high = (let size = stands.stores.queues.size in let within = own.within in let low = own.low in omega (arith, size, within, low))

  -- the queue at the client's index
  pub found_queue : {q : Queue} (d : Queue) → q ≡ slice_index_or st.queues (client - 1) d → q ≡ queue_of st.queues client
  found_queue d is = is ∙ get_or_default st.queues (client - 1) d empty_queue own.within

  pub decider : MayDecide client st.clients
  decider = may_decide client stands can.ready.number can.ready.taking

  pub has_ids : HasIds st.made
  has_ids = (let fit = (numbers_fit r.script r.steps stands.formed stands.history).ids in let same = stands.stores.world.next_id
      in omega (arith, fit, same))

  pub few_commits : st.tracker.count < 4294967295
  few_commits = (let fit = (numbers_fit r.script r.steps stands.formed stands.history).commits in let count = stands.stores.tracker.count in
      omega (arith, fit, count))

  pub few_waits : length resolved.in_fences ≤ 16
  few_waits = rw can.asks.in_fences (few_in_fences r.script.topology (look_up (world r)) can.ready.request.assigns
      (few_objects r.script.topology stands.formed.device).planes)

  -- the request at which the client stands is found
  pub there : (number : ℕ) → number ≡ (place_of st.clients client).command
      → IsSome (request_in (command_of r.script (record { client = client; command = number })))
  there number is =
      let same = is ∙ ap (λ (p : Place). p.command) (stands.stores.clients.places client can.ready.number) in
      rw (ap (λ n. request_in (command_of r.script (record { client = client; command = n }))) same ∙ can.ready.at) refl

  swap : IsSwapping r.script.topology (machine r) client can.ready.request
  swap = swap_guards r.script.topology (machine r) client can.ready.request
      (taking_passes r.script (machine r) client (may_swap r.script.topology (machine r) client)
      (legal_guards r.script (machine r) (step.Swap client) can.legal) can.ready.request can.ready.at)

  -- as many events as the machine reserves
  pub events_named : (if wants_event can.ready.request.flags then length (named r.script.topology (world r) can.ready.request) else 0)
      ≡ events_asked_for resolved.flags checked.named
  events_named =
      rw (can.ready.flags_are, can.ready.checked_as.named)
      (ap (λ n. if wants_event can.ready.request.flags then n else 0)
      (sym (count_named r.script.topology (names (world r).values (after (world r) can.ready.request) can.ready.request.assigns)
      (few_objects r.script.topology stands.formed.device).crtcs)))

  within : (wants : Bool) (used events : ℕ) → (wants && nat_lt 4096 (used + 32 * events)) ≡ false → used ≤ 4096 → used + 32
      * (if wants then events else 0) ≤ 4096
  within false used events off few = omega (arith, few)
  within true used events off few =
      elim (cases_lt 4096 (used + 32 * events)) [
        | inl more ↦ absurd (false≢true (sym off ∙ lt-ltb 4096 (used + 32 * events) more))
        | inr fits ↦ fits
      ]

  pub has_space : HasSpace (queue_of st.queues client) (events_asked_for resolved.flags checked.named)
  unfolding lacks_space
  has_space =
      let fit = (numbers_fit r.script r.steps stands.formed stands.history).events client in
      let fits = within (wants_event can.ready.request.flags) (space_used (machine r).events client)
      (length (named r.script.topology (world r) can.ready.request)) swap.space (omega (arith, fit)) in
      rw (own.is.reserved, own.is.unread, ← events_named) fits

  -- where the queue has other room
  pub again : (new q d : Queue) → q ≡ slice_index_or (slice_set st.queues (client - 1) new) (client - 1) d → q ≡ new
  again new q d is = is ∙ get_or-set_same st.queues (client - 1) new d own.within

  pub space_again : (q : Queue) {events : ℕ} → events ≡ events_asked_for resolved.flags checked.named → q.reserved
      ≡ (queue_of st.queues client).reserved → q.unread ≡ (queue_of st.queues client).unread → HasSpace q events
  space_again q is reserved unread = rw (is, reserved, unread) has_space

  pub labels_are : take r.script.topology.crtcs (labels_in resolved.out_fences)
      ≡ map (out_fence_label can.ready.request.assigns) (ids_of r.script.topology Crtc)
  labels_are = rw can.asks.out_fences (labels_of_crtcs r.script.topology can.ready.request.assigns
      (few_objects r.script.topology stands.formed.device).crtcs)

  -- Want of memory

  pub roomy : (journal : Logged (ℕ × ℕ)) (replies : Logged Answered) (shown : Logged Latch) (made : Made) (fences : FenceSet) {roomy_fences
      : FenceSet}
      {was : Queue} (d : Queue) {queue : Queue} {tracker : Tracking} {steps : List Step}
      → steps ≡ r.steps → journal.items ≡ st.journal.items → replies.items ≡ st.replies.items → shown.items ≡ st.latches.items → made
      ≡ st.made → fences.slots ≡ roomy_fences.slots
      → was ≡ slice_index_or st.queues (client - 1) d → KeepsStored st.fences roomy_fences was queue st.tracker tracker
      → Stands (record { script = r.script; steps = steps })
      (record st {
        journal = journal;
        replies = replies;
        latches = shown;
        made = made;
        fences = fences;
        queues = slice_set st.queues
            (client - 1) queue;
        tracker = tracker;
      })
  roomy journal replies shown made fences {was} d {queue} {tracker} is same_journal same_replies same_shown same_made same_set at kept =
      let mine = found_queue d at in
      let same_tracker = kept.tracking in
      let base =
      stands_with_room journal replies made fences (with_latches shown stands same_shown) is
      same_journal same_replies same_made (same_set ∙ kept.fences) st.freed refl refl in
      record {
        formed = base.formed;
        history = base.history;
        freed = base.freed;
        stored = base.stored;
        stores = record {
          clients = base.stores.clients;
          recorded = base.stores.recorded;
          world = base.stores.world;
          fences = base.stores.fences;
          fenced = base.stores.fenced;
          out_fenced = base.stores.out_fenced;
          queues = rw is (queues_same client queue own.low high
              (kept.reserved ∙ ap (λ (q : Queue). q.reserved) mine) (kept.unread ∙ ap (λ (q : Queue). q.unread) mine) stands.stores.queues);
          tracker =
              rw is (room_stands r.script.topology (machine r).device.commits (machine r).device.marks
              (machine r).records.latches st.tracker tracker
              same_tracker.count same_tracker.lasts same_tracker.tails stands.stores.tracker);
          registers = base.stores.registers;
          going = base.stores.going;
          ended = base.stores.ended;
        };
      }

  -- What a commit leaves

  -- as many events as the machine reserves are reserved
  reserved_more : (q : Queue) (wants : Bool) (events : ℕ)
      → (if wants then record { reserved = q.reserved + events; unread = q.unread; room = 0 } else q).reserved ≡ q.reserved
      + (if wants then events else 0)
  reserved_more q true events = refl
  reserved_more q false events = omega arith

  unread_kept : (q : Queue) (wants : Bool) (events : ℕ)
      → (if wants then record { reserved = q.reserved + events; unread = q.unread; room = 0 } else q).unread ≡ q.unread
  unread_kept q true events = refl
  unread_kept q false events = refl

  queues_committed : (queues : List Queue) (new : Queue) → AreQueues (length r.script.clients) (machine r).events queues
      → new.reserved ≡ (queue_of queues client).reserved + events_asked_for resolved.flags checked.named → new.unread
      ≡ (queue_of queues client).unread
      → AreQueues (length r.script.clients) (next r.script (machine r) (step.Swap client)).events (slice_set queues (client - 1) new)
  queues_committed queues new stand reserved unread = record {
    size = length-set queues (client - 1) new ∙ stand.size;
    queue = λ other from to.
        elim (eqb_tells client other) [
          | inl same ↦ (let size = stand.size in
              subst (λ n. IsQueueOf (queue_of (slice_set queues (client - 1) new) n) (next r.script (machine r) (step.Swap client)).events
              n) same.1
              (subst (λ x. IsQueueOf x (next r.script (machine r) (step.Swap client)).events client)
              (sym (get_or-set_same queues (client - 1) new empty_queue (omega (arith, size, own.low, high))))
              (queue_same new
              (reserved ∙ ap (λ n. (queue_of queues client).reserved + n) (sym events_named) ∙ sym
              (reserved_more (queue_of queues client) (wants_event can.ready.request.flags)
              (length (named r.script.topology (world r) can.ready.request))))
              (unread ∙ sym (unread_kept (queue_of queues client) (wants_event can.ready.request.flags)
              (length (named r.script.topology (world r) can.ready.request))))
              (queues_follow_swap r.script (machine r) client can.ready.request (queue_of queues client) 0 can.ready.at
              (stand.queue client own.low high)))))
          | inr different ↦
              subst (λ x. IsQueueOf x (next r.script (machine r) (step.Swap client)).events other)
              (sym (get_or-set_other queues (client - 1) (other - 1) new empty_queue (λ e. different.1 (omega (arith, e, own.low, from)))))
              (queues_follow_others_swap r.script (machine r) client other (queue_of queues other) different.0 (stand.queue other from to))
        ];
  }

-- what the call leaves of the stores
pub record HasCommitted (r : Run) (st : Stores) (client : ℕ) (checked : Checked) (resolved : Resolved) (commit : ℕ) (clients : Standing)
    (journal : Logged (ℕ × ℕ)) (replies : Logged Answered) (made : Made) (present : Duplicates) (fences : FenceSet)
    (queues : List Queue) (queue : Queue) (tracker : Tracking) : Type 0 where
  pub number : commit ≡ st.tracker.count
  pub goes : is_nonblock resolved.flags ≡ true → AreClientsOf (after_decision (machine r) client) clients
  pub waits : is_nonblock resolved.flags ≡ false → AreClientsOf (after_swap (machine r) client commit) clients
  pub replies_more : replies.items ≡ st.replies.items
      ++ answered client (place_of st.clients client).command (length st.journal.items) (reply.Commit commit) ∷ []
  pub journal_more : journal.items ≡ st.journal.items ++ (client, (place_of st.clients client).command) ∷ []
  pub made_as : (w : World) (assigns : List Assign) (crtcs : List ℕ) → take r.script.topology.crtcs (labels_in resolved.out_fences)
      ≡ map (out_fence_label assigns) crtcs → make_out_fences client assigns (with_made w st.made) crtcs ≡ with_made w made
  pub counted : made.fbs ≡ st.made.fbs
  pub present_swapped : IsSwappedIn st.present checked.states present
  pub fences_more : fences.slots ≡ st.fences.slots
      ++ fences_for st.made.next_id (take r.script.topology.crtcs (labels_in resolved.out_fences))
  pub queues_stand : AreQueues (length r.script.clients) (machine r).events queues
  pub reserved : queue.reserved ≡ (queue_of queues client).reserved + events_asked_for resolved.flags checked.named
  pub unread : queue.unread ≡ (queue_of queues client).unread
  pub set_up :
      (q : Request) → request_in (command_of r.script (record { client = client; command = (place_of st.clients client).command })) ≡ Some q
      → IsSetUp st.tracker tracker (signals_for client q (fences_under made.things (labels_in resolved.out_fences))) checked
      (map (λ f. f.1) resolved.in_fences)

module _ {r : Run} {st : Stores} {client : ℕ} {checked : Checked} {resolved : Resolved} (stands : Stands r st)
    (can : MayCommit r client checked resolved)
    (commit : ℕ) (clients : Standing) (journal : Logged (ℕ × ℕ)) (replies : Logged Answered) (made : Made) (present : Duplicates)
    (fences : FenceSet) (queues : List Queue) (queue : Queue) (tracker : Tracking)
    (has : HasCommitted r st client checked resolved commit clients journal replies made present fences queues queue tracker) where
  left : SwapLeaves r.script (machine r) client can.ready.request (next r.script (machine r) (step.Swap client))
  left = swap_leaves r.script (machine r) client can.ready.request can.ready.at

  holds : Holds r.script (machine r)
  holds = history_kept r.script r.steps (plain-from r.script stands.formed) stands.history

  at : IsRequestAt r.script.topology (world r) can.ready.request
  at = record { device = stands.formed.device; sound = holds.present.lawful.sound; early = can.asks.accepted }

  pub is_number : commit ≡ length (machine r).device.commits
  is_number = has.number ∙ stands.stores.tracker.count

  same_command : (place_of st.clients client).command ≡ (place_at (machine r) client).command
  same_command = ap (λ (p : Place). p.command) (stands.stores.clients.places client can.ready.number)

  abbrev old : World
  old = record (world r) { values = after (world r) can.ready.request; commits = (world r).commits + 1 }

  asked : take r.script.topology.crtcs (labels_in resolved.out_fences)
      ≡ map (out_fence_label can.ready.request.assigns) (ids_of r.script.topology Crtc)
  asked = labels_are stands can

  world_is : (committed r.script.topology (world r) client can.ready.request).world ≡ with_made old made
  world_is =
      ap (λ (x : World). make_out_fences client can.ready.request.assigns x (ids_of r.script.topology Crtc))
      (λ i. record old { things = stands.stores.world.things i; next_id = stands.stores.world.next_id i })
      ∙ has.made_as old can.ready.request.assigns (ids_of r.script.topology Crtc) asked

  clients_stand : AreClientsOf (next r.script (machine r) (step.Swap client)).contexts clients
  clients_stand =
      clients_swapped r.script (machine r) client can.ready.request clients can.ready.at
      (λ e. has.goes (ap is_nonblock can.ready.flags_are ∙ e))
      (λ e. subst (λ k. AreClientsOf (after_swap (machine r) client k) clients) is_number
      (has.waits (ap is_nonblock can.ready.flags_are ∙ e)))

  recorded : AreRecords (next r.script (machine r) (step.Swap client)).records journal.items replies.items st.latches.items
  recorded =
      let m : Machine = machine r in
      let records : Records = record m.records {
        replies = answered client (place_at m client).command (length m.records.journal)
            (reply.Commit commit) ∷ m.records.replies;
      } in
      let one : AreRecords records st.journal.items replies.items st.latches.items =
      records_answered m st client (reply.Commit commit) st.journal.items refl
      has.replies_more same_command stands.stores.recorded in
      let two = joined_more true client (place_at m client).command one in
      record {
        accepted = has.journal_more ∙ ap (λ n. st.journal.items ++ (client, n) ∷ []) same_command ∙ two.accepted ∙ ap
            (λ xs. map entry_pair (reverse xs)) (sym left.journal);
        answered =
            two.answered ∙ ap (λ k. reverse (answered client (place_at m client).command (length m.records.journal) (reply.Commit k)
            ∷ m.records.replies)) is_number
            ∙ ap reverse (sym left.replies);
        latched = two.latched ∙ ap reverse (sym left.latches);
      }

  world_stands : IsWorldOf r.script.topology (next r.script (machine r) (step.Swap client)).device.world made present
  world_stands = record {
    things = ap (λ (x : World). x.things) (left.world ∙ world_is);
    next_id = ap (λ (x : World). x.next_id) (left.world ∙ world_is);
    states = rw left.world (committed_present r.script.topology (world r) can.ready.request at checked can.ready.checked_as can.states
        client holds.present.lawful.numbered can.ready.none holds.present.kept
        stands.stores.world.states has.present_swapped);
  }

  fences_stand : FencesStand (committed r.script.topology (world r) client can.ready.request).world (machine r).device.signalled fences
  fences_stand =
      let fenced = stands.stores.fenced in
      out_fences_made client can.ready.request.assigns old (ids_of r.script.topology Crtc) (machine r).device.signalled st.fences fences
      (has.fences_more ∙ ap (λ xs. st.fences.slots ++ fences_for st.made.next_id xs) asked
      ∙ ap (λ n. st.fences.slots ++ fences_for n (map (out_fence_label can.ready.request.assigns) (ids_of r.script.topology Crtc)))
      (sym stands.stores.world.next_id))
      (record {
        fenced = record { made = fenced.made; made_before = fenced.made_before; below = fenced.below };
        stand = stands.stores.fences;
      })

  -- the commit

  abbrev swapped : Commit
  swapped = new_commit (machine r) client can.ready.request

  at_command : request_in (command_of r.script (record { client = client; command = (place_of st.clients client).command }))
      ≡ Some can.ready.request
  at_command = ap (λ n. request_in (command_of r.script (record { client = client; command = n }))) same_command ∙ can.ready.at

  id_made : (o : Option ℕ) → id_made_under made.things o ≡ thing_made r.script.topology swapped o
  id_made None = refl
  id_made (Some label) = ap (λ (x : World). id_of_thing (thing_labelled x.things label)) (sym world_is)

  label_is : (i : ℕ) → i < 4 → label_in resolved.out_fences (object_id Crtc i)
      ≡ out_fence_label can.ready.request.assigns (object_id Crtc i)
  label_is i low = ap (λ asks. label_in asks (object_id Crtc i)) can.asks.out_fences ∙ label_at_crtc i at low

  id_at : (i : ℕ) → i < 4 → id_made_under made.things (label_in resolved.out_fences (object_id Crtc i))
      ≡ out_fence_at r.script.topology swapped i
  id_at i low = id_made (label_in resolved.out_fences (object_id Crtc i)) ∙ ap (thing_made r.script.topology swapped) (label_is i low)

  fence_at : (i : ℕ) → i < 4 → slice_index_or (fences_under made.things (labels_in resolved.out_fences)) i None
      ≡ out_fence_at r.script.topology swapped i
  fence_at zero low = id_at 0 low
  fence_at (suc zero) low = id_at 1 low
  fence_at (suc (suc zero)) low = id_at 2 low
  fence_at (suc (suc (suc zero))) low = id_at 3 low
  fence_at (suc (suc (suc (suc n)))) low = absurd (omega (arith, low))

  signed : AreSignalsOf r.script.topology swapped
      (signals_for client can.ready.request (fences_under made.things (labels_in resolved.out_fences)))
  signed = record { client = refl; user_data = refl; event = refl; out_fences = fence_at }

  tracked : IsInStep r.script.topology (next r.script (machine r) (step.Swap client)) tracker
  tracked =
      swap_follows r.script (machine r) client can.ready.request st.tracker tracker
      (signals_for client can.ready.request (fences_under made.things (labels_in resolved.out_fences))) checked
      (map (λ f. f.1) resolved.in_fences) can.ready.at stands.stores.tracker signed
      (checked_for r.script.topology swapped checked stands.formed.device holds.present.lawful can.ready.none
      can.ready.checked_as can.states)
      (ap (map (λ f. f.1)) (sym can.asks.in_fences)) (has.set_up can.ready.request at_command)

  -- the out-fences of commits

  fence_old : (k index : ℕ) → k < length (machine r).device.commits
      → out_fence_of r.script.topology (swapped ∷ (machine r).device.commits) k (object_id Crtc index)
      ≡ out_fence_of r.script.topology (machine r).device.commits k (object_id Crtc index)
  unfolding out_fence_of
  fence_old k index low =
      ap (λ (z : Commit). thing_made r.script.topology z (out_fence_label z.request.assigns (object_id Crtc index)))
      (commit_old r.script.topology swapped (machine r).device.commits k low)

  fence_new : (index : ℕ) → out_fence_of r.script.topology (swapped ∷ (machine r).device.commits) (length (machine r).device.commits)
      (object_id Crtc index) ≡ thing_made r.script.topology swapped (out_fence_label can.ready.request.assigns (object_id Crtc index))
  unfolding out_fence_of
  fence_new index =
      ap (λ (z : Commit). thing_made r.script.topology z (out_fence_label z.request.assigns (object_id Crtc index)))
      (commit_new r.script.topology swapped (machine r).device.commits)

  -- the request at which the client stands is not in the journal
  not_ended : (e : Entry) → IsIn e (machine r).records.journal → e
      ≡ record { client = client; command = (place_at (machine r) client).command } → ⊥
  not_ended e is same =
      let ended = history_ended r.script r.steps stands.history e is in
      let own : (place_at (machine r) client).command < (place_at (machine r) client).command + answered_by (doing_at (machine r) client) =
      subst (λ (f : Entry). f.command < ended_at (place_at (machine r) f.client)) same ended in
      let none = (taking-busy (doing_at (machine r) client) can.ready.taking).1 in
      omega (arith, own, none)

  -- a command makes something under a label, or not
  unmade_if : (b : Bool) → (b ≡ true → ⊥) → b ≡ false
  unmade_if true never = absurd (never refl)
  unmade_if false never = refl

  -- no entry of the journal makes a thing under the label of an out-fence that is asked for
  unmade_before : (crtc label : ℕ) → out_fence_label can.ready.request.assigns crtc ≡ Some label → (e : Entry) (c : Command)
      → IsIn e (reverse (machine r).records.journal) → command_of r.script e ≡ Some c → makes c label ≡ false
  unmade_before crtc label asks e c is found =
      unmade_if (makes c label) (λ made_there.
      not_ended e (in_reverse (machine r).records.journal e is)
      (made_once r.script e (record { client = client; command = (place_at (machine r) client).command }) c
      (command.Atomic can.ready.request) label stands.formed found
      (request-is (command_of r.script (record { client = client; command = (place_at (machine r) client).command })) can.ready.request
      can.ready.at) made_there (asks_made can.ready.request.assigns crtc label asks)))

  -- nothing was made under a label before its out-fence is
  unmade : (crtc label : ℕ) → out_fence_label can.ready.request.assigns crtc ≡ Some label → thing_labelled (world r).things label ≡ None
  unmade crtc label asks =
      ap (λ (w : World). thing_labelled w.things label) (sym holds.present.is_serial)
      ∙ serial_absent label r.script (start r.script.topology) (reverse (machine r).records.journal) (unmade_before crtc label asks) refl

  made_new : (crtc id : ℕ) (o : Option ℕ) → out_fence_label can.ready.request.assigns crtc ≡ o → thing_made r.script.topology swapped o
      ≡ Some id → is_made fences id ≡ true
  made_new crtc id None asks is = absurd cc
  made_new crtc id (Some label) asks is = go (thing_labelled (committed r.script.topology (world r) client can.ready.request).world.things
      label) refl is where
        go : (o : Option Thing) → thing_labelled (committed r.script.topology (world r) client can.ready.request).world.things label ≡ o
            → id_of_thing o ≡ Some id → is_made fences id ≡ true
        go None found is = absurd cc
        go (Some u) found is =
            let same : u.id ≡ id = cc in
            subst (λ n. is_made fences n ≡ true) same
            (thing_under fences (committed r.script.topology (world r) client can.ready.request).world.things label u
            fences_stand.fenced.made
            found
            (⊎_elim (λ earlier. (let none : None ≡ Some u = sym (unmade crtc label asks) ∙ earlier in absurd cc)) (λ out. ap is_fence out)
            (found_or_made client can.ready.request.assigns old (ids_of r.script.topology Crtc) label found)))

  out_fences_made_now : AreOutFencesMade r.script.topology (swapped ∷ (machine r).device.commits) fences
  out_fences_made_now k index id low few is =
      elim (cases_lt k (length (machine r).device.commits)) [
        | inl before ↦
            fences_more st.fences fences st.made.next_id (take r.script.topology.crtcs (labels_in resolved.out_fences)) has.fences_more id
            (stands.stores.out_fenced k index id before few (sym (fence_old k index before) ∙ is))
        | inr above ↦ (let last : k ≡ length (machine r).device.commits = omega (arith, low, above) in
            made_new (object_id Crtc index) id (out_fence_label can.ready.request.assigns (object_id Crtc index)) refl
            (sym (fence_new index) ∙ ap (λ n. out_fence_of r.script.topology (swapped ∷ (machine r).device.commits) n
            (object_id Crtc index)) (sym last) ∙ is))
      ]

  out_fences_stand : AreOutFencesMade r.script.topology (next r.script (machine r) (step.Swap client)).device.commits fences
  out_fences_stand = rw left.commits out_fences_made_now

  committed_stands : StandsAt r.script (next r.script (machine r) (step.Swap client))
      (record st {
        clients = clients;
        journal = journal;
        replies = replies;
        made = made;
        present = present;
        fences = fences;
        queues = slice_set queues (client - 1) queue;
        tracker = tracker;
      })
  committed_stands = record {
    clients = clients_stand;
    recorded = recorded;
    world = world_stands;
    fences = rw left.signalled fences_stand.stand;
    fenced = rw (left.world, left.signalled) fences_stand.fenced;
    queues = queues_committed stands can queues queue has.queues_stand has.reserved has.unread;
    out_fenced = out_fences_stand;
    tracker = tracked;
    registers = others_follow r.script (machine r) (step.Swap client) st.registers refl stands.stores.registers;
    going = record {
      size = stands.stores.going.size;
      go = λ index low. ap
          (λ (go : List (ℕ × Option ℕ)). read None go (object_id Crtc index)) left.go ∙ stands.stores.going.go index low;
    };
    ended = left.stalled ∙ stands.stores.ended;
  }

  pub commits : {w : Run} → w ≡ gains r (step.Swap client ∷ [])
      → Stands w (record st {
        clients = clients;
        journal = journal;
        replies = replies;
        made = made;
        present = present;
        fences = fences;
        queues = slice_set queues (client - 1) queue;
        tracker = tracker;
      })
  commits more =
      goes_on (step.Swap client) refl refl has.counted stands more can.legal committed_stands
