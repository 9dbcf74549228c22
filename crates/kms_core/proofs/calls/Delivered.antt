-- A client that reads its oldest event, or is told that none will come.
use Rattle.std.proofs.Common.{◌≡◌, ℕ, zero, suc, ◌≤◌, ◌<◌, ◌-◌, true, false, List, [], ◌∷◌, ◌++◌, length, get_or, Some, None, inl, inr}
use Rattle.std.proofs.Common.{refl, sym, ap, ◌∙◌, subst, arith}
use Rattle.std.specs.Prelude.{◌||◌, ◌==◌, not, nat_lt, slice_set}
use Rattle.std.proofs.lemmas.Bool.{and_from, lt-ltb}
use Rattle.std.proofs.lemmas.Bool.Decides.{eqb_tells}
use Rattle.std.proofs.lemmas.List.{get_or_default, get_or-set_same, get_or-set_other, length-set}
use Rattle.kms_model.specs.declared.replies.Answered.{Answered}
use Rattle.kms_model.specs.declared.replies.Event.{Event}
use Rattle.kms_model.specs.declared.replies.Reply.{Reply}
use Rattle.kms_model.specs.declared.replies.Reply.TheVariants as reply
use Rattle.kms_model.specs.declared.replies.Step.TheVariants as step
use Rattle.kms_model.specs.declared.scripts.Script.{Script}
use Rattle.kms_model.specs.Machine.Effects.{next, reads, goes_on as client_goes_on}
use Rattle.kms_model.specs.Machine.Histories.{legal}
use Rattle.kms_model.specs.Machine.State.{Machine, place_at, reserved_at, unread_at}
use Rattle.kms_model.specs.Machine.Steps.{may, is_wait}
use Rattle.kms_wwlock.specs.InStep.{AreClientsOf}
use Rattle.kms_wwlock.specs.Standing.{Standing, place_of}
use Rattle.kms_signal.proofs.StepLemmas.{queues_follow_others_read, queues_follow_read}
use Rattle.kms_signal.specs.InStep.{IsQueueOf}
use Rattle.kms_signal.specs.Queues.{Queue, after_read, empty_queue}
use Rattle.kms_core.specs.Calls.{MayRead, answered, read_reply_at, read_reply, unless_ended}
use Rattle.kms_core.specs.Logs.{Logged}
use Rattle.kms_core.specs.Run.{Run, gains, machine}
use Rattle.kms_core.specs.Stands.{Stores, Stands, StandsAt, AreQueues, AreRecords, queue_of}
use Rattle.kms_core.proofs.stores.Beside.{stands_moved}
use Rattle.kms_core.proofs.stores.Histories.{goes_on}
use Rattle.kms_core.proofs.Places.{IsIdleAt, idle_there}
use Rattle.kms_core.proofs.stores.Recorded.{records_answered}

pub idle_reader : {r : Run} {st : Stores} (client : ℕ) → Stands r st → MayRead r client → IsIdleAt r st client is_wait
idle_reader {r} {st} client stands now = idle_there client is_wait stands now

pub has_queue : {r : Run} {st : Stores} (client : ℕ) → Stands r st → MayRead r client → client - 1 < length st.queues
has_queue {r} {st} client stands now =
    let there = idle_reader client stands now in
    let low = there.low in
    let high = there.high in
    let size = stands.stores.queues.size in
    omega (arith, low, high, size)

-- what the client's queue tells is what the machine does while the history goes on
pub reply_told : {r : Run} {st : Stores} (client : ℕ) → Stands r st → MayRead r client → st.stalled ≡ false
    → read_reply (queue_of st.queues client).unread (queue_of st.queues client).reserved ≡ read_reply_at r client
reply_told {r} {st} client stands now going =
    let there = idle_reader client stands now in
    let queue = stands.stores.queues.queue client there.low there.high in
    ap (λ events. read_reply events (queue_of st.queues client).reserved) queue.unread
    ∙ ap (λ n. read_reply (unread_at (machine r).events client) n) queue.reserved
    ∙ ap (λ b. unless_ended b (read_reply (unread_at (machine r).events client) (reserved_at (machine r).events client)))
    (sym (stands.stores.ended ∙ going))

-- nothing is answered after its end
pub none_told : {r : Run} {st : Stores} (client : ℕ) → Stands r st → st.stalled ≡ true → None ≡ read_reply_at r client
none_told {r} client stands ended =
    ap (λ b. unless_ended b (read_reply (unread_at (machine r).events client) (reserved_at (machine r).events client)))
    (sym (stands.stores.ended ∙ ended))

-- the queue that is found at the client's place
pub found_queue : {r : Run} {st : Stores} (client : ℕ) {q : Queue} (d : Queue) → Stands r st → MayRead r client → q
    ≡ get_or st.queues (client - 1) d → q ≡ queue_of st.queues client
found_queue {r} {st} client d stands now is = is ∙ get_or_default st.queues (client - 1) d empty_queue
    (has_queue client stands now)

pub told_reply : {r : Run} {st : Stores} (client : ℕ) (q d : Queue) → Stands r st → MayRead r client → q
    ≡ get_or st.queues (client - 1) d → st.stalled ≡ false → read_reply q.unread q.reserved ≡ read_reply_at r client
told_reply {r} {st} client q d stands now is going = ap (λ (x : Queue). read_reply x.unread x.reserved)
    (found_queue client d stands now is) ∙ reply_told client stands now going

-- a wait that is answered may be read
may_read : (unread : List Event) (reserved : ℕ) {answer : Reply} → read_reply unread reserved ≡ Some answer
    → (nat_lt 0 (length unread) || (reserved == 0)) ≡ true
may_read [] zero is = refl
may_read [] (suc n) is = absurd cc
may_read (event ∷ events) reserved is = rw (lt-ltb 0 (length (event ∷ events)) (omega arith)) refl

-- the client's queue has an event less, and the others are as they were
queues_read : (s : Script) (m : Machine) (client : ℕ) (queues : List Queue) → 1 ≤ client → client ≤ length s.clients
    → AreQueues (length s.clients) m.events queues
    → AreQueues (length s.clients) (next s m (step.Read client)).events
    (slice_set queues (client - 1) (after_read (queue_of queues client)))
queues_read s m client queues low high stand = record {
  size = length-set queues (client - 1) (after_read (queue_of queues client)) ∙ stand.size;
  queue = λ other from to.
      elim (eqb_tells client other) [
        | inl same ↦ (let size = stand.size in
            subst (λ n. IsQueueOf (queue_of (slice_set queues (client - 1) (after_read (queue_of queues client))) n)
            (next s m (step.Read client)).events n) same.1
            (subst (λ q. IsQueueOf q (next s m (step.Read client)).events client)
            (sym (get_or-set_same queues (client - 1) (after_read (queue_of queues client)) empty_queue
            (omega (arith, size, low, high))))
            (queues_follow_read s m client (queue_of queues client) (stand.queue client low high))))
        | inr different ↦
            subst (λ q. IsQueueOf q (next s m (step.Read client)).events other)
            (sym (get_or-set_other queues (client - 1) (other - 1) (after_read (queue_of queues client)) empty_queue
            (λ e. different.1 (omega (arith, e, low, from)))))
            (queues_follow_others_read s m client other (queue_of queues other) different.0 (stand.queue other from to))
      ];
}

-- all stores stand after a read
read_stands : {s : Script} {m : Machine} (client : ℕ) (unread : List Event) {answer : Reply} {st : Stores} {clients : Standing}
    (journal : Logged (ℕ × ℕ)) (replies : Logged Answered) {queues : List Queue} → read_reply unread (reserved_at m.events client)
    ≡ Some answer
    → AreClientsOf (client_goes_on m client).contexts clients
    → AreRecords (record m.records {
      replies = answered client (place_at m client).command (length m.records.journal) answer
          ∷ m.records.replies;
    }) journal.items replies.items st.latches.items
    → AreQueues (length s.clients) (reads m client unread).events queues → StandsAt s m st
    → StandsAt s (reads m client unread) (record st { clients = clients; journal = journal; replies = replies; queues = queues })
read_stands {m} client [] {answer} {st} journal replies is clients_stand recorded queues_stand stands =
    stands_moved client (record m.records {
      replies = answered client (place_at m client).command (length m.records.journal)
          reply.NoEvent ∷ m.records.replies;
    }) journal replies st.made
    refl
    clients_stand (subst (λ a. AreRecords (record m.records
    { replies = answered client (place_at m client).command (length m.records.journal) a ∷ m.records.replies }) journal.items
    replies.items st.latches.items) (no_event (reserved_at m.events client) is) recorded)
    stands.world stands.fences stands.fenced (λ id made. made) queues_stand stands
  where
    no_event : (reserved : ℕ) → read_reply [] reserved ≡ Some answer → answer ≡ reply.NoEvent
    no_event zero e = cc
    no_event (suc n) e = absurd cc
read_stands {m} client (event ∷ events) {answer} {st} journal replies is clients_stand recorded queues_stand stands =
    let same : answer ≡ reply.Event event = cc in
    stands_moved client (record m.records {
      replies = answered client (place_at m client).command (length m.records.journal)
          (reply.Event event) ∷ m.records.replies;
    })
    journal replies st.made refl
    clients_stand (subst (λ a. AreRecords (record m.records
    { replies = answered client (place_at m client).command (length m.records.journal) a ∷ m.records.replies }) journal.items
    replies.items st.latches.items) same recorded)
    stands.world stands.fences stands.fenced (λ id made. made) queues_stand stands

-- what the call leaves of the stores
pub record HasRead (r : Run) (st : Stores) (client : ℕ) (answer : Reply) (clients : Standing) (journal : Logged (ℕ × ℕ))
    (replies : Logged Answered) (queues : List Queue) : Type 0 where
  pub told : read_reply (queue_of st.queues client).unread (queue_of st.queues client).reserved ≡ Some answer
  pub clients_stand : AreClientsOf (client_goes_on (machine r) client).contexts clients
  pub journal_kept : journal.items ≡ st.journal.items
  pub replies_more : replies.items ≡ st.replies.items ++ answered client (place_of st.clients client).command (length journal.items) answer
      ∷ []
  pub queues_after : queues ≡ slice_set st.queues (client - 1) (after_read (queue_of st.queues client))

pub reads_event : {r w : Run} {st : Stores} (client : ℕ) (answer : Reply) (clients : Standing) (journal : Logged (ℕ × ℕ))
    (replies : Logged Answered) (queues : List Queue) → Stands r st → MayRead r client → st.stalled ≡ false
    → HasRead r st client answer clients journal replies queues → w ≡ gains r (step.Read client ∷ [])
    → Stands w (record st { clients = clients; journal = journal; replies = replies; queues = queues })
unfolding next legal may
reads_event {r} {st = st} client answer clients journal replies queues stands asked going has more =
    let m = machine r in
    let there = idle_reader client stands asked in
    let queue = stands.stores.queues.queue client there.low there.high in
    let told : read_reply (unread_at m.events client) (reserved_at m.events client) ≡ Some answer =
    sym (ap (λ events. read_reply events (queue_of st.queues client).reserved) queue.unread ∙ ap
    (λ n. read_reply (unread_at m.events client) n) queue.reserved) ∙ has.told in
    goes_on (step.Read client) refl refl refl stands more
    (and_from (not m.stalled) _ (ap not (stands.stores.ended ∙ going))
    (and_from _ _ asked (may_read (unread_at m.events client) (reserved_at m.events client) told)))
    (read_stands client (unread_at m.events client) journal replies told has.clients_stand
    (records_answered m st client answer journal.items has.journal_kept has.replies_more
    there.number stands.stores.recorded)
    (subst (λ qs. AreQueues (length r.script.clients) (next r.script m (step.Read client)).events qs) (sym has.queues_after)
    (queues_read r.script m client st.queues there.low there.high stands.stores.queues)) stands.stores)
