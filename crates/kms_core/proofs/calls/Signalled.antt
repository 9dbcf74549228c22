-- A client that signals a fence.
use Rattle.std.proofs.Common.{◌≡◌, ℕ, true, [], ◌∷◌, ◌++◌, length, Option, Some, None, refl, sym, ap, ◌∙◌, subst}
use Rattle.std.proofs.lemmas.Bool.{false≢true}
use Rattle.kms_model.specs.declared.objects.Topology.{Topology}
use Rattle.kms_model.specs.declared.replies.Answered.{Answered}
use Rattle.kms_model.specs.declared.replies.Reply.{Reply}
use Rattle.kms_model.specs.declared.replies.Reply.TheVariants as reply
use Rattle.kms_model.specs.declared.replies.Step.TheVariants as step
use Rattle.kms_model.specs.declared.scripts.Command.{Command}
use Rattle.kms_model.specs.declared.scripts.Command.TheVariants as command
use Rattle.kms_model.specs.declared.scripts.Script.{Script}
use Rattle.kms_model.specs.declared.worlds.World.{World}
use Rattle.kms_model.specs.Device.Execution.{execute}
use Rattle.kms_model.specs.Machine.Effects.{answers, fence_signalled, next, signals, goes_on as client_goes_on}
use Rattle.kms_model.specs.Machine.Histories.{legal}
use Rattle.kms_model.specs.Machine.State.{Machine, command_at, place_at}
use Rattle.kms_model.specs.Machine.Steps.{is_signal, may}
use Rattle.kms_wwlock.specs.InStep.{AreClientsOf}
use Rattle.kms_wwlock.specs.Standing.{Standing, place_of}
use Rattle.kms_signal.proofs.InStepLemmas as fences
use Rattle.kms_signal.specs.FenceSets.{FenceSet, is_made}
use Rattle.kms_signal.specs.StepLaws.{with_signal}
use Rattle.kms_things.specs.Made.{with_made}
use Rattle.kms_core.specs.Calls.{MaySignal, answered, fence_of, reply_at, reply_to_command}
use Rattle.kms_core.specs.Logs.{Logged}
use Rattle.kms_core.specs.Run.{Run, gains, machine}
use Rattle.kms_core.specs.Stands.{AreRecords, Stores, Stands, StandsAt}
use Rattle.kms_signal.proofs.FenceLemmas.{still_made}
use Rattle.kms_core.proofs.stores.Beside.{stands_moved}
use Rattle.kms_core.proofs.calls.Executed.{IsFound, world_of}
use Rattle.kms_core.proofs.stores.Fencing.{signalled_fenced, signals_made}
use Rattle.kms_core.proofs.stores.Histories.{goes_on}
use Rattle.kms_core.proofs.Places.{IsIdleAt, idle_there, not_ended}
use Rattle.kms_core.proofs.stores.Recorded.{records_answered}

pub idle_signaller : {r : Run} {st : Stores} (client : ℕ) → Stands r st → MaySignal r client → IsIdleAt r st client is_signal
unfolding legal may
idle_signaller {r} {st} client stands now = idle_there client is_signal stands
    (not_ended (machine r).stalled _ now)

-- what the call leaves of the stores
pub record HasSignalled (r : Run) (st : Stores) (client : ℕ) (c : Command) (reply : Reply) (clients : Standing) (journal : Logged (ℕ × ℕ))
    (replies : Logged Answered) (set : FenceSet) : Type 0 where
  pub found : IsFound r st client is_signal c
  pub replied : (t : Topology) (w : World) → (execute t (with_made w st.made) client c).reply ≡ reply
  pub fences_now : set ≡ with_signal st.fences (fence_of st.made.things c reply)
  pub clients_stand : AreClientsOf (client_goes_on (machine r) client).contexts clients
  pub journal_kept : journal.items ≡ st.journal.items
  pub replies_more : replies.items ≡ st.replies.items ++ answered client (place_of st.clients client).command (length journal.items) reply
      ∷ []

reply_is : {r : Run} {st : Stores} (client : ℕ) (c : Command) (reply : Reply) → Stands r st
    → ((t : Topology) (w : World) → (execute t (with_made w st.made) client c).reply ≡ reply)
    → (execute r.script.topology (machine r).device.world client c).reply ≡ reply
reply_is {r} {st} client c reply stands replied =
    ap (λ v. (execute r.script.topology v client c).reply)
    (sym (world_of stands.stores.world)) ∙ replied r.script.topology
    (machine r).device.world

pub tells_signal : {r : Run} {st : Stores} (client : ℕ) (c : Command) (reply : Reply) → Stands r st
    → command_at r.script (machine r) client ≡ Some c
    → ((t : Topology) (w : World) → (execute t (with_made w st.made) client c).reply ≡ reply) → reply ≡ reply_at r client
tells_signal {r} {st} client c reply stands at replied =
    sym (reply_is client c reply stands replied)
    ∙ ap (λ o. reply_to_command r.script.topology (machine r).device.world client o) (sym at)

-- the fence that the machine signals
signals_fence : (m : Machine) (label : ℕ) (r : Reply) → fence_signalled m (Some (command.Signal label)) r
    ≡ signals m (fence_of m.device.world.things (command.Signal label) r)
signals_fence m label (reply.Made id) = refl
signals_fence m label reply.Done = refl
signals_fence m label (reply.Commit k) = refl
signals_fence m label reply.Tested = refl
signals_fence m label (reply.Refused n) = refl
signals_fence m label (reply.Space used) = refl
signals_fence m label (reply.Busy object k) = refl
signals_fence m label (reply.Denied n) = refl
signals_fence m label (reply.Event event) = refl
signals_fence m label reply.NoEvent = refl

-- all stores stand once a fence, if any, that was made is signalled
signal_stands : {s : Script} {m : Machine} (client : ℕ) (r : Reply) (o : Option ℕ) {st : Stores} {clients : Standing}
    (journal : Logged (ℕ × ℕ)) (replies : Logged Answered) → ((id : ℕ) → o ≡ Some id → is_made st.fences id ≡ true)
    → AreClientsOf (client_goes_on m client).contexts clients
    → AreRecords (record m.records {
      replies = answered client (place_at m client).command (length m.records.journal) r
          ∷ m.records.replies;
    }) journal.items replies.items st.latches.items → StandsAt s m st
    → StandsAt s (client_goes_on (signals (answers m client r) o) client)
    (record st { clients = clients; journal = journal; replies = replies; fences = with_signal st.fences o })
signal_stands {m} client r None {st} journal replies made clients_stand recorded stands =
    stands_moved client (record m.records {
      replies = answered client (place_at m client).command (length m.records.journal) r
          ∷ m.records.replies;
    }) journal replies st.made refl
    clients_stand recorded stands.world stands.fences stands.fenced (λ other there. there) stands.queues stands
signal_stands {m} client r (Some id) {st} journal replies made clients_stand recorded stands =
    stands_moved client (record m.records {
      replies = answered client (place_at m client).command (length m.records.journal) r
          ∷ m.records.replies;
    }) journal replies st.made refl clients_stand recorded stands.world
    (fences.fence_signalled st.fences m.device.signalled id stands.fences)
    (signalled_fenced id (made id refl) stands.fenced)
    (λ other there. still_made st.fences id other ∙ there) stands.queues stands

-- a command that passes is a `signal`
pub record IsSignal (c : Command) : Type 0 where
  pub label : ℕ
  pub is : c ≡ command.Signal label

signal_is : (c : Command) → is_signal c ≡ true → IsSignal c
signal_is (command.Signal label) e = record { label = label; is = refl }
signal_is (command.Buffer label width height format pattern) e = absurd (false≢true e)
signal_is (command.AddFb label buffer) e = absurd (false≢true e)
signal_is (command.Mode label m) e = absurd (false≢true e)
signal_is (command.Blob label bytes) e = absurd (false≢true e)
signal_is (command.Destroy label) e = absurd (false≢true e)
signal_is (command.CloseFb label) e = absurd (false≢true e)
signal_is (command.Fence label) e = absurd (false≢true e)
signal_is (command.Atomic r) e = absurd (false≢true e)
signal_is command.Wait e = absurd (false≢true e)

signalled_stands : {r : Run} {st : Stores} {client : ℕ} (label : ℕ) {reply : Reply} {clients : Standing} {journal : Logged (ℕ × ℕ)}
    {replies : Logged Answered} {set : FenceSet} → Stands r st → IsIdleAt r st client is_signal
    → HasSignalled r st client (command.Signal label) reply clients journal replies set
    → StandsAt r.script (next r.script (machine r) (step.Signal client))
    (record st { clients = clients; journal = journal; replies = replies; fences = set })
unfolding next
signalled_stands {r} {st} {client} label {reply} {clients} {journal} {replies} {set} stands there has =
    let m = machine r in
    let answer = reply_is client (command.Signal label) reply stands has.replied in
    let things = stands.stores.world.things in
    let same_fence : fence_of st.made.things (command.Signal label) reply
    ≡ fence_of m.device.world.things (command.Signal label) reply = ap (λ ts. fence_of ts (command.Signal label) reply) (sym things) in
    let signal : set ≡ with_signal st.fences (fence_of m.device.world.things (command.Signal label) reply) = has.fences_now ∙ ap
    (λ o. with_signal st.fences o) same_fence in
    rw has.found.at (subst (λ x. StandsAt r.script
    (client_goes_on (fence_signalled (answers m client x) (Some (command.Signal label)) x) client)
    (record st { clients = clients; journal = journal; replies = replies; fences = set })) (sym answer)
    (rw (signal, signals_fence (answers m client reply) label reply)
    (signal_stands client reply (fence_of m.device.world.things (command.Signal label) reply) journal replies
    (λ id is. signals_made r.script.topology client label stands.stores.fenced
    (ap (λ x. fence_of m.device.world.things (command.Signal label) x) answer ∙ is))
    has.clients_stand (records_answered m st client reply journal.items has.journal_kept
    has.replies_more there.number stands.stores.recorded) stands.stores)))

pub signals_one : {r w : Run} {st : Stores} (client : ℕ) (c : Command) (reply : Reply) (clients : Standing) (journal : Logged (ℕ × ℕ))
    (replies : Logged Answered) (set : FenceSet) → Stands r st → MaySignal r client
    → HasSignalled r st client c reply clients journal replies set → w ≡ gains r (step.Signal client ∷ [])
    → Stands w (record st { clients = clients; journal = journal; replies = replies; fences = set })
signals_one {r} {st = st} client c reply clients journal replies set stands now has more =
    let one = signal_is c has.found.passes in
    goes_on (step.Signal client) refl refl refl stands more now
    (signalled_stands one.label stands (idle_signaller client stands now)
    (subst (λ x. HasSignalled r st client x reply clients journal replies set) one.is has))
