-- Commands that are executed at once, and what they leave.
use Rattle.std.proofs.Common.{◌≡◌, ℕ, Bool, true, false, List, [], ◌∷◌, ◌++◌, length, Option, Some, None, refl, sym, ap, ◌∙◌, subst, arith}
use Rattle.std.specs.Option.{option_and_then}
use Rattle.kms_model.specs.declared.objects.Topology.{Topology}
use Rattle.kms_model.specs.declared.replies.Answered.{Answered}
use Rattle.kms_model.specs.declared.replies.Reply.{Reply}
use Rattle.kms_model.specs.declared.replies.Step.TheVariants as step
use Rattle.kms_model.specs.declared.scripts.Command.{Command}
use Rattle.kms_model.specs.declared.scripts.Command.TheVariants as command
use Rattle.kms_model.specs.declared.scripts.Script.{Script}
use Rattle.kms_model.specs.declared.states.Duplicates.{Duplicates}
use Rattle.kms_model.specs.declared.worlds.World.{World}
use Rattle.kms_model.specs.Device.Execution.{Executed, execute}
use Rattle.kms_model.specs.Device.Serial.{Entry, command_of, from_one, is_accepted}
use Rattle.kms_model.specs.Machine.Effects.{answers, joins_if, made_thing, next, goes_on as client_goes_on}
use Rattle.kms_model.specs.Machine.Histories.{legal}
use Rattle.kms_model.specs.Machine.State.{Machine, Records, command_at, place_at}
use Rattle.kms_model.specs.Machine.Steps.{is_atomic, is_making, may}
use Rattle.kms_model.specs.Script.WellFormed.{IsFitClient, IsFitCommand, IsWellFormed}
use Rattle.kms_model.proofs.Facts.{by_recursion-at}
use Rattle.kms_wwlock.specs.InStep.{AreClientsOf}
use Rattle.kms_wwlock.specs.Standing.{Standing, place_of}
use Rattle.kms_laws.proofs.Executed.{execute_follows}
use Rattle.kms_laws.proofs.Modes.{from_one-in, plain-from}
use Rattle.kms_laws.proofs.SmallNumbers.{numbers_fit}
use Rattle.kms_laws.proofs.Steps.{history_kept, not_atomic}
use Rattle.kms_signal.specs.FenceSets.{FenceSet}
use Rattle.kms_things.proofs.SeenStates.{present_seen}
use Rattle.kms_things.specs.Commands.{IsNoRequest}
use Rattle.kms_things.specs.Counting.{fbs_after}
use Rattle.kms_things.specs.Made.{HasIds, Made, with_made}
use Rattle.kms_things.specs.Present.{IsPresent}
use Rattle.kms_core.specs.Calls.{MayMake, answered, joined, reply_at, reply_to_command, with_fence_of}
use Rattle.kms_core.specs.Logs.{Reserved}
use Rattle.kms_core.specs.Needs.{Accounts, HasPlaceFor, MayAccount}
use Rattle.kms_core.specs.Logs.{Logged}
use Rattle.kms_core.specs.Run.{Run, gains, machine}
use Rattle.kms_core.specs.Stands.{AreMadeFences, IsWorldOf, Stores, Stands, StandsAt}
use Rattle.kms_core.proofs.stores.Beside.{moved, stands_moved}
use Rattle.kms_core.proofs.stores.Fencing.{executed_fenced, executed_more, made_stand}
use Rattle.kms_core.proofs.stores.FreedCalls.{closed_place, made_freed, made_stored, may_account, world_after}
use Rattle.kms_core.proofs.stores.Histories.{goes_freeing, same_freed, with_fbs, with_freed}
use Rattle.kms_core.proofs.Places.{IsIdleAt, idle_there, not_ended}
use Rattle.kms_core.proofs.stores.Recorded.{joined_if, joined_more, records_answered}

-- Commands

pub fit_command : {s : Script} (e : Entry) {c : Command} → IsWellFormed s → command_of s e ≡ Some c → IsFitCommand c
fit_command {s} e {c} formed is = go (from_one s.clients e.client) refl is where
  go : (o : Option (List Command)) → from_one s.clients e.client ≡ o → option_and_then (λ commands. from_one commands e.command) o ≡ Some c
      → IsFitCommand c
  go None found is = absurd cc
  go (Some commands) found is =
      by_recursion-at IsFitCommand commands c (by_recursion-at IsFitClient s.clients commands formed.clients
      (from_one-in s.clients e.client commands found)).fit (from_one-in commands e.command c is)

pub no_request : (c : Command) → is_atomic c ≡ false → IsNoRequest c
no_request (command.Buffer label width height format pattern) e = tt
no_request (command.AddFb label buffer) e = tt
no_request (command.Mode label m) e = tt
no_request (command.Blob label bytes) e = tt
no_request (command.Destroy label) e = tt
no_request (command.CloseFb label) e = tt
no_request (command.Fence label) e = tt
no_request (command.Signal label) e = tt
no_request (command.Atomic r) e = absurd cc
no_request command.Wait e = tt

-- a command that is found under the number of the client's place is the one at which the client stands
pub found_command : {r : Run} {st : Stores} {client number : ℕ} {test : Command → Bool} {o : Option Command} → IsIdleAt r st client test
    → number ≡ (place_of st.clients client).command
    → o ≡ command_of r.script (record { client = client; command = number }) → o ≡ command_at r.script (machine r) client
found_command {r} {client} there same is = is ∙ ap (λ n. command_of r.script (record { client = client; command = n }))
    (same ∙ there.number)

-- such a command passes the test, and may be executed
pub record IsFound (r : Run) (st : Stores) (client : ℕ) (test : Command → Bool) (c : Command) : Type 0 where
  pub at : command_at r.script (machine r) client ≡ Some c
  pub passes : test c ≡ true
  pub fit : IsFitCommand c

pub is_found : {r : Run} {st : Stores} {client number : ℕ} {test : Command → Bool} {c : Command} → Stands r st → IsIdleAt r st client test
    → number ≡ (place_of st.clients client).command
    → Some c ≡ command_of r.script (record { client = client; command = number }) → IsFound r st client test c
is_found {r} {st} {client} {number} {test} {c} stands there same is =
    let at = sym (found_command there same is) in
    let one : Some there.command ≡ Some c = sym there.at ∙ at in
    let same_command : there.command ≡ c = cc in
    record {
      at = at;
      passes = subst (λ x. test x ≡ true) same_command there.passes;
      fit = fit_command
          (record { client = client; command = number }) stands.formed (sym is);
    }

-- one is found
pub never_absent : {r : Run} {st : Stores} {client number : ℕ} {test : Command → Bool} → IsIdleAt r st client test → number
    ≡ (place_of st.clients client).command → None ≡ command_of r.script (record { client = client; command = number }) → ⊥
never_absent {r} {st} {client} {number} {test} there same is =
    let none : None ≡ Some there.command = found_command there same is ∙ there.at in
    cc

-- there are ids for the things of a command more
pub has_ids : {r : Run} {st : Stores} → Stands r st → HasIds st.made
has_ids {r} stands =
    let fit = (numbers_fit r.script r.steps stands.formed stands.history).ids in
    let same = stands.stores.world.next_id in
    omega (arith, fit, same)

-- A thing is made or closed

pub idle_maker : {r : Run} {st : Stores} (client : ℕ) → Stands r st → MayMake r client → IsIdleAt r st client is_making
unfolding legal may
idle_maker {r} {st} client stands now = idle_there client is_making stands
    (not_ended (machine r).stalled _ now)

-- the world of the machine is that of the things
pub world_of : {t : Topology} {w : World} {made : Made} {present : Duplicates} → IsWorldOf t w made present → with_made w made ≡ w
world_of {w} stands = λ i. record w { things = sym stands.things i; next_id = sym stands.next_id i }

execution_is : {t : Topology} {w : World} {made : Made} (new : Made) {present : Duplicates} (client : ℕ) (c : Command) (reply : Reply)
    → IsWorldOf t w made present
    → ((u : Topology) (v : World) → execute u (with_made v made) client c ≡ record { world = with_made v new; reply = reply })
    → execute t w client c ≡ record { world = with_made w new; reply = reply }
execution_is {t} {w} {made} new {present} client c reply stands executed = ap (λ v. execute t v client c) (sym (world_of stands)) ∙
    executed t w

executed_moved : (m : Machine) (client : ℕ) (reply : Reply) (v : World) (b : Bool)
    → client_goes_on (record (joins_if b (answers m client reply) client)
    { device = record (joins_if b (answers m client reply) client).device { world = v } }) client
    ≡ moved m client (joined_if (record m.records
    { replies = answered client (place_at m client).command (length m.records.journal) reply ∷ m.records.replies }) b client
    (place_at m client).command) v m.device.signalled m.events
executed_moved m client reply v true = refl
executed_moved m client reply v false = refl

same_latches : (records : Records) (b : Bool) (client number : ℕ) → (joined_if records b client number).latches ≡ records.latches
same_latches records true client number = refl
same_latches records false client number = refl

-- what the call leaves of the stores
pub record HasMade (r : Run) (st : Stores) (client : ℕ) (c : Command) (reply : Reply) (clients : Standing) (journal : Logged (ℕ × ℕ))
    (replies : Logged Answered) (made : Made) (fences : FenceSet) : Type 0 where
  pub found : IsFound r st client is_making c
  pub executed_as : (t : Topology) (w : World) → execute t (with_made w st.made) client c
      ≡ record { world = with_made w made; reply = reply }
  pub fences_now : fences.slots ≡ with_fence_of c st.made.next_id st.fences.slots
  pub clients_stand : AreClientsOf (client_goes_on (machine r) client).contexts clients
  pub replies_more : replies.items ≡ st.replies.items
      ++ answered client (place_of st.clients client).command (length st.journal.items) reply ∷ []
  pub journal_more : journal.items ≡ joined st.journal.items (is_accepted reply) client (place_of st.clients client).command

pub tells_reply : {r : Run} {st : Stores} (client : ℕ) (c : Command) (made : Made) (reply : Reply) → Stands r st
    → command_at r.script (machine r) client ≡ Some c
    → ((t : Topology) (w : World) → execute t (with_made w st.made) client c ≡ record { world = with_made w made; reply = reply }) → reply
    ≡ reply_at r client
tells_reply {r} {st} client c made reply stands at executed =
    sym (ap (λ (e : Executed). e.reply) (execution_is made client c reply
    stands.stores.world executed))
    ∙ ap (λ o. reply_to_command r.script.topology (machine r).device.world client o) (sym at)

made_stands : {r : Run} {st : Stores} {client : ℕ} {c : Command} {reply : Reply} {clients : Standing} {journal : Logged (ℕ × ℕ)}
    {replies : Logged Answered} {made : Made} {fences : FenceSet} → Stands r st → IsIdleAt r st client is_making
    → HasMade r st client c reply clients journal replies made fences
    → StandsAt r.script (next r.script (machine r) (step.Make client))
    (record st { clients = clients; journal = journal; replies = replies; made = made; fences = fences })
unfolding next made_thing
made_stands {r} {st} {client} {c} {reply} {clients} {journal} {replies} {made} {fences} stands there has =
    let m = machine r in
    let t = r.script.topology in
    let w = m.device.world in
    let holds = (history_kept r.script r.steps (plain-from r.script stands.formed) stands.history).present in
    let other = not_atomic c has.found.passes in
    let is = execution_is made client c reply stands.stores.world has.executed_as in
    let follows = execute_follows t w client c holds.lawful holds.kept
    ((plain-from r.script stands.formed).modes (record { client = client; command = (place_at m client).command }) c has.found.at) other
    in
    let slots : fences.slots ≡ with_fence_of c w.next_id st.fences.slots = has.fences_now ∙ ap (λ n. with_fence_of c n st.fences.slots)
    (sym stands.stores.world.next_id) in
    let records : Records = record m.records {
      replies = answered client (place_at m client).command (length m.records.journal) reply
          ∷ m.records.replies;
    } in
    rw has.found.at (rw is (rw (executed_moved m client reply (with_made w made) (is_accepted reply))
    (stands_moved client (joined_if records (is_accepted reply) client (place_at m client).command) journal replies made
    (same_latches records (is_accepted reply) client (place_at m client).command) has.clients_stand
    (rw (has.journal_more, there.number) (joined_more (is_accepted reply) client
    (place_at m client).command
    (records_answered m st client reply st.journal.items refl has.replies_more
    there.number stands.stores.recorded)))
    (record {
      things = refl;
      next_id = refl;
      states = subst (λ (e : Executed). IsPresent t e.world st.present) is
          (present_seen t w (execute t w client c).world st.present follows.like.values follows.like.alike stands.stores.world.states);
    })
    (made_stand c fences slots stands.stores.fenced stands.stores.fences)
    (subst (λ (e : Executed). AreMadeFences e.world m.device.signalled fences) is
    (executed_fenced t client c fences other slots stands.stores.fenced))
    (executed_more w.next_id c st.fences fences slots) stands.stores.queues stands.stores)))

pub makes : {r w : Run} {st : Stores} (client : ℕ) (c : Command) (reply : Reply) (clients : Standing) (journal : Logged (ℕ × ℕ))
    (replies : Logged Answered) (made : Made) (fences : FenceSet) → Stands r st → MayMake r client
    → HasMade r st client c reply clients journal replies made fences → made.fbs ≡ fbs_after st.made client c
    → w ≡ gains r (step.Make client ∷ [])
    → (roomy freed : Reserved (ℕ × ℕ)) (left : Made) → roomy.items ≡ st.freed.items → roomy.places ≡ st.freed.places
    → {crtcs : ℕ} → crtcs ≡ r.script.topology.crtcs → Accounts made left st.present st.registers st.tracker crtcs c reply roomy freed
    → Stands w (record st { clients = clients; journal = journal; replies = replies; made = left; fences = fences; freed = freed })
makes {r} {st = st} client c reply clients journal replies made fences stands may has counted more roomy freed left same_items same_places
    crtcs_are accounts_for =
    let accounts = rw crtcs_are at accounts_for in
    let new : Stores = record st { clients = clients; journal = journal; replies = replies; made = made; fences = fences } in
    let n = next r.script (machine r) (step.Make client) in
    let told = ap (λ (e : Executed). e.reply) (execution_is made client c
    reply stands.stores.world has.executed_as) in
    let after = made_stands stands (idle_maker client stands may) has in
    let with_room : Stands r (record st { freed = roomy }) = record {
      formed = stands.formed;
      history = stands.history;
      stores = with_freed roomy stands.stores;
      freed = same_freed r.script r.steps r.steps st.freed roomy refl same_items same_places stands.freed;
      stored = stands.stored;
    } in
    let kept = made_stored r
    (record st { freed = roomy }) client c reply with_room may has.found.at told new freed left after counted accounts in
    goes_freeing (step.Make client) stands more may
    (subst (λ z. StandsAt r.script n (record new { freed = freed; made = z })) (sym kept.same)
    (with_fbs kept.fbs (with_freed freed after)))
    (made_freed r (record st { freed = roomy }) client c reply with_room may has.found.at told new freed left after accounts)
    (rw kept.same kept.stored)

-- there is a place for a framebuffer that was closed
pub place_for : {r : Run} {st : Stores} (client : ℕ) (c : Command) (reply : Reply) (made : Made) → Stands r st → MayMake r client
    → command_at r.script (machine r) client ≡ Some c
    → ((t : Topology) (w : World) → execute t (with_made w st.made) client c ≡ record { world = with_made w made; reply = reply })
    → HasPlaceFor made c reply st.freed.places
place_for {r} {st} client c reply made stands may at executed_as =
    let executed_is = execution_is made client c reply stands.stores.world
    executed_as in
    closed_place r st client c reply stands may at (ap (λ (e : Executed). e.reply) executed_is) made
    (ap (λ (w : World). w.things) (world_after r st client c reply stands may at (ap (λ (e : Executed). e.reply) executed_is)) ∙ ap
    (λ (e : Executed). e.world.things) executed_is)

-- and the framebuffer that was added or closed is in the store
pub stored_for : {r : Run} {st : Stores} (client : ℕ) (c : Command) (reply : Reply) (made : Made) → Stands r st → MayMake r client
    → command_at r.script (machine r) client ≡ Some c
    → ((t : Topology) (w : World) → execute t (with_made w st.made) client c ≡ record { world = with_made w made; reply = reply })
    → made.fbs ≡ fbs_after st.made client c → MayAccount made c reply
stored_for {r} {st} client c reply made stands may at executed_as counted =
    let executed_is = execution_is made client c reply stands.stores.world
    executed_as in
    may_account r st client c reply stands may at (ap (λ (e : Executed). e.reply) executed_is) made
    (ap (λ (w : World). w.things) (world_after r st client c reply stands may at (ap (λ (e : Executed). e.reply) executed_is))
    ∙ ap (λ (e : Executed). e.world.things) executed_is) counted
