-- A client's request is decided: it is answered, its locks are dropped, and the client goes on.
use Rattle.std.proofs.Common.{◌≡◌, ℕ, ◌<◌, true, List, [], ◌∷◌, ◌++◌, length, map, refl, sym, ap, ◌∙◌, arith}
use Rattle.std.specs.Prelude.{reverse}
use Rattle.std.proofs.lemmas.List.{length-map, length-reverse}
use Rattle.kms_model.specs.declared.replies.Answered.{Answered}
use Rattle.kms_model.specs.declared.replies.Reply.{Reply}
use Rattle.kms_model.specs.declared.replies.Step.{Step}
use Rattle.kms_model.specs.declared.runs.Doing.{Doing}
use Rattle.kms_model.specs.declared.runs.Doing.TheVariants as doing
use Rattle.kms_model.specs.declared.runs.Place.{Place}
use Rattle.kms_model.specs.Machine.Effects.{decided}
use Rattle.kms_model.specs.Machine.State.{Machine, Records, doing_at, place_at}
use Rattle.kms_model.specs.Machine.Steps.{is_taking}
use Rattle.kms_wwlock.specs.InStep.{AreClientsOf, IsTaking, after_decision}
use Rattle.kms_wwlock.specs.Standing.{Standing, IsClient, place_of}
use Rattle.kms_laws.proofs.Present.{reverse_more}
use Rattle.kms_laws.proofs.SmallNumbers.{numbers_fit}
use Rattle.kms_core.specs.Decisions.{Decides}
use Rattle.kms_core.specs.Logs.{Logged}
use Rattle.kms_core.specs.Run.{Run, gains, machine}
use Rattle.kms_core.specs.Stands.{Stores, StandsAt, Stands, entry_pair}
use Rattle.kms_core.proofs.stores.Histories.{goes_same, told_anew}

taking_is : (d : Doing) → is_taking d ≡ true → IsTaking d
taking_is doing.Idle e = absurd cc
taking_is (doing.Taking t) e = tt
taking_is (doing.MustBackOff t object) e = absurd cc
taking_is (doing.BackedOff t object) e = absurd cc
taking_is (doing.Returning k) e = absurd cc

-- what the store of clients is asked for
pub record MayDecide (client : ℕ) (clients : Standing) : Type 0 where
  pub number : IsClient client
  pub taking : IsTaking (place_of clients client).doing
  pub command_fits : (place_of clients client).command < 4294967295

pub may_decide : {r : Run} {st : Stores} (client : ℕ) → Stands r st → IsClient client → is_taking (doing_at (machine r) client) ≡ true
    → MayDecide client st.clients
may_decide {r} {st} client stands number taking =
    let same = stands.stores.clients.places client number in
    let fit = (numbers_fit r.script r.steps stands.formed stands.history).commands client in
    record {
      number = number;
      taking = taking_is (place_of st.clients client).doing (ap (λ (p : Place). is_taking p.doing) same ∙ taking);
      command_fits = omega (arith, fit, ap (λ (p : Place). p.command) same);
    }

pub may_decide_as : {r : Run} {st : Stores} {client : ℕ} {step : Step} {reply : Reply} → Stands r st → Decides r client step reply
    → MayDecide client st.clients
may_decide_as {r} {st} {client} stands asked =
    let decides = asked in
    may_decide client stands decides.number decides.taking

-- how many commands were accepted
pub accepted_count : (r : Records) {journal : List (ℕ × ℕ)} → journal ≡ map entry_pair (reverse r.journal) → length journal
    ≡ length r.journal
accepted_count r is = ap length is ∙ length-map (reverse r.journal) entry_pair ∙ length-reverse r.journal

-- one answer more
answered_more : (m : Machine) (client : ℕ) {command place : ℕ} (reply : Reply) {replies more : List Answered} → command
    ≡ (place_at m client).command → place ≡ length m.records.journal
    → replies ≡ reverse m.records.replies → more ≡ replies ++ record { client = client; command = command; place = place; reply = reply }
    ∷ []
    → more ≡ reverse (decided m client reply).records.replies
answered_more m client {command} {place} reply command_is place_is old is =
    is ∙ rw (command_is, place_is, old)
    (sym (reverse_more (record { client = client; command = (place_at m client).command; place = length m.records.journal; reply = reply })
    m.records.replies))

-- the stores stand after a decision
pub decided_stands : {r w : Run} {st : Stores} {client : ℕ} {step : Step} {reply : Reply} (command place : ℕ) (clients : Standing)
    (replies more : Logged Answered)
    → Stands r st → Decides r client step reply
    → command ≡ (place_of st.clients client).command → place ≡ length st.journal.items → w ≡ gains r (step ∷ [])
    → replies.items ≡ st.replies.items → more.items ≡ replies.items
    ++ record { client = client; command = command; place = place; reply = reply } ∷ []
    → AreClientsOf (after_decision (machine r) client) clients
    → Stands w (record st { clients = clients; replies = more })
decided_stands {r} {st = st} {client = client} {step = step} {reply = reply} command place clients replies more stands decides command_is
    place_is gained replies_are replies_more now =
    let m : Machine = machine r in
    let recorded = stands.stores.recorded in
    let at_command : command ≡ (place_at m client).command = command_is ∙ ap (λ (p : Place). p.command)
    (stands.stores.clients.places client decides.number) in
    let at_place : place ≡ length m.records.journal = place_is ∙ accepted_count m.records recorded.accepted in
    let after : StandsAt r.script (decided m client reply) (record st { clients = clients; replies = more }) =
    told_anew (decided m client reply).records.replies m.stalled more st.latches
    st.freed st.stalled now
    (record {
      accepted = recorded.accepted;
      answered = answered_more m client reply at_command at_place (replies_are ∙ recorded.answered)
          replies_more;
      latched = recorded.latched;
    })
    stands.stores.ended stands.stores in
    goes_same step (rw decides.does (record { world = refl; commits = refl; cleaned = refl; live = refl })) refl refl stands
    gained decides.legal (rw decides.does after)
