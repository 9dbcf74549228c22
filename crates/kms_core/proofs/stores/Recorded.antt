-- What is recorded of a command stands for what the machine records.
use Rattle.std.proofs.Common.{◌≡◌, ℕ, Bool, true, false, List, [], ◌∷◌, ◌++◌, length, map, reverse, sym, ap, ◌∙◌}
use Rattle.std.proofs.lemmas.List.{length-map, length-reverse, map-append}
use Rattle.kms_model.specs.declared.replies.Answered.{Answered}
use Rattle.kms_model.specs.declared.replies.Reply.{Reply}
use Rattle.kms_model.specs.declared.runs.Latch.{Latch}
use Rattle.kms_model.specs.Device.Serial.{Entry}
use Rattle.kms_model.specs.Machine.State.{Machine, Records, place_at}
use Rattle.kms_laws.proofs.Present.{reverse_more}
use Rattle.kms_core.specs.Calls.{answered, joined}
use Rattle.kms_core.specs.Stands.{AreRecords, Stores, entry_pair}

-- as many commands were accepted
pub places_same : {r : Records} {journal : List (ℕ × ℕ)} {replies : List Answered} {latches : List Latch}
    → AreRecords r journal replies latches → length journal ≡ length r.journal
places_same {r} stand = ap length stand.accepted ∙ length-map (reverse r.journal) entry_pair ∙ length-reverse
    r.journal

-- a reply is recorded
pub answered_more : {r : Records} {journal : List (ℕ × ℕ)} {replies : List Answered} {latches : List Latch} (client command : ℕ)
    (reply : Reply) → AreRecords r journal replies latches
    → AreRecords (record r { replies = answered client command (length r.journal) reply ∷ r.replies }) journal
    (replies ++ answered client command (length journal) reply ∷ []) latches
answered_more {r} {journal} {replies} {latches} client command reply stand = record {
  accepted = stand.accepted;
  answered =
      ap (λ xs. xs ++ answered client command (length journal) reply ∷ []) stand.answered
      ∙ ap (λ n. reverse r.replies ++ answered client command n reply ∷ []) (places_same stand)
      ∙ sym (reverse_more (answered client command (length r.journal) reply) r.replies);
  latched = stand.latched;
}

-- a command joins the journal, where it is accepted
abbrev pub joined_if : Records → Bool → ℕ → ℕ → Records
joined_if r false client command = r
joined_if r true client command = record r { journal = record { client = client; command = command } ∷ r.journal }

pub joined_more : {r : Records} {journal : List (ℕ × ℕ)} {replies : List Answered} {latches : List Latch} (b : Bool) (client command : ℕ)
    → AreRecords r journal replies latches
    → AreRecords (joined_if r b client command) (joined journal b client command) replies latches
joined_more false client command stand = stand
joined_more {r} true client command stand = record {
  accepted =
      ap (λ xs. xs ++ (client, command) ∷ []) stand.accepted
      ∙ sym (ap (map entry_pair) (reverse_more e r.journal) ∙ map-append entry_pair (reverse r.journal) (e ∷ []));
  answered = stand.answered;
  latched = stand.latched;
} where
  e : Entry
  e = record { client = client; command = command }

-- the reply to the command at which a client stands
pub records_answered : (m : Machine) (st : Stores) (client : ℕ) {number : ℕ} (reply : Reply) (journal : List (ℕ × ℕ)) {replies : List
    Answered}
    → journal ≡ st.journal.items → replies ≡ st.replies.items ++ answered client number (length journal) reply ∷ []
    → number ≡ (place_at m client).command → AreRecords m.records st.journal.items st.replies.items st.latches.items
    → AreRecords (record m.records {
      replies = answered client (place_at m client).command (length m.records.journal) reply
          ∷ m.records.replies;
    }) journal replies st.latches.items
records_answered m st client reply journal kept more same stand =
    rw (more, kept, same) (answered_more client (place_at m client).command
    reply stand)
