-- Stores with other memory stand as well.
use Rattle.std.proofs.Common.{◌≡◌, ℕ, List}
use Rattle.kms_model.specs.declared.replies.Answered.{Answered}
use Rattle.kms_model.specs.declared.replies.Step.{Step}
use Rattle.kms_core.specs.Logs.{Logged, Reserved}
use Rattle.kms_signal.specs.FenceSets.{FenceSet}
use Rattle.kms_things.specs.Made.{Made}
use Rattle.kms_core.specs.Run.{Run}
use Rattle.kms_core.specs.Stands.{Stands, Stores}
use Rattle.kms_core.proofs.stores.Fencing.{same_fences, same_slots}
use Rattle.kms_core.proofs.stores.Histories.{same_freed}

pub stands_with_room : {r : Run} {st : Stores} (journal : Logged (ℕ × ℕ)) (replies : Logged Answered) (made : Made) (fences : FenceSet)
    {steps : List Step} → Stands r st → steps ≡ r.steps → journal.items ≡ st.journal.items → replies.items ≡ st.replies.items
    → made ≡ st.made → fences.slots ≡ st.fences.slots → (freed : Reserved (ℕ × ℕ)) → freed.items ≡ st.freed.items → freed.places
    ≡ st.freed.places
    → Stands (record { script = r.script; steps = steps })
    (record st { journal = journal; replies = replies; made = made; fences = fences; freed = freed })
stands_with_room {r} {st} journal replies made fences {steps} stands is same_journal same_replies same_made same_set freed same_freed_items
    same_places = record {
      formed = stands.formed;
      history = rw is stands.history;
      stored = rw (is, same_made) stands.stored;
      freed = same_freed r.script r.steps steps st.freed freed is same_freed_items same_places stands.freed;
      stores = rw is (record {
        clients = stands.stores.clients;
        recorded = rw (same_journal, same_replies) stands.stores.recorded;
        world = rw same_made stands.stores.world;
        fences = same_fences fences same_set stands.stores.fences;
        fenced = same_slots fences same_set stands.stores.fenced;
        out_fenced = λ k index id low few is. rw same_set (stands.stores.out_fenced k index id low few is);
        queues = stands.stores.queues;
        tracker = stands.stores.tracker;
        registers = stands.stores.registers;
        going = stands.stores.going;
        ended = stands.stores.ended;
      });
    }
