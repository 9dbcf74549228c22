-- The commands in the journal have their answers: a client that has an acquire context is not at one of them.
use Rattle.std.proofs.Common.{◌≡◌, ℕ, ◌+◌, ◌<◌, ◌≤◌, true, List, ◌∷◌, length, inl, inr, sym, ap, subst, arith, ⊎_elim}
use Rattle.std.proofs.lemmas.Bool.{cases_eq}
use Rattle.kms_model.specs.declared.replies.Step.{Step}
use Rattle.kms_model.specs.declared.runs.Doing.{Doing}
use Rattle.kms_model.specs.declared.runs.Doing.TheVariants as doing
use Rattle.kms_model.specs.declared.runs.Place.{Place}
use Rattle.kms_model.specs.declared.scripts.Script.{Script}
use Rattle.kms_model.specs.Device.Execution.{execute}
use Rattle.kms_model.specs.Device.Objects.{object_id}
use Rattle.kms_model.specs.Device.Serial.{Entry}
use Rattle.kms_model.specs.Machine.Effects.{answers, backed_off, goes_on, signals}
use Rattle.kms_model.specs.Machine.Histories.{at, is_history}
use Rattle.kms_model.specs.Machine.State.{Machine, doing_at, first_machine, place_at}
use Rattle.kms_model.specs.Machine.Steps.{ticket_of}
use Rattle.kms_model.specs.Request.Sets.{obj_id}
use Rattle.kms_model.proofs.Guards.{lock_guards}
use Rattle.kms_model.proofs.Items.{IsIn}
use Rattle.kms_laws.proofs.Basics.{read_other, read_same}
use Rattle.kms_laws.proofs.EachStep.{Carries, by_bool, by_fence, by_two, each_step, made_as, swapped_as, tails_leave}
use Rattle.kms_laws.proofs.Fitting.{back-busy, contended-busy, idle-busy, returning-busy, taking-busy}
use Rattle.kms_laws.proofs.Sizes.{answered, ended_at, place_of}
use Rattle.kms_laws.proofs.Steps.{along}

-- each entry's client has its answer
abbrev pub AreEnded : List (ℕ × Place) → List Entry → Type 0
AreEnded places journal = (e : Entry) → IsIn e journal → e.command < ended_at (place_of places e.client)

abbrev pub first_place : Place
first_place = record { command = 1; doing = doing.Idle }

-- a client goes on
moved : (places : List (ℕ × Place)) (journal : List Entry) (x : ℕ) (p : Place) → ended_at (place_of places x) ≤ ended_at p
    → AreEnded places journal → AreEnded ((x, p) ∷ places) journal
moved places journal x p up all e is =
    let here = all e is in
    ⊎_elim
    (λ (same : x ≡ e.client).
    subst (λ z. e.command < ended_at (place_of ((x, p) ∷ places) z)) same
    (let now = ap ended_at (read_same first_place places x p) in
    let was : e.command < ended_at (place_of places x) = subst (λ z. e.command < ended_at (place_of places z)) (sym same) here in
    omega (arith, now, was, up)))
    (λ apart. subst (λ (q : Place). e.command < ended_at q) (sym (read_other first_place places x e.client p apart)) here)
    (cases_eq x e.client)

-- its command joins the journal
joined : (places : List (ℕ × Place)) (journal : List Entry) (x : ℕ) (p : Place) → (place_of places x).command < ended_at p
    → ended_at (place_of places x) ≤ ended_at p → AreEnded places journal
    → AreEnded ((x, p) ∷ places) (record { client = x; command = (place_of places x).command } ∷ journal)
joined places journal x p over up all e (inl same) =
    subst (λ (f : Entry). f.command < ended_at (place_of ((x, p) ∷ places) f.client)) same
    (let now = ap ended_at (read_same first_place places x p) in omega (arith, now, over))
joined places journal x p over up all e (inr later) = moved places journal x p up all e later

abbrev pub HasEnded : Machine → Type 0
HasEnded m = AreEnded m.contexts.places m.records.journal

module _ (s : Script) (m : Machine) (all : HasEnded m) where
  keeps_on : (client : ℕ) (d : Doing) → answered (doing_at m client) ≡ 0
      → AreEnded ((client, record { command = (place_at m client).command; doing = d }) ∷ m.contexts.places) m.records.journal
  keeps_on client d none = moved m.contexts.places m.records.journal client (record { command = (place_at m client).command; doing = d })
      (omega (arith, none)) all

  goes : (client : ℕ) → answered (doing_at m client) ≤ 1
      → AreEnded ((client, record { command = (place_at m client).command + 1; doing = doing.Idle }) ∷ m.contexts.places) m.records.journal
  goes client most = moved m.contexts.places m.records.journal client
      (record { command = (place_at m client).command + 1; doing = doing.Idle }) (omega (arith, most)) all

  next_of : (client : ℕ) → answered (doing_at m client) ≡ 0
      → AreEnded ((client, record { command = (place_at m client).command + 1; doing = doing.Idle }) ∷ m.contexts.places) m.records.journal
  next_of client none = goes client (omega (arith, none))

  joins_on : (client : ℕ) → answered (doing_at m client) ≡ 0
      → AreEnded ((client, record { command = (place_at m client).command + 1; doing = doing.Idle }) ∷ m.contexts.places)
      (record { client = client; command = (place_at m client).command } ∷ m.records.journal)
  joins_on client none = joined m.contexts.places m.records.journal client
      (record { command = (place_at m client).command + 1; doing = doing.Idle }) (omega arith) (omega (arith, none)) all

  joins_back : (client k : ℕ) → answered (doing_at m client) ≡ 0
      → AreEnded ((client, record { command = (place_at m client).command; doing = doing.Returning k }) ∷ m.contexts.places)
      (record { client = client; command = (place_at m client).command } ∷ m.records.journal)
  joins_back client k none = joined m.contexts.places m.records.journal client
      (record { command = (place_at m client).command; doing = doing.Returning k }) (omega arith) (omega (arith, none)) all

  pub carries_ended : Carries s m (λ step n. HasEnded n)
  carries_ended = record {
    locks = record {
      begins = λ client c e atomic idle. keeps_on client (doing.Taking (record { 0 = m.contexts.tickets }))
          (idle-busy (doing_at m client) idle).1;
      takes = λ client kind index is_there lock free. all;
      meets = λ client kind index holder is_there lock held.
          keeps_on client (doing.MustBackOff (record { 0 = ticket_of (doing_at m client) }) (obj_id (object_id kind index)))
          (taking-busy (doing_at m client) (lock_guards s m client (object_id kind index) lock).reaching.taking).1;
      backs = λ client back. keeps_on client (backed_off (doing_at m client)) (back-busy (doing_at m client) back).0.1;
      relocks = λ client object asked free. keeps_on client (doing.Taking (record { 0 = ticket_of (doing_at m client) }))
          (contended-busy (doing_at m client) object asked).1;
      returned = λ client k e clean. goes client (let one = (returning-busy (doing_at m client) k e).1 in omega (arith, one));
    };
    answers = record {
      refuses = λ client r e taking may. next_of client (taking-busy (doing_at m client) taking).1;
      tests = λ client r e taking may. next_of client (taking-busy (doing_at m client) taking).1;
      swaps = λ client r e taking may b w eb ew.
          let none = (taking-busy (doing_at m client) taking).1 in
          by_two (λ b w. HasEnded (swapped_as s.topology b w m client r)) (joins_on client none)
          (joins_back client (length m.device.commits) none) (joins_on client none) (joins_back client (length m.device.commits) none) b
          w;
      makes = λ client c e making idle b eb.
          let none = (idle-busy (doing_at m client) idle).1 in
          by_bool (λ b. HasEnded (made_as b m client (execute s.topology m.device.world client c))) (joins_on client none)
          (next_of client none) b;
      signalled = λ client c e is_signal idle o.
          let now = next_of client (idle-busy (doing_at m client) idle).1 in
          by_fence (λ o. HasEnded (goes_on (signals (answers m client (execute s.topology m.device.world client c).reply) o) client)) now
          (λ fence. now) o;
      read_none = λ client c e is_wait idle none. next_of client (idle-busy (doing_at m client) idle).1;
      read_one = λ client c e is_wait idle event events some. next_of client (idle-busy (doing_at m client) idle).1;
    };
    tails = tails_leave s m (λ step left. AreEnded left.contexts.places left.journal) (λ step. all);
    stalled = λ h. all;
  }

pub history_ended : (s : Script) (h : List Step) → is_history s h ≡ true → HasEnded (at s h)
history_ended s h is =
    along s HasEnded (λ m step all legal. each_step s m (λ step n. HasEnded n) (carries_ended s m all) step legal) h
    (first_machine s.topology) (λ e never. absurd never) is
