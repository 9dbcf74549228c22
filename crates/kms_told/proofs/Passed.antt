-- Each reply is to a command that its client is past, and each such command has a reply.
use Rattle.std.proofs.Common.{◌≡◌, ℕ, ◌+◌, ◌<◌, ◌≤◌, true, List, ◌∷◌, length, inl, inr, refl, ap, ◌∙◌, subst, arith, ⊎_elim}
use Rattle.std.proofs.lemmas.Bool.{cases_eq, cases_lt}
use Rattle.kms_model.specs.declared.objects.Topology.{Topology}
use Rattle.kms_model.specs.declared.replies.Answered.{Answered}
use Rattle.kms_model.specs.declared.replies.Reply.{Reply}
use Rattle.kms_model.specs.declared.replies.Reply.TheVariants as reply
use Rattle.kms_model.specs.declared.replies.Step.{Step}
use Rattle.kms_model.specs.declared.runs.Doing.{Doing}
use Rattle.kms_model.specs.declared.runs.Doing.TheVariants as doing
use Rattle.kms_model.specs.declared.runs.Place.{Place}
use Rattle.kms_model.specs.declared.scripts.Script.{Script}
use Rattle.kms_model.specs.Device.Execution.{execute}
use Rattle.kms_model.specs.Device.Objects.{object_id}
use Rattle.kms_model.specs.Machine.Effects.{answers, backed_off, goes_on, next, refusal_reply, signals}
use Rattle.kms_model.specs.Machine.Histories.{legal}
use Rattle.kms_model.specs.Machine.Registers.{read}
use Rattle.kms_model.specs.Machine.State.{Machine, doing_at, first_machine, place_at}
use Rattle.kms_model.specs.Machine.Steps.{ticket_of}
use Rattle.kms_model.specs.Request.Sets.{obj_id}
use Rattle.kms_model.specs.Request.Verdict.{verdict}
use Rattle.kms_model.proofs.Guards.{lock_guards}
use Rattle.kms_model.proofs.Items.{IsIn}
use Rattle.kms_laws.proofs.Basics.{read_other, read_same}
use Rattle.kms_laws.proofs.EachStep.{Carries, by_bool, by_fence, by_two, each_step, made_as, swapped_as, tails_leave}
use Rattle.kms_laws.proofs.Ended.{first_place}
use Rattle.kms_laws.proofs.Fitting.{back-busy, contended-busy, idle-busy, returning-busy, taking-busy}
use Rattle.kms_laws.proofs.Sizes.{answered, ended_at, place_of}

-- a reply to a command of a client
pub record IsAnswered (replies : List Answered) (client command : ℕ) : Type 0 where
  pub answer : Answered
  pub is_in : IsIn answer replies
  pub of_client : answer.client ≡ client
  pub to_command : answer.command ≡ command

pub record ArePassed (places : List (ℕ × Place)) (replies : List Answered) : Type 0 where
  pub past : (b : Answered) → IsIn b replies → b.command < ended_at (place_of places b.client)
  pub each_answered : (client command : ℕ) → 1 ≤ command → command < ended_at (place_of places client) → IsAnswered replies client command

answered-later : (a : Answered) (replies : List Answered) (client command : ℕ) → IsAnswered replies client command
    → IsAnswered (a ∷ replies) client command
answered-later a replies client command I = record {
  answer = I.answer;
  is_in = inr I.is_in;
  of_client = I.of_client;
  to_command =
      I.to_command;
}

-- a client's place, another client's
module _ (places : List (ℕ × Place)) (x : ℕ) (p : Place) where
  ended-here : (z : ℕ) → x ≡ z → ended_at (place_of ((x, p) ∷ places) z) ≡ ended_at p
  ended-here z same = subst (λ z. ended_at (place_of ((x, p) ∷ places) z) ≡ ended_at p) same
      (ap ended_at (read_same first_place places x p))

  ended-there : (z : ℕ) → (x ≡ z → ⊥) → ended_at (place_of ((x, p) ∷ places) z) ≡ ended_at (place_of places z)
  ended-there z apart = ap ended_at (read_other first_place places x z p apart)

-- a client goes on
moved : (places : List (ℕ × Place)) (replies : List Answered) (x : ℕ) (p : Place) → ended_at p ≡ ended_at (place_of places x)
    → ArePassed places replies
    → ArePassed ((x, p) ∷ places) replies
moved places replies x p same all = record {
  past = λ b is. let e = stays b.client in let lt = all.past b is in omega (arith, e, lt);
  each_answered = λ client command low high. all.each_answered client command low (let e = stays client in omega (arith, e, high));
} where
  stays : (z : ℕ) → ended_at (place_of ((x, p) ∷ places) z) ≡ ended_at (place_of places z)
  stays z =
      ⊎_elim
      (λ (here : x ≡ z). ended-here places x p z here ∙ same ∙ ap (λ k. ended_at (place_of places k)) here)
      (λ apart. ended-there places x p z apart)
      (cases_eq x z)

-- it has a reply
replied : (places : List (ℕ × Place)) (replies : List Answered) (x : ℕ) (p : Place) (at : ℕ) (r : Reply)
    → ended_at p ≡ (place_of places x).command + 1 → ended_at (place_of places x) ≡ (place_of places x).command → ArePassed places replies
    → ArePassed ((x, p) ∷ places) (record { client = x; command = (place_of places x).command; place = at; reply = r } ∷ replies)
replied places replies x p at r next now all = record { past = past; each_answered = answered_now } where
  a : Answered
  a = record { client = x; command = (place_of places x).command; place = at; reply = r }

  up : (z : ℕ) → ended_at (place_of places z) ≤ ended_at (place_of ((x, p) ∷ places) z)
  up z =
      ⊎_elim
      (λ (here : x ≡ z).
      let e = ended-here places x p z here in
      let old = ap (λ k. ended_at (place_of places k)) here in
      omega (arith, e, old, next, now))
      (λ apart. let e = ended-there places x p z apart in omega (arith, e))
      (cases_eq x z)

  past : (b : Answered) → IsIn b (record { client = x; command = (place_of places x).command; place = at; reply = r } ∷ replies)
      → b.command < ended_at (place_of ((x, p) ∷ places) b.client)
  past b (inl same) =
      let e = ended-here places x p b.client (ap (λ (f : Answered). f.client) same) in
      let c = ap (λ (f : Answered). f.command) same in
      omega (arith, e, c, next)
  past b (inr later) = let lt = all.past b later in let le = up b.client in omega (arith, lt, le)

  answered_now : (client command : ℕ) → 1 ≤ command → command < ended_at (place_of ((x, p) ∷ places) client)
      → IsAnswered (record { client = x; command = (place_of places x).command; place = at; reply = r } ∷ replies) client command
  answered_now client command low high =
      ⊎_elim
      (λ (old : command < ended_at (place_of places client)). answered-later a replies client command
      (all.each_answered client command low old))
      (λ beyond.
      ⊎_elim
      (λ (here : x ≡ client).
      let e = ended-here places x p client here in
      let old = ap (λ k. ended_at (place_of places k)) here in
      record { answer = a; is_in = inl refl; of_client = here; to_command = omega (arith, e, old, next, now, high, beyond) })
      (λ apart. absurd (let e = ended-there places x p client apart in omega (arith, e, high, beyond)))
      (cases_eq x client))
      (cases_lt command (ended_at (place_of places client)))

abbrev pub HasPassed : Machine → Type 0
HasPassed m = ArePassed m.contexts.places m.records.replies

module _ (s : Script) (m : Machine) (all : HasPassed m) where
  keeps_on : (client : ℕ) (d : Doing) → answered (doing_at m client) ≡ 0 → answered d ≡ 0
      → ArePassed ((client, record { command = (place_at m client).command; doing = d }) ∷ m.contexts.places) m.records.replies
  keeps_on client d none still =
      moved m.contexts.places m.records.replies client (record { command = (place_at m client).command; doing = d })
      (omega (arith, none, still)) all

  returns : (client : ℕ) → answered (doing_at m client) ≡ 1
      → ArePassed ((client, record { command = (place_at m client).command + 1; doing = doing.Idle }) ∷ m.contexts.places) m.records.replies
  returns client most =
      moved m.contexts.places m.records.replies client (record { command = (place_at m client).command + 1; doing = doing.Idle })
      (omega (arith, most)) all

  goes : (client : ℕ) (r : Reply) → answered (doing_at m client) ≡ 0
      → ArePassed ((client, record { command = (place_at m client).command + 1; doing = doing.Idle }) ∷ m.contexts.places)
      (record { client = client; command = (place_at m client).command; place = length m.records.journal; reply = r } ∷ m.records.replies)
  goes client r none =
      replied m.contexts.places m.records.replies client (record { command = (place_at m client).command + 1; doing = doing.Idle })
      (length m.records.journal) r (omega arith) (omega (arith, none)) all

  waits : (client k : ℕ) (r : Reply) → answered (doing_at m client) ≡ 0
      → ArePassed ((client, record { command = (place_at m client).command; doing = doing.Returning k }) ∷ m.contexts.places)
      (record { client = client; command = (place_at m client).command; place = length m.records.journal; reply = r } ∷ m.records.replies)
  waits client k r none =
      replied m.contexts.places m.records.replies client (record { command = (place_at m client).command; doing = doing.Returning k })
      (length m.records.journal) r (omega arith) (omega (arith, none)) all

  carries_passed : Carries s m (λ step n. HasPassed n)
  carries_passed = record {
    locks = record {
      begins = λ client c e atomic idle. keeps_on client (doing.Taking (record { 0 = m.contexts.tickets }))
          (idle-busy (doing_at m client) idle).1 refl;
      takes = λ client kind index is_there lock free. all;
      meets = λ client kind index holder is_there lock held.
          keeps_on client (doing.MustBackOff (record { 0 = ticket_of (doing_at m client) }) (obj_id (object_id kind index)))
          (taking-busy (doing_at m client) (lock_guards s m client (object_id kind index) lock).reaching.taking).1 refl;
      backs = λ client back. let b = back-busy (doing_at m client) back in keeps_on client (backed_off (doing_at m client)) b.0.1 b.1.1;
      relocks = λ client object asked free.
          keeps_on client (doing.Taking (record { 0 = ticket_of (doing_at m client) }))
          (contended-busy (doing_at m client) object asked).1 refl;
      returned = λ client k e clean. returns client (returning-busy (doing_at m client) k e).1;
    };
    answers = record {
      refuses = λ client r e taking may.
          goes client (refusal_reply s.topology m client r (verdict s.topology m.device.world r))
          (taking-busy (doing_at m client) taking).1;
      tests = λ client r e taking may. goes client reply.Tested (taking-busy (doing_at m client) taking).1;
      swaps = λ client r e taking may b w eb ew.
          let none = (taking-busy (doing_at m client) taking).1 in
          let k = length m.device.commits in
          by_two (λ b w. HasPassed (swapped_as s.topology b w m client r)) (goes client (reply.Commit k) none)
          (waits client k (reply.Commit k) none)
          (goes client (reply.Commit k) none) (waits client k (reply.Commit k) none) b w;
      makes = λ client c e making idle b eb.
          let now = goes client (execute s.topology m.device.world client c).reply (idle-busy (doing_at m client) idle).1 in
          by_bool (λ b. HasPassed (made_as b m client (execute s.topology m.device.world client c))) now now b;
      signalled = λ client c e is_signal idle o.
          let now = goes client (execute s.topology m.device.world client c).reply (idle-busy (doing_at m client) idle).1 in
          by_fence (λ o. HasPassed (goes_on (signals (answers m client (execute s.topology m.device.world client c).reply) o) client)) now
          (λ fence. now) o;
      read_none = λ client c e is_wait idle none. goes client reply.NoEvent (idle-busy (doing_at m client) idle).1;
      read_one = λ client c e is_wait idle event events some. goes client (reply.Event event) (idle-busy (doing_at m client) idle).1;
    };
    tails = tails_leave s m (λ step left. ArePassed left.contexts.places left.replies) (λ step. all);
    stalled = λ h. all;
  }

  pub step_passed : (step : Step) → legal s m step ≡ true → HasPassed (next s m step)
  step_passed step h = each_step s m (λ step n. HasPassed n) carries_passed step h

pub first_passed : (t : Topology) → HasPassed (first_machine t)
unfolding read
first_passed t = record {
  past = λ b never. absurd never;
  each_answered = λ client command low high. absurd (omega (arith, low, high));
}
