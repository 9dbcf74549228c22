-- The replies to a client come in the order of its commands, each at a place that is not before the last one's.
use Rattle.std.proofs.Common.{◌≡◌, ℕ, ◌+◌, ◌≤◌, true, false, ◌==◌, List, [], ◌∷◌, ◌++◌, append-nil, length, refl, sym, ap, ◌∙◌, subst}
use Rattle.std.proofs.Common.{arith, ⊎_elim}
use Rattle.std.specs.Prelude.{filter, reverse, if◌then◌else◌}
use Rattle.std.specs.List.{AllByRecursion}
use Rattle.std.proofs.lemmas.Bool.{cases_eq, eq-eqb, ne_eqb}
use Rattle.std.proofs.lemmas.List.{length-append}
use Rattle.std.proofs.lemmas.List.Elements.{filter-append}
use Rattle.kms_model.specs.declared.replies.Answered.{Answered}
use Rattle.kms_model.specs.declared.replies.Reply.{Reply}
use Rattle.kms_model.specs.declared.replies.Reply.TheVariants as reply
use Rattle.kms_model.specs.declared.replies.Step.{Step}
use Rattle.kms_model.specs.declared.runs.Doing.{Doing}
use Rattle.kms_model.specs.declared.runs.Doing.TheVariants as doing
use Rattle.kms_model.specs.declared.runs.Place.{Place}
use Rattle.kms_model.specs.declared.scripts.Script.{Script}
use Rattle.kms_model.specs.Device.Execution.{execute}
use Rattle.kms_model.specs.Device.Objects.{object_id}
use Rattle.kms_model.specs.Device.Serial.{Entry}
use Rattle.kms_model.specs.Machine.Effects.{answers, backed_off, goes_on, refusal_reply, signals}
use Rattle.kms_model.specs.Machine.Histories.{at, is_history}
use Rattle.kms_model.specs.Machine.Registers.{read}
use Rattle.kms_model.specs.Machine.State.{Machine, doing_at, first_machine, place_at}
use Rattle.kms_model.specs.Machine.Steps.{ticket_of}
use Rattle.kms_model.specs.Request.Sets.{obj_id}
use Rattle.kms_model.specs.Request.Verdict.{verdict}
use Rattle.kms_laws.specs.Told.{AreInOrder}
use Rattle.kms_model.proofs.Guards.{lock_guards}
use Rattle.kms_laws.proofs.Basics.{read_other, read_same}
use Rattle.kms_laws.proofs.EachStep.{Carries, by_bool, by_fence, by_two, each_step, made_as, swapped_as, tails_leave}
use Rattle.kms_laws.proofs.Fitting.{back-busy, contended-busy, idle-busy, returning-busy, taking-busy}
use Rattle.kms_laws.proofs.Ended.{first_place}
use Rattle.kms_laws.proofs.Present.{reverse_more}
use Rattle.kms_laws.proofs.Sizes.{answered, ended_at, place_of}
use Rattle.kms_laws.proofs.Steps.{along}

-- Lists of replies

-- one reply more, with the next number and at no place before
push-in-order : (n l : ℕ) (xs : List Answered) (a : Answered) → AreInOrder n l xs → AllByRecursion (λ x. x.place ≤ a.place) xs → l ≤ a.place
    → a.command ≡ n + length xs → AreInOrder n l (xs ++ a ∷ [])
push-in-order n l [] a all below least is = ((let e = is in omega (arith, e)), (least, tt))
push-in-order n l (x ∷ xs) a all below least is =
    (all.0, (all.1.0, push-in-order (n + 1) x.place xs a all.1.1 below.1 below.0 (omega (arith, is))))

push-below : (most : ℕ) (xs : List Answered) (a : Answered) → AllByRecursion (λ x. x.place ≤ most) xs → a.place ≤ most
    → AllByRecursion (λ x. x.place ≤ most) (xs ++ a ∷ [])
push-below most [] a all last = (last, tt)
push-below most (x ∷ xs) a all last = (all.0, push-below most xs a all.1 last)

more-below : (most more : ℕ) (xs : List Answered) → most ≤ more → AllByRecursion (λ x. x.place ≤ most) xs
    → AllByRecursion (λ x. x.place ≤ more) xs
more-below most more [] le all = tt
more-below most more (x ∷ xs) le all = ((let a = all.0 in omega (arith, a, le)), more-below most more xs le all.1)

-- the replies to a client, in order of time, of replies that stand the newest first
abbrev of_client : ℕ → List Answered → List Answered
of_client client all = filter (λ a. a.client == client) (reverse all)

of-more : (client : ℕ) (a : Answered) (all : List Answered) → of_client client (a ∷ all) ≡ of_client client all
    ++ (if a.client == client then a ∷ [] else [])
of-more client a all =
    ap (filter (λ x. x.client == client)) (reverse_more a all)
    ∙ filter-append (λ x. x.client == client) (reverse all) (a ∷ [])

-- Machines

-- so many replies and at no place beyond, where one more than their number is told
record IsInOrder (next most : ℕ) (xs : List Answered) : Type 0 where
  in_order : AreInOrder 1 0 xs
  number : next ≡ 1 + length xs
  below : AllByRecursion (λ x. x.place ≤ most) xs

abbrev Follow : List (ℕ × Place) → List Entry → List Answered → Type 0
Follow places journal replies = (client : ℕ) → IsInOrder (ended_at (place_of places client)) (length journal) (of_client client replies)

module _ (places : List (ℕ × Place)) (journal : List Entry) (replies : List Answered) (all : Follow places journal replies) where
  -- a client does something else, without an answer
  quiet : (x : ℕ) (p : Place) → ended_at p ≡ ended_at (place_of places x) → Follow ((x, p) ∷ places) journal replies
  quiet x p same client =
      ⊎_elim
      (λ (is : x ≡ client).
      subst (λ z. IsInOrder (ended_at (place_of ((x, p) ∷ places) z)) (length journal) (of_client z replies)) is
      (subst (λ n. IsInOrder n (length journal) (of_client x replies)) (sym (ap ended_at (read_same first_place places x p) ∙ same))
      (all x)))
      (λ apart. subst (λ (q : Place). IsInOrder (ended_at q) (length journal) (of_client client replies))
      (sym (read_other first_place places x client p apart)) (all client))
      (cases_eq x client)

  -- it is answered at its command, and the journal may have grown by that
  replied : (x : ℕ) (p : Place) (r : Reply) (later : List Entry) → answered (place_of places x).doing ≡ 0 → ended_at p
      ≡ (place_of places x).command + 1 → length journal ≤ length later
      → Follow ((x, p) ∷ places) later (record { client = x; command = (place_of places x).command; place = length journal; reply = r }
      ∷ replies)
  replied x p r later none next grown client =
      ⊎_elim
      (λ (is : x ≡ client). subst (λ z. IsInOrder (ended_at (place_of ((x, p) ∷ places) z)) (length later) (of_client z (answer ∷ replies)))
      is own)
      (λ apart.
      subst (λ (q : Place). IsInOrder (ended_at q) (length later) (of_client client (answer ∷ replies)))
      (sym (read_other first_place places x client p apart))
      (subst (IsInOrder (ended_at (place_of places client)) (length later))
      (sym (of-more client answer replies ∙ others (ne_eqb x client apart)))
      (let was = all client in record {
        in_order = was.in_order;
        number = was.number;
        below = more-below (length journal) (length later)
            (of_client client replies) grown was.below;
      })))
      (cases_eq x client)
    where
      answer : Answered
      answer = record { client = x; command = (place_of places x).command; place = length journal; reply = r }

      others : (x == client) ≡ false → of_client client replies ++ (if x == client then answer ∷ [] else []) ≡ of_client client replies
      others apart = rw apart (append-nil (of_client client replies))

      one : of_client x (answer ∷ replies) ≡ of_client x replies ++ answer ∷ []
      one = of-more x answer replies ∙ (let here : (x == x) ≡ true = eq-eqb x x refl in rw here refl)

      own : IsInOrder (ended_at (place_of ((x, p) ∷ places) x)) (length later) (of_client x (answer ∷ replies))
      own =
          let was = all x in
          let number = was.number in
          let now = ap ended_at (read_same first_place places x p) in
          let long = length-append (of_client x replies) (answer ∷ []) in
          subst (IsInOrder (ended_at (place_of ((x, p) ∷ places) x)) (length later)) (sym one)
          (record {
            in_order = push-in-order 1 0 (of_client x replies) answer was.in_order was.below (omega arith) (omega (arith, number, none));
            number = omega (arith, now, next, number, none, long);
            below = push-below (length later) (of_client x replies) answer
                (more-below (length journal) (length later) (of_client x replies) grown was.below) grown;
          })

abbrev FollowIn : Machine → Type 0
FollowIn m = Follow m.contexts.places m.records.journal m.records.replies

module _ (s : Script) (m : Machine) (all : FollowIn m) where
  abbrev keeps : (client : ℕ) (d : Doing) → answered (doing_at m client) ≡ 0 → answered d ≡ 0
      → Follow ((client, record { command = (place_at m client).command; doing = d }) ∷ m.contexts.places) m.records.journal
      m.records.replies
  keeps client d none still = quiet m.contexts.places m.records.journal m.records.replies all client
      (record { command = (place_at m client).command; doing = d }) (omega (arith, none, still))

  -- the next command, with a reply to this one
  abbrev goes : (client : ℕ) (r : Reply) → answered (doing_at m client) ≡ 0
      → Follow ((client, record { command = (place_at m client).command + 1; doing = doing.Idle }) ∷ m.contexts.places) m.records.journal
      (record { client = client; command = (place_at m client).command; place = length m.records.journal; reply = r } ∷ m.records.replies)
  goes client r none = replied m.contexts.places m.records.journal m.records.replies all client
      (record { command = (place_at m client).command + 1; doing = doing.Idle }) r m.records.journal none (omega arith) (omega arith)

  -- the same, and this one joins the journal
  abbrev joins : (client : ℕ) (r : Reply) → answered (doing_at m client) ≡ 0
      → Follow ((client, record { command = (place_at m client).command + 1; doing = doing.Idle }) ∷ m.contexts.places)
      (record { client = client; command = (place_at m client).command } ∷ m.records.journal)
      (record { client = client; command = (place_at m client).command; place = length m.records.journal; reply = r } ∷ m.records.replies)
  joins client r none =
      replied m.contexts.places m.records.journal m.records.replies all client
      (record { command = (place_at m client).command + 1; doing = doing.Idle }) r
      (record { client = client; command = (place_at m client).command } ∷ m.records.journal) none (omega arith) (omega arith)

  -- the same, where the client waits for its commit
  abbrev waits : (client k : ℕ) (r : Reply) → answered (doing_at m client) ≡ 0
      → Follow ((client, record { command = (place_at m client).command; doing = doing.Returning k }) ∷ m.contexts.places)
      (record { client = client; command = (place_at m client).command } ∷ m.records.journal)
      (record { client = client; command = (place_at m client).command; place = length m.records.journal; reply = r } ∷ m.records.replies)
  waits client k r none =
      replied m.contexts.places m.records.journal m.records.replies all client
      (record { command = (place_at m client).command; doing = doing.Returning k }) r
      (record { client = client; command = (place_at m client).command } ∷ m.records.journal) none (omega arith) (omega arith)

  carries_order : Carries s m (λ step n. FollowIn n)
  carries_order = record {
    locks = record {
      begins = λ client c e atomic idle. keeps client (doing.Taking (record { 0 = m.contexts.tickets }))
          (idle-busy (doing_at m client) idle).1 refl;
      takes = λ client kind index is_there lock free. all;
      meets = λ client kind index holder is_there lock held.
          keeps client (doing.MustBackOff (record { 0 = ticket_of (doing_at m client) }) (obj_id (object_id kind index)))
          (taking-busy (doing_at m client) (lock_guards s m client (object_id kind index) lock).reaching.taking).1 refl;
      backs = λ client back. let b = back-busy (doing_at m client) back in keeps client (backed_off (doing_at m client)) b.0.1 b.1.1;
      relocks = λ client object asked free. keeps client (doing.Taking (record { 0 = ticket_of (doing_at m client) }))
          (contended-busy (doing_at m client) object asked).1 refl;
      returned = λ client k e clean.
          quiet m.contexts.places m.records.journal m.records.replies all client
          (record { command = (place_at m client).command + 1; doing = doing.Idle })
          (let one = (returning-busy (doing_at m client) k e).1 in omega (arith, one));
    };
    answers = record {
      refuses = λ client r e taking may. goes client (refusal_reply s.topology m client r (verdict s.topology m.device.world r))
          (taking-busy (doing_at m client) taking).1;
      tests = λ client r e taking may. goes client reply.Tested (taking-busy (doing_at m client) taking).1;
      swaps = λ client r e taking may b w eb ew.
          let none = (taking-busy (doing_at m client) taking).1 in
          let k = length m.device.commits in
          by_two (λ b w. FollowIn (swapped_as s.topology b w m client r)) (joins client (reply.Commit k) none)
          (waits client k (reply.Commit k) none) (joins client (reply.Commit k) none) (waits client k (reply.Commit k) none) b w;
      makes = λ client c e making idle b eb.
          let none = (idle-busy (doing_at m client) idle).1 in
          let r = (execute s.topology m.device.world client c).reply in
          by_bool (λ b. FollowIn (made_as b m client (execute s.topology m.device.world client c))) (joins client r none)
          (goes client r none) b;
      signalled = λ client c e is_signal idle o.
          let now = goes client (execute s.topology m.device.world client c).reply (idle-busy (doing_at m client) idle).1 in
          by_fence (λ o. FollowIn (goes_on (signals (answers m client (execute s.topology m.device.world client c).reply) o) client)) now
          (λ fence. now) o;
      read_none = λ client c e is_wait idle none. goes client reply.NoEvent (idle-busy (doing_at m client) idle).1;
      read_one = λ client c e is_wait idle event events some. goes client (reply.Event event) (idle-busy (doing_at m client) idle).1;
    };
    tails = tails_leave s m (λ step left. Follow left.contexts.places left.journal left.replies) (λ step. all);
    stalled = λ h. all;
  }

first_order : (s : Script) → FollowIn (first_machine s.topology)
unfolding read
first_order s client = record { in_order = tt; number = refl; below = tt }

-- the replies to each client, in order of time
pub answers-follow : (s : Script) (h : List Step) → is_history s h ≡ true → (client : ℕ)
    → AreInOrder 1 0 (of_client client (at s h).records.replies)
answers-follow s h is client =
    (along s FollowIn (λ m step all legal. each_step s m (λ step n. FollowIn n) (carries_order s m all) step legal) h
    (first_machine s.topology) (first_order s) is client).in_order
