-- The numbers of each history fit their types.
use Rattle.std.proofs.Common.{◌≡◌, ℕ, suc, ◌+◌, ◌*◌, ◌<◌, ◌≤◌, List, [], ◌∷◌, length, true, Option, Some, None, refl, ap, ◌∙◌, subst, arith}
use Rattle.std.specs.List.{AllByRecursion}
use Rattle.std.proofs.lemmas.List.Elements.{All-from_recursion}
use Rattle.kms_model.specs.declared.objects.Kind.TheVariants.{Crtc}
use Rattle.kms_model.specs.declared.objects.Topology.{Topology}
use Rattle.kms_model.specs.declared.replies.Step.{Step}
use Rattle.kms_model.specs.declared.runs.Doing.{Doing}
use Rattle.kms_model.specs.declared.runs.Doing.TheVariants as doing
use Rattle.kms_model.specs.declared.runs.Latch.{Latch}
use Rattle.kms_model.specs.declared.scripts.Command.{Command}
use Rattle.kms_model.specs.declared.scripts.Script.{Script}
use Rattle.kms_model.specs.Device.Serial.{from_one}
use Rattle.kms_model.specs.Machine.Effects.{next}
use Rattle.kms_model.specs.Machine.Histories.{are_legal, at, is_history, legal, run_steps}
use Rattle.kms_model.specs.Machine.Registers.{read}
use Rattle.kms_model.specs.Machine.State.{DeviceState, Machine, doing_at, first_machine}
use Rattle.kms_model.specs.Machine.Steps.{ticket_of}
use Rattle.kms_model.specs.Script.WellFormed.{IsFitClient, IsWellFormed}
use Rattle.kms_model.proofs.Guards.{legal_parts}
use Rattle.kms_model.proofs.CrtcLemmas.{all_in}
use Rattle.kms_model.proofs.Items.{IsObject, ids-in}
use Rattle.kms_model.proofs.TouchedLemmas.{few_objects}
use Rattle.kms_laws.specs.Laws.{has_context}
use Rattle.kms_laws.specs.Numbers.{LatchFits, NumbersFit}
use Rattle.kms_laws.proofs.EachStep.{each_step}
use Rattle.kms_laws.proofs.EventRoom.{HasRoom, carries_room}
use Rattle.kms_laws.proofs.Fitting.{HasSizes, carries_sizes}
use Rattle.kms_laws.proofs.LockSteps.{HasLocks}
use Rattle.kms_laws.proofs.Modes.{from_one-in, plain-from}
use Rattle.kms_laws.proofs.NeverStuck.{Facts, first_facts, step_facts}
use Rattle.kms_laws.proofs.Objects.{crtc_index}
use Rattle.kms_laws.proofs.Sizes.{all_begun, all_ended, answered, begun_at, busy, ended_at, first_places, has_commands, length_of, place_of}
use Rattle.kms_laws.proofs.Sizes.{sum-most}
use Rattle.kms_laws.proofs.Steps.{IsPlainScript}
use Rattle.kms_laws.proofs.Swapped.{flush_within}
use Rattle.kms_laws.proofs.Traversal.{IsKept, IsLatch, TailOf, along_history, few_kept, latch_of}

-- Latches

abbrev LatchIs : Topology → ℕ → Latch → Type 0
LatchIs t n l = (l.commit < n) × (l.crtc < t.crtcs)

latches-later : (t : Topology) (n : ℕ) (ls : List Latch) → AllByRecursion (LatchIs t n) ls → AllByRecursion (LatchIs t (suc n)) ls
latches-later t n [] all = tt
latches-later t n (l ∷ ls) all = (((let a = all.0.0 in omega (arith, a)), all.0.1), latches-later t n ls all.1)

latch-is : (t : Topology) (d : DeviceState) (ls : List Latch) (k c count : ℕ) → TailOf t d ls → IsLatch t d ls k c
    → LatchIs t (length d.commits) (latch_of t d k c count)
latch-is t d ls k c count T found =
    let o : IsObject t Crtc c = ids-in t Crtc c found.is_crtc in
    (flush_within T k c found.flushed, (let e = crtc_index t c T.few found.is_crtc in omega (arith, e, o.same, o.within)))

latches_kept : (s : Script) → IsKept s (λ d ls. AllByRecursion (LatchIs s.topology (length d.commits)) ls)
latches_kept s =
    few_kept s (λ w cs ls. AllByRecursion (LatchIs s.topology (length cs)) ls) (λ m client c is other all. all)
    (λ m client r H is none all. latches-later s.topology (length m.device.commits) m.records.latches all)
    (λ d ls k c count T found all. (latch-is s.topology d ls k c count T found, all))

latches-fit : (s : Script) (h : List Step) (n : ℕ) (ls : List Latch)
    → AllByRecursion (LatchIs s.topology (length (at s h).device.commits)) ls → n ≡ length h
    → AllByRecursion (λ (l : Latch). l.count ≤ n) ls → AllByRecursion (LatchFits s h) ls
latches-fit s h n [] is e all = tt
latches-fit s h n (l ∷ ls) is e all = (
  record { commit = is.0.0; crtc = is.0.1; count = subst (λ z. l.count ≤ z) e all.0 },
  latches-fit s h n ls is.1 e all.1,
)

-- Along a history

-- what is kept by each step, with the number of steps so far
pub along_counted : (s : Script) (P : ℕ → Machine → Type 0)
    → ((n : ℕ) (m : Machine) (step : Step) → P n m → legal s m step ≡ true → P (suc n) (next s m step))
    → (h : List Step) (n total : ℕ) (m : Machine) → n + length h ≡ total → P n m → are_legal s m h ≡ true
    → P total (run_steps s m h)
unfolding run_steps are_legal
along_counted s P keeps [] n total m e p h = let same : n ≡ total = omega (arith, e) in subst (λ z. P z m) same p
along_counted s P keeps (step ∷ steps) n total m e p h =
    let all = legal_parts s m step steps h in
    along_counted s P keeps steps (suc n) total (next s m step) (omega (arith, e)) (keeps n m step p all.first) all.rest

pub record Counted (s : Script) (n : ℕ) (m : Machine) : Type 0 where
  pub facts : Facts s m
  pub sizes : HasSizes s n m
  pub room : HasRoom m.events

first_room : (t : Topology) → HasRoom (first_machine t).events
unfolding read
first_room t client = omega arith

pub first_counted : (s : Script) → IsPlainScript s → Counted s 0 (first_machine s.topology)
unfolding read
first_counted s plain = record {
  facts = first_facts s plain;
  sizes = record { places_stand = first_places s; counts_few = λ c. omega arith; latches_few = tt };
  room = first_room s.topology;
}

pub step_counted : (s : Script) → IsPlainScript s → (n : ℕ) (m : Machine) (step : Step) → Counted s n m → legal s m step ≡ true
    → Counted s (suc n) (next s m step)
step_counted s plain n m step C h = record {
  facts = step_facts s m step plain C.facts h;
  sizes = each_step s m (λ step m2. HasSizes s (suc n) m2) (carries_sizes s m n (few_objects s.topology plain.device).crtcs C.sizes) step h;
  room = each_step s m (λ step m2. HasRoom m2.events) (carries_room s m C.facts.holds C.facts.events C.room) step h;
}

-- Limits

pub answered-busy : (d : Doing) → answered d ≤ busy d
answered-busy doing.Idle = omega arith
answered-busy (doing.Taking ticket) = omega arith
answered-busy (doing.MustBackOff ticket object) = omega arith
answered-busy (doing.BackedOff ticket object) = omega arith
answered-busy (doing.Returning k) = omega arith

pub few_commands : (s : Script) (client : ℕ) → AllByRecursion IsFitClient s.clients → has_commands s client ≤ 4096
few_commands s client fit = go (from_one s.clients client) refl
  where
    go : (o : Option (List Command)) → from_one s.clients client ≡ o → length_of o ≤ 4096
    go None e = omega arith
    go (Some commands) e = (all_in IsFitClient s.clients commands (All-from_recursion IsFitClient s.clients fit)
        (from_one-in s.clients client commands e)).few

own_ticket : (s : Script) (m : Machine) → HasLocks s m → m.contexts.tickets ≤ 65536 → (client : ℕ) → ticket_of (doing_at m client) ≤ 65536
own_ticket s m L few client = go (doing_at m client) refl
  where
    below : (d : Doing) → doing_at m client ≡ d → has_context d ≡ true → ticket_of d ≤ 65536
    below d e t =
        let l = L.below client (ap has_context e ∙ t) in
        let same : ticket_of (doing_at m client) ≡ ticket_of d = ap ticket_of e in
        omega (arith, l, few, same)

    go : (d : Doing) → doing_at m client ≡ d → ticket_of d ≤ 65536
    go doing.Idle e = omega arith
    go (doing.Taking ticket) e = below (doing.Taking ticket) e refl
    go (doing.MustBackOff ticket object) e = below (doing.MustBackOff ticket object) e refl
    go (doing.BackedOff ticket object) e = below (doing.BackedOff ticket object) e refl
    go (doing.Returning k) e = omega arith

pub numbers_fit : (s : Script) (h : List Step) → IsWellFormed s → is_history s h ≡ true → NumbersFit s h
numbers_fit s h formed is =
    let plain = plain-from s formed in
    let C = along_counted s (Counted s) (step_counted s plain) h 0 (length h) (first_machine s.topology) (omega arith)
    (first_counted s plain) is in
    let S = C.sizes.places_stand in
    let places = (at s h).contexts.places in
    let bound : (c : ℕ) → begun_at (place_of places c)
    ≤ 4097 = (λ c. let a = S.bound c in let b = few_commands s c formed.clients in omega (arith, a, b)) in
    let begun : all_begun s places ≤ length s.clients * 4097 = sum-most (λ c. begun_at (place_of places c)) 4097 1 (length s.clients) bound
    in
    let ended : all_ended s places ≤ length s.clients * 4097 =
    sum-most (λ c. ended_at (place_of places c)) 4097 1 (length s.clients)
    (λ c. let a = bound c in let b = answered-busy (place_of places c).doing in omega (arith, a, b)) in
    let few = formed.few in
    let tickets : (at s h).contexts.tickets ≤ 65536 = (let a = S.tickets_few in omega (arith, a, begun, few)) in
    record {
      commands = λ client. let a = bound client in omega (arith, a);
      commits = (let a = S.commits_few in omega (arith, a, ended, few));
      tickets = tickets;
      own_tickets = own_ticket s (at s h) C.facts.locks tickets;
      journal = (let a = S.entries_few in omega (arith, a, ended, few));
      replies = (let a = S.replies_few in omega (arith, a, ended, few));
      ids = (let a = S.ids_few in omega (arith, a, ended, few));
      counts = C.sizes.counts_few;
      latches = All-from_recursion (LatchFits s h) (at s h).records.latches
          (latches-fit s h (length h) (at s h).records.latches
          (along_history s (λ d ls. AllByRecursion (LatchIs s.topology (length d.commits)) ls) (latches_kept s) h plain tt is).1 refl
          C.sizes.latches_few);
      events = C.room;
    }
