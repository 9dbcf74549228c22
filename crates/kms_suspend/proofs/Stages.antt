-- A history that goes on with requests of one client, where all other clients are at their ends: each step keeps that so many of them
-- are done, or does one more. The requests want no event, are no tests, may wait, and are accepted.
use Rattle.std.proofs.Common.{◌≡◌, ◌≢◌, ℕ, zero, suc, ◌+◌, ◌<◌, ◌≤◌, true, false, List, ◌∷◌, length, Option, Some, None, inl, inr}
use Rattle.std.proofs.Common.{refl, sym, ap, ◌∙◌, subst, arith}
use Rattle.std.specs.Prelude.{is_some}
use Rattle.std.proofs.lemmas.Bool.{false≢true}
use Rattle.std.proofs.lemmas.Bool.Decides.{eqb_tells}
use Rattle.kms_model.specs.declared.objects.Topology.{Topology}
use Rattle.kms_model.specs.declared.replies.Answered.{Answered}
use Rattle.kms_model.specs.declared.replies.Reply.TheVariants as reply
use Rattle.kms_model.specs.declared.replies.Step.{Step}
use Rattle.kms_model.specs.declared.runs.Doing.TheVariants as doing
use Rattle.kms_model.specs.declared.runs.Place.{Place}
use Rattle.kms_model.specs.declared.scripts.Command.{Command}
use Rattle.kms_model.specs.declared.scripts.Command.TheVariants as command
use Rattle.kms_model.specs.declared.scripts.Request.{Request}
use Rattle.kms_model.specs.declared.scripts.Script.{Script}
use Rattle.kms_model.specs.declared.worlds.World.{World}
use Rattle.kms_model.specs.Device.Execution.{committed}
use Rattle.kms_model.specs.Device.Objects.{object_id}
use Rattle.kms_model.specs.Device.Serial.{Entry, command_of}
use Rattle.kms_model.specs.Machine.Commits.{asks_event, is_cleaned}
use Rattle.kms_model.specs.Machine.Effects.{backed_off, counts_vblank}
use Rattle.kms_model.specs.Machine.Registers.{read}
use Rattle.kms_model.specs.Machine.State.{Commit, Machine, command_at, count_at, doing_at, place_at}
use Rattle.kms_model.specs.Machine.Steps.{is_idle, is_making, is_signal, is_wait, lacks_space, may_refuse, may_test, ticket_of}
use Rattle.kms_model.specs.Request.Flags.{is_nonblock, is_test, wants_event}
use Rattle.kms_model.specs.Request.Sets.{obj_id}
use Rattle.kms_model.specs.Request.Verdict.{verdict}
use Rattle.kms_model.proofs.Guards.{lock_guards, refuse_guards, test_guards}
use Rattle.kms_model.proofs.Guards.IsRefusing.{Busy, Early, Full, Late}
use Rattle.kms_model.proofs.SoundKept.{accepted-parts}
use Rattle.kms_laws.specs.TailsLeft.{commit_of_step}
use Rattle.kms_laws.proofs.Basics.{number_more, read_other, read_same}
use Rattle.kms_laws.proofs.EachStep.{Carries, CarriesAnswers, CarriesLocks, CarriesTails, by_fence, latched_as, swapped_as}
use Rattle.kms_laws.proofs.Ended.{first_place}
use Rattle.kms_laws.proofs.Fitting.{back-busy, contended-busy, idle-busy, returning-busy, taking-busy}
use Rattle.kms_laws.proofs.Sizes.{answered, ended_at}
use Rattle.kms_laws.proofs.Steps.{flushed_at}
use Rattle.kms_model.proofs.Facts.{and_off}

-- a request wants no event, is no test and may wait
pub record IsQuiet (r : Request) : Type 0 where
  pub event : wants_event r.flags ≡ false
  pub test : is_test r.flags ≡ false
  pub waits : is_nonblock r.flags ≡ false

-- it is not refused where it is accepted
not_refused : (t : Topology) (m : Machine) (client : ℕ) (r : Request) → IsQuiet r → verdict t m.device.world r ≡ None
    → may_refuse t m client r ≡ true → ⊥
unfolding lacks_space
not_refused t m client r quiet accepted h =
    let parts = accepted-parts t m.device.world r accepted in
    elim (refuse_guards t m client r h) [
      | Early early ↦ false≢true (sym (ap is_some parts.first_none) ∙ early)
      | Late held late ↦ false≢true (sym (ap is_some parts.second_none) ∙ late)
      | Full held real full ↦ false≢true (sym (and_off (wants_event r.flags) _ quiet.event) ∙ full)
      | Busy held real nonblock pending ↦ false≢true (sym quiet.waits ∙ nonblock)
    ]

no_test : (t : Topology) (m : Machine) (client : ℕ) (r : Request) → IsQuiet r → may_test t m client r ≡ true → ⊥
no_test t m client r quiet h = false≢true (sym quiet.test ∙ (test_guards t m client r h).test)

-- where a client of a machine begins, and what it is to do
module _ (s : Script) (c n k : ℕ) (requests : ℕ → Request) (worlds : ℕ → World) (m0 : Machine) where
  -- commits, entries of the journal and replies once so many requests are done, the newest first
  abbrev pub commits_of : ℕ → List Commit
  commits_of zero = m0.device.commits
  commits_of (suc i) = record { client = c; command = n + 1 + i; request = requests i; world = worlds i } ∷ commits_of i

  abbrev pub journal_of : ℕ → List Entry
  journal_of zero = m0.records.journal
  journal_of (suc i) = record { client = c; command = n + 1 + i } ∷ journal_of i

  abbrev pub replies_of : ℕ → List Answered
  replies_of zero = m0.records.replies
  replies_of (suc i) = record {
    client = c;
    command = n + 1 + i;
    place = length (journal_of i);
    reply = reply.Commit
        (length (commits_of i));
  } ∷ replies_of i

  pub record Given : Type 0 where
    pub there : (i : ℕ) → i < 2 → command_of s (record { client = c; command = n + 1 + i }) ≡ Some (command.Atomic (requests i))
    pub no_more : (i : ℕ) → 2 ≤ i → command_of s (record { client = c; command = n + 1 + i }) ≡ None
    pub quiet : (i : ℕ) → i < 2 → IsQuiet (requests i)
    pub accepted : (i : ℕ) → i < 2 → verdict s.topology (worlds i) (requests i) ≡ None
    pub further : (i : ℕ) → i < 2 → (committed s.topology (worlds i) c (requests i)).world ≡ worlds (suc i)
    pub ended : (d : ℕ) → d ≢ c → command_at s m0 d ≡ None
    pub idle : (d : ℕ) → d ≢ c → is_idle (doing_at m0 d) ≡ true

  -- so many are done
  pub record Stage (i : ℕ) (m : Machine) : Type 0 where
    pub world : m.device.world ≡ worlds i
    pub commits : m.device.commits ≡ commits_of i
    pub journal : m.records.journal ≡ journal_of i
    pub replies : m.records.replies ≡ replies_of i
    pub events : m.events ≡ m0.events
    pub cleaned : (j : ℕ) → j < k → is_cleaned m.device j ≡ true
    pub others : (d : ℕ) → d ≢ c → place_at m d ≡ place_at m0 d
    -- the number of the next command that has no answer
    pub stands : ended_at (place_at m c) ≡ n + 1 + i

  pub record Goes (m : Machine) : Type 0 where
    pub done : ℕ
    pub few : done ≤ 2
    pub stage : Stage done m

  -- the tail of no step delivers an event
  abbrev pub IsSilent : Machine → Step → Type 0
  IsSilent m step = (j : ℕ) → commit_of_step m step ≡ Some j → asks_event s.topology m.device.commits j ≡ false

  -- what is known of a machine that keeps all that a stage speaks of
  record Keeps (m m2 : Machine) : Type 0 where
    world : m2.device.world ≡ m.device.world
    commits : m2.device.commits ≡ m.device.commits
    journal : m2.records.journal ≡ m.records.journal
    replies : m2.records.replies ≡ m.records.replies
    events : m2.events ≡ m.events
    cleaned : (j : ℕ) → is_cleaned m.device j ≡ true → is_cleaned m2.device j ≡ true

  at_places : (m m2 : Machine) → Keeps m m2 → ((d : ℕ) → d ≢ c → place_at m2 d ≡ place_at m d)
      → ended_at (place_at m2 c) ≡ ended_at (place_at m c) → Goes m → Goes m2
  at_places m m2 same others stands g = record {
    done = g.done;
    few = g.few;
    stage = record {
      world = same.world ∙ g.stage.world;
      commits = same.commits ∙ g.stage.commits;
      journal = same.journal ∙ g.stage.journal;
      replies = same.replies ∙ g.stage.replies;
      events = same.events ∙ g.stage.events;
      cleaned = λ j low. same.cleaned j (g.stage.cleaned j low);
      others = λ d apart. others d apart ∙ g.stage.others d apart;
      stands = stands ∙ g.stage.stands;
    };
  }

  module _ (given : Given) (m : Machine) (g : Goes m) where
    -- Other clients are at their ends
    no_command : (d : ℕ) → d ≢ c → command_at s m d ≡ None
    no_command d apart = ap (λ (p : Place). command_of s (record { client = d; command = p.command }))
        (g.stage.others d apart) ∙ given.ended d apart

    no_doing : (d : ℕ) → d ≢ c → is_idle (doing_at m d) ≡ true
    no_doing d apart = ap (λ (p : Place). is_idle p.doing) (g.stage.others d apart) ∙ given.idle d apart

    other_command : (d : ℕ) (q : Command) (X : Type 0) → d ≢ c → command_at s m d ≡ Some q → X
    other_command d q X apart e = let none = no_command d apart in absurd cc

    -- The client's next command
    some_same : {a b : Command} → Some a ≡ Some b → a ≡ b
    some_same e = cc

    own_number : (d : ℕ) → d ≡ c → answered (doing_at m d) ≡ 0 → (place_at m d).command ≡ n + 1 + g.done
    own_number d same none =
        let stands : ended_at (place_at m d) ≡ n + 1 + g.done = subst (λ x. ended_at (place_at m x) ≡ n + 1 + g.done)
        (sym same) g.stage.stands in
        omega (arith, stands, none)

    own_command : (d : ℕ) (q : Command) → d ≡ c → answered (doing_at m d) ≡ 0 → command_at s m d ≡ Some q
        → (g.done < 2) × (command.Atomic (requests g.done) ≡ q)
    own_command d q same none e =
        let number = own_number d same none in
        let at : command_of s (record { client = c; command = n + 1 + g.done }) ≡ Some q = sym
        (λ i. command_of s (record { client = same i; command = number i })) ∙ e in
        elim (eqb_tells g.done 2) [
          | inl all ↦ (let over : None ≡ Some q = sym (given.no_more g.done (omega (arith, all.1))) ∙ at in absurd cc)
          | inr some ↦ (
              let low : g.done < 2 = grind (arith, g.few, some.1) in
              (low, some_same (sym (given.there g.done low) ∙ at)))
        ]

    -- a client, or another one
    by_client : (X : Type 0) (d : ℕ) → (d ≢ c → X) → (d ≡ c → X) → X
    by_client X d other own = elim (eqb_tells d c) [ inl here ↦ own here.1 | inr away ↦ other away.1 ]

    -- the machine with another place of the client
    put : (d : ℕ) (m2 : Machine) (p : Place) → d ≡ c → Keeps m m2 → m2.contexts.places ≡ (d, p) ∷ m.contexts.places
        → ended_at p ≡ ended_at (place_at m d) → Goes m2
    put d m2 p same keeps places stands =
        at_places m m2 keeps
        (λ e apart. ap (λ ps. read first_place ps e) places ∙ read_other first_place m.contexts.places d e p (λ x. apart (sym x ∙ same)))
        (subst (λ x. ended_at (place_at m2 x) ≡ ended_at (place_at m x)) same
        (ap (λ ps. ended_at (read first_place ps d)) places ∙ ap ended_at (read_same first_place m.contexts.places d p) ∙ stands)) g

    here_locks : CarriesLocks s m (λ step m2. Goes m2)
    here_locks = record {
      begins = λ d q e atomic idle. by_client _ d (λ apart. other_command d q _ apart e)
          (λ same. put d _ (record { command = (place_at m d).command; doing = doing.Taking (record { 0 = m.contexts.tickets }) }) same
          (record { world = refl; commits = refl; journal = refl; replies = refl; events = refl; cleaned = λ i is. is }) refl
          (let z = (idle-busy (doing_at m d) idle).1 in omega (arith, z)));
      takes = λ d kind index is_there lock free. at_places m _
          (record { world = refl; commits = refl; journal = refl; replies = refl; events = refl; cleaned = λ i is. is })
          (λ e apart. refl) refl g;
      meets = λ d kind index holder is_there lock held. by_client _ d
          (λ apart. absurd (let idle = (idle-busy (doing_at m d) (no_doing d apart)).0 in
          let at_work = (taking-busy (doing_at m d) (lock_guards s m d (object_id kind index) lock).reaching.taking).0 in
          omega (arith, idle, at_work)))
          (λ same. put d _ (record {
            command = (place_at m d).command;
            doing = doing.MustBackOff (record { 0 = ticket_of (doing_at m d) })
                (obj_id (object_id kind index));
          }) same
          (record { world = refl; commits = refl; journal = refl; replies = refl; events = refl; cleaned = λ i is. is }) refl
          (let z = (taking-busy (doing_at m d) (lock_guards s m d (object_id kind index) lock).reaching.taking).1 in omega (arith, z)));
      backs = λ d back. by_client _ d
          (λ apart. absurd (let idle = (idle-busy (doing_at m d) (no_doing d apart)).0 in
          let at_work = (back-busy (doing_at m d) back).0.0 in omega (arith, idle, at_work)))
          (λ same. put d _ (record { command = (place_at m d).command; doing = backed_off (doing_at m d) }) same
          (record { world = refl; commits = refl; journal = refl; replies = refl; events = refl; cleaned = λ i is. is }) refl
          (let z = back-busy (doing_at m d) back in omega (arith, z.0.1, z.1.1)));
      relocks = λ d object asked free. by_client _ d
          (λ apart. absurd (let idle = (idle-busy (doing_at m d) (no_doing d apart)).0 in
          let at_work = (contended-busy (doing_at m d) object asked).0 in omega (arith, idle, at_work)))
          (λ same. put d _ (record { command = (place_at m d).command; doing = doing.Taking (record { 0 = ticket_of (doing_at m d) }) })
          same (record { world = refl; commits = refl; journal = refl; replies = refl; events = refl; cleaned = λ i is. is }) refl
          (let z = (contended-busy (doing_at m d) object asked).1 in omega (arith, z)));
      returned = λ d j e clean. by_client _ d
          (λ apart. absurd (let idle = (idle-busy (doing_at m d) (no_doing d apart)).0 in
          let at_work = (returning-busy (doing_at m d) j e).0 in omega (arith, idle, at_work)))
          (λ same. put d _ (record { command = (place_at m d).command + 1; doing = doing.Idle }) same
          (record { world = refl; commits = refl; journal = refl; replies = refl; events = refl; cleaned = λ i is. is }) refl
          (let z = (returning-busy (doing_at m d) j e).1 in omega (arith, z)));
    }

    here_answers : CarriesAnswers s m (λ step m2. Goes m2)
    here_answers = record {
      refuses = λ d r e taking may. by_client _ d (λ apart. other_command d (command.Atomic r) _ apart e)
          (λ same. let own = own_command d (command.Atomic r) same (taking-busy (doing_at m d) taking).1 e in
          let is : requests g.done ≡ r = cc own.1 in
          absurd (not_refused s.topology m d r (subst IsQuiet is (given.quiet g.done own.0))
          (subst (λ q. verdict s.topology m.device.world q ≡ None) is
          (ap (λ w. verdict s.topology w (requests g.done)) g.stage.world ∙ given.accepted g.done own.0)) may));
      tests = λ d r e taking may. by_client _ d (λ apart. other_command d (command.Atomic r) _ apart e)
          (λ same. let own = own_command d (command.Atomic r) same (taking-busy (doing_at m d) taking).1 e in
          let is : requests g.done ≡ r = cc own.1 in
          absurd (no_test s.topology m d r (subst IsQuiet is (given.quiet g.done own.0)) may));
      swaps = λ d r e taking may b w eb ew. by_client _ d (λ apart. other_command d (command.Atomic r) _ apart e)
          (λ same. let own = own_command d (command.Atomic r) same (taking-busy (doing_at m d) taking).1 e in
          let is : requests g.done ≡ r = cc own.1 in
          let quiet : IsQuiet r = subst IsQuiet is (given.quiet g.done own.0) in
          subst (λ x. Goes (swapped_as s.topology x w m d r)) (sym quiet.event ∙ eb)
          (subst (λ x. Goes (swapped_as s.topology false x m d r)) (sym quiet.waits ∙ ew)
          (swapped d r same own.0 is (taking-busy (doing_at m d) taking).1)));
      makes = λ d q e making idle b eb. by_client _ d (λ apart. other_command d q _ apart e)
          (λ same. let own = own_command d q same (idle-busy (doing_at m d) idle).1 e in
          absurd (false≢true (ap is_making own.1 ∙ making)));
      signalled = λ d q e is_one idle o. by_client _ d (λ apart. other_command d q _ apart e)
          (λ same. let own = own_command d q same (idle-busy (doing_at m d) idle).1 e in
          absurd (false≢true (ap is_signal own.1 ∙ is_one)));
      read_none = λ d q e is_one idle none. by_client _ d (λ apart. other_command d q _ apart e)
          (λ same. let own = own_command d q same (idle-busy (doing_at m d) idle).1 e in
          absurd (false≢true (ap is_wait own.1 ∙ is_one)));
      read_one = λ d q e is_one idle event events some. by_client _ d (λ apart. other_command d q _ apart e)
          (λ same. let own = own_command d q same (idle-busy (doing_at m d) idle).1 e in
          absurd (false≢true (ap is_wait own.1 ∙ is_one)));
    } where
      -- one more is done
      swapped : (d : ℕ) (r : Request) → d ≡ c → g.done < 2 → requests g.done ≡ r → answered (doing_at m d) ≡ 0
          → Goes (swapped_as s.topology false false m d r)
      swapped d r same low is none =
          let number = own_number d same none in
          record {
            done = suc g.done;
            few = omega (arith, low);
            stage = record {
              world = (λ i. (committed s.topology (g.stage.world i) (same i) (sym is i)).world) ∙ given.further g.done low;
              commits = λ i. record { client = same i; command = number i; request = sym is i; world = g.stage.world i } ∷ g.stage.commits
                  i;
              journal = λ i. record { client = same i; command = number i } ∷ g.stage.journal i;
              replies = λ i. record {
                client = same i;
                command = number i;
                place = length (g.stage.journal i);
                reply = reply.Commit
                    (length (g.stage.commits i));
              } ∷ g.stage.replies i;
              events = g.stage.events;
              cleaned = g.stage.cleaned;
              others = λ e apart. read_other first_place m.contexts.places d e _ (λ x. apart (sym x ∙ same)) ∙ g.stage.others e apart;
              stands = subst (λ x. ended_at (place_at (swapped_as s.topology false false m d r) x) ≡ n + 1 + suc g.done) same
                  (ap ended_at (read_same first_place m.contexts.places d _) ∙ (omega (arith, number)));
            };
          }

    -- Tails
    tail_keeps : (m2 : Machine) → Keeps m m2 → m2.contexts ≡ m.contexts → Goes m2
    tail_keeps m2 keeps same =
        at_places m m2 keeps (λ d apart. ap (λ (x : Machine). place_at x d) (ap (λ contexts. record m { contexts = contexts }) same))
        (ap (λ (x : Machine). ended_at (place_at x c)) (ap (λ contexts. record m { contexts = contexts }) same)) g

    latched_keeps : (n2 : Machine) (j crtc count : ℕ) → Keeps m n2 → n2.contexts ≡ m.contexts → (o : Option ℕ)
        → Goes (latched_as s.topology false o n2 j crtc count)
    latched_keeps n2 j crtc count keeps same =
        by_fence (λ o. Goes (latched_as s.topology false o n2 j crtc count))
        (tail_keeps _ (record {
          world = keeps.world;
          commits = keeps.commits;
          journal = keeps.journal;
          replies = keeps.replies;
          events = keeps.events;
          cleaned = keeps.cleaned;
        }) same)
        (λ fence. tail_keeps _ (record {
          world = keeps.world;
          commits = keeps.commits;
          journal = keeps.journal;
          replies = keeps.replies;
          events = keeps.events;
          cleaned = keeps.cleaned;
        }) same)

    here_tails : CarriesTails s m (λ step m2. IsSilent m step → Goes m2)
    here_tails = record {
      claimed = λ j h silent. tail_keeps _
          (record { world = refl; commits = refl; journal = refl; replies = refl; events = refl; cleaned = λ i is. is }) refl;
      written = λ j kind index found silent. tail_keeps _
          (record { world = refl; commits = refl; journal = refl; replies = refl; events = refl; cleaned = λ i is. is }) refl;
      waits = λ j kind index written found silent. tail_keeps _
          (record { world = refl; commits = refl; journal = refl; replies = refl; events = refl; cleaned = λ i is. is }) refl;
      flushed = λ j kind index written found b o eb eo silent.
          let object = object_id kind index in
          subst (λ x. Goes (latched_as s.topology x o (flushed_at m j object) j object (count_at m.device object)))
          (sym (silent j refl) ∙ eb)
          (latched_keeps (flushed_at m j object) j object (count_at m.device object)
          (record { world = refl; commits = refl; journal = refl; replies = refl; events = refl; cleaned = λ i is. is }) refl o);
      done = λ j a b c d silent. tail_keeps _
          (record { world = refl; commits = refl; journal = refl; replies = refl; events = refl; cleaned = λ i is. is }) refl;
      counted = λ kind index is none silent. tail_keeps _
          (record { world = refl; commits = refl; journal = refl; replies = refl; events = refl; cleaned = λ i is. is }) refl;
      blanked = λ kind index j is some b o eb eo silent.
          let object = object_id kind index in
          subst (λ x. Goes (latched_as s.topology x o (counts_vblank m object) j object (count_at m.device object + 1)))
          (sym (silent j some) ∙ eb)
          (latched_keeps (counts_vblank m object) j object (count_at m.device object + 1)
          (record { world = refl; commits = refl; journal = refl; replies = refl; events = refl; cleaned = λ i is. is }) refl o);
      cleaned = λ j a b d silent. tail_keeps _
          (record {
            world = refl;
            commits = refl;
            journal = refl;
            replies = refl;
            events = refl;
            cleaned = λ i is. number_more j m.device.marks.cleaned i is;
          }) refl;
    }

    -- each step that delivers no event
    pub goes_on : Carries s m (λ step m2. IsSilent m step → Goes m2)
    goes_on = record {
      locks = record {
        begins = λ d q e atomic idle silent. here_locks.begins d q e atomic idle;
        takes = λ d kind index is_there lock free silent. here_locks.takes d kind index is_there lock free;
        meets = λ d kind index holder is_there lock held silent. here_locks.meets d kind index holder is_there lock held;
        backs = λ d back silent. here_locks.backs d back;
        relocks = λ d object asked free silent. here_locks.relocks d object asked free;
        returned = λ d j e clean silent. here_locks.returned d j e clean;
      };
      answers = record {
        refuses = λ d r e taking may silent. here_answers.refuses d r e taking may;
        tests = λ d r e taking may silent. here_answers.tests d r e taking may;
        swaps = λ d r e taking may b w eb ew silent. here_answers.swaps d r e taking may b w eb ew;
        makes = λ d q e making idle b eb silent. here_answers.makes d q e making idle b eb;
        signalled = λ d q e is_one idle o silent. here_answers.signalled d q e is_one idle o;
        read_none = λ d q e is_one idle none silent. here_answers.read_none d q e is_one idle none;
        read_one = λ d q e is_one idle event events some silent. here_answers.read_one d q e is_one idle event events some;
      };
      tails = here_tails;
      stalled = λ h silent. tail_keeps _
          (record { world = refl; commits = refl; journal = refl; replies = refl; events = refl; cleaned = λ i is. is }) refl;
    }
