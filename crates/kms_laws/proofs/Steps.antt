-- Each step of a history keeps what holds of the machine.
use Rattle.std.proofs.Common.{◌≡◌, ℕ, ◌+◌, List, [], ◌∷◌, ◌++◌, length, Bool, true, false, not, ◌||◌, Option, Some, None}
use Rattle.std.proofs.Common.{refl, sym, ap, ◌∙◌, subst, arith, length-append}
use Rattle.std.specs.Prelude.{if◌then◌else◌, is_some, reverse}
use Rattle.std.specs.List.{AllByRecursion}
use Rattle.std.proofs.lemmas.Bool.{and_parts, false_from_ne_true, false≢true}
use Rattle.std.proofs.lemmas.List.{length-reverse, take-append-le, take_all}
use Rattle.kms_model.specs.declared.objects.Kind.TheVariants.{Crtc}
use Rattle.kms_model.specs.declared.objects.Topology.{Topology}
use Rattle.kms_model.specs.declared.replies.Answered.{Answered}
use Rattle.kms_model.specs.declared.replies.Event.{Event}
use Rattle.kms_model.specs.declared.replies.Reply.{Reply}
use Rattle.kms_model.specs.declared.replies.Reply.TheVariants as reply
use Rattle.kms_model.specs.declared.replies.Step.{Step}
use Rattle.kms_model.specs.declared.replies.Step.TheVariants.{Begin, Lock, BackOff, Relock, Refuse, Test, Swap, Make, Signal, Claim, Write}
use Rattle.kms_model.specs.declared.replies.Step.TheVariants.{Flush, HwDone, Vblank, Cleanup, Read, Return, Stall}
use Rattle.kms_model.specs.declared.runs.Doing.TheVariants as doing
use Rattle.kms_model.specs.declared.runs.Latch.{Latch}
use Rattle.kms_model.specs.declared.scripts.Command.{Command}
use Rattle.kms_model.specs.declared.scripts.Command.TheVariants as command
use Rattle.kms_model.specs.declared.scripts.Request.{Request}
use Rattle.kms_model.specs.declared.scripts.Script.{Script}
use Rattle.kms_model.specs.declared.worlds.World.{World}
use Rattle.kms_model.specs.Device.Execution.{committed, execute}
use Rattle.kms_model.specs.Device.Objects.{ids_of, index_of, object_id}
use Rattle.kms_model.specs.Device.Serial.{Entry, command_of, is_accepted, serial}
use Rattle.kms_model.specs.Device.Sound.{IsDevice}
use Rattle.kms_model.specs.Headline.{IsVerdict, StandsAtPlace, entry_answered}
use Rattle.kms_model.specs.Machine.Commits.{asks_event, commit_names, commit_touches, has_latched, has_number, has_pair, is_all_latched}
use Rattle.kms_model.specs.Machine.Commits.{is_all_written, lockable, new_crtc, out_fence_of, previous, registered}
use Rattle.kms_model.specs.Machine.Effects.{answers, blanks, busy_reply, claims, counts_vblank, decided, delivers, drops_locks}
use Rattle.kms_model.specs.Machine.Effects.{fence_signalled, flushes, goes_on, joins_if, joins_journal, latches, latches_picture, locked}
use Rattle.kms_model.specs.Machine.Effects.{made_thing, next, now_doing, reads, refusal_reply, refused, relocked, sets_up, signalled_by}
use Rattle.kms_model.specs.Machine.Effects.{signals, swapped_state, writes, written_registers}
use Rattle.kms_model.specs.Machine.Histories.{are_legal, at, is_history, legal, run_steps}
use Rattle.kms_model.specs.Machine.Registers.{Registers, decoded_picture, latched_registers, read}
use Rattle.kms_model.specs.Machine.State.{Commit, Machine, Marks, command_at, count_at, doing_at, entry_at, first_machine, go_at}
use Rattle.kms_model.specs.Machine.State.{holder_at, place_at, request_at, request_in, reserved_at, unread_at}
use Rattle.kms_model.specs.Machine.Steps.{contended, first_pending, idle_at, is_atomic}
use Rattle.kms_model.specs.Machine.Steps.{is_making, is_settled_for, is_signal, is_wait, lacks_space, may, may_refuse, may_swap}
use Rattle.kms_model.specs.Machine.Steps.{may_test, space_used, taking_at}
use Rattle.kms_model.specs.Request.Flags.{is_nonblock, is_test, wants_event}
use Rattle.kms_model.specs.Request.Verdict.{verdict}
use Rattle.kms_model.proofs.Guards.{Guards, IsClaiming, IsIdleAt, IsTakingAt, IsWrite, idle_guards, legal_guards, legal_parts}
use Rattle.kms_model.proofs.Guards.{making_guards, refuse_guards, swap_guards, taking_guards, test_guards}
use Rattle.kms_model.proofs.Guards.IsRefusing.{Busy, Early, Full, Late}
use Rattle.kms_model.proofs.Items.{IsIn, list_all-at}
use Rattle.kms_model.proofs.SoundKept.{accepted-parts}
use Rattle.kms_model.proofs.TouchedLemmas.{IsRequestAt}
use Rattle.kms_model.proofs.Facts.{implied}
pub use Rattle.kms_model.proofs.Facts.{none-is, value-is}
pub use Rattle.kms_model.proofs.Guards.{IsFlush, flush-found}
use Rattle.kms_laws.proofs.Basics.{both_bools, pair_now, read_same}
use Rattle.kms_laws.proofs.Executed.{KeepsModes}
use Rattle.kms_laws.proofs.Invariants.{Tail}
use Rattle.kms_laws.proofs.Latching.{latches_commit}
use Rattle.kms_laws.proofs.Objects.{crtc_index}
use Rattle.kms_laws.proofs.Present.{Present, commits_more, denied_present, made_present, reverse_more, swap_present}
use Rattle.kms_laws.proofs.Start.{start_present, start_tail}
use Rattle.kms_laws.proofs.Swapped.{swap_tail}
use Rattle.kms_laws.proofs.Written.{other-crtc, other-plane, written-crtc, written-plane}
use Rattle.kms_laws.proofs.Tails.{claim_kept, cleanup_kept, flushed_kept, go_cleared, go_kept, hw_done_kept, latch_kept, write_kept}
use Rattle.kms_model.specs.Request.Named.{named}

-- a script of a device, whose commands' modes are kept by words
pub record IsPlainScript (s : Script) : Type 0 where
  pub device : IsDevice s.topology
  pub modes : (e : Entry) (c : Command) → command_of s e ≡ Some c → KeepsModes c

pub record Inv (s : Script) (w : World) (cs : List Commit) (ms : Marks) (sh : Registers) (go : List (ℕ × Option ℕ)) (ls : List Latch)
    (journal : List Entry) (answered : List Answered) : Type 0 where
  pub tail : Tail s.topology cs ms sh go ls
  pub present : Present s w journal cs
  pub replies : AllByRecursion (StandsAtPlace s (reverse journal)) answered

abbrev pub Holds : Script → Machine → Type 0
Holds s m = Inv s m.device.world m.device.commits m.device.marks m.device.shadow m.device.go m.records.latches m.records.journal
    m.records.replies

-- Replies

stands_longer : (s : Script) (journal : List Entry) (e : Entry) (a : Answered) → StandsAtPlace s (reverse journal) a
    → StandsAtPlace s (reverse (e ∷ journal)) a
stands_longer s journal e a stands =
    let longer : reverse (e ∷ journal) ≡ reverse journal ++ e ∷ [] = reverse_more e journal in
    subst (λ entries. StandsAtPlace s entries a) (sym longer)
    (record {
      place = (let l = stands.place in let n = length-append (reverse journal) (e ∷ []) in omega (arith, l, n));
      is_verdict = subst (λ entries. IsVerdict s (serial s entries) a.reply (command_of s (entry_answered a)))
          (sym (take-append-le a.place (reverse journal) (e ∷ []) stands.place)) stands.is_verdict;
    })

all_longer : (s : Script) (journal : List Entry) (e : Entry) (answered : List Answered)
    → AllByRecursion (StandsAtPlace s (reverse journal)) answered → AllByRecursion (StandsAtPlace s (reverse (e ∷ journal))) answered
all_longer s journal e [] all = tt
all_longer s journal e (a ∷ answered) all = (stands_longer s journal e a all.0, all_longer s journal e answered all.1)

-- a reply at the place of all accepted commands so far
stands_now : (s : Script) (w : World) (journal : List Entry) (a : Answered) → serial s (reverse journal) ≡ w → a.place ≡ length journal
    → IsVerdict s w a.reply (command_of s (entry_answered a)) → StandsAtPlace s (reverse journal) a
stands_now s w journal a is_serial place is =
    let long : length (reverse journal) ≡ a.place = length-reverse journal ∙ sym place in
    record {
      place = omega (arith, long);
      is_verdict = subst (λ v. IsVerdict s v a.reply (command_of s (entry_answered a)))
          (sym is_serial ∙ ap (serial s) (sym (take_all a.place (reverse journal) (omega (arith, long))))) is;
    }

answers_kept : (s : Script) (m : Machine) (client : ℕ) (r : Reply) → Holds s m → IsVerdict s m.device.world r (command_at s m client)
    → Holds s (answers m client r)
answers_kept s m client r H is = record {
  tail = H.tail;
  present = H.present;
  replies = (stands_now s m.device.world m.records.journal _ H.present.is_serial refl is, H.replies);
}

decided_kept : (s : Script) (m : Machine) (client : ℕ) (r : Reply) → Holds s m → IsVerdict s m.device.world r (command_at s m client)
    → Holds s (decided m client r)
decided_kept s m client r H is = answers_kept s m client r H is

-- Requests at which clients stand

pub request-is : (o : Option Command) (r : Request) → request_in o ≡ Some r → o ≡ Some (command.Atomic r)
request-is (Some (command.Atomic q)) r e = (let same : q ≡ r = cc in ap (λ z. Some (command.Atomic z)) same)
request-is None r e = absurd cc
request-is (Some (command.Buffer label width height format pattern)) r e = absurd cc
request-is (Some (command.AddFb label buffer)) r e = absurd cc
request-is (Some (command.Mode label m)) r e = absurd cc
request-is (Some (command.Blob label bytes)) r e = absurd cc
request-is (Some (command.Destroy label)) r e = absurd cc
request-is (Some (command.CloseFb label)) r e = absurd cc
request-is (Some (command.Fence label)) r e = absurd cc
request-is (Some (command.Signal label)) r e = absurd cc
request-is (Some command.Wait) r e = absurd cc

pub taking-none : (s : Script) (m : Machine) (client : ℕ) (test : Request → Bool) → request_at s m client ≡ None → taking_at s m client test
    ≡ true → ⊥
taking-none s m client test none h = let one = sym none ∙ (taking_guards s m client test h).stands in absurd cc

pub idle-none : (s : Script) (m : Machine) (client : ℕ) (test : Command → Bool) → command_at s m client ≡ None → idle_at s m client test
    ≡ true → ⊥
idle-none s m client test none h = let one = sym none ∙ (idle_guards s m client test h).stands in absurd cc

-- Verdicts

pub not_atomic : (c : Command) → is_making c ≡ true → is_atomic c ≡ false
not_atomic c h = (making_guards c h).no_atomic

pub signal-other : (c : Command) → is_signal c ≡ true → is_atomic c ≡ false
signal-other (command.Signal label) h = refl
signal-other (command.Atomic r) h = absurd (false≢true h)
signal-other _ h = absurd (false≢true h)

pub wait-other : (c : Command) → is_wait c ≡ true → is_atomic c ≡ false
wait-other command.Wait h = refl
wait-other (command.Atomic r) h = absurd (false≢true h)
wait-other _ h = absurd (false≢true h)

other_verdict : (s : Script) (w : World) (r : Reply) (c : Command) → is_atomic c ≡ false → IsVerdict s w r (Some c)
other_verdict s w r (command.Atomic q) other = absurd (false≢true (sym other))
other_verdict s w r _ other = tt

other_verdict_at : (s : Script) (m : Machine) (client : ℕ) (r : Reply) (c : Command) → command_at s m client ≡ Some c → is_atomic c ≡ false
    → IsVerdict s m.device.world r (command_at s m client)
other_verdict_at s m client r c is other = subst (IsVerdict s m.device.world r) (sym is) (other_verdict s m.device.world r c other)

-- an accepted request that is refused while there is space is busy
busy_for : (t : Topology) (m : Machine) (client : ℕ) (r : Request) → may_refuse t m client r ≡ true → verdict t m.device.world r ≡ None
    → lacks_space t m client r ≡ false → is_some (first_pending t m r) ≡ true
busy_for t m client r h none space =
    let parts = accepted-parts t m.device.world r none in
    elim (refuse_guards t m client r h) [
      | Early early ↦ absurd (both_bools _ early (ap is_some parts.first_none))
      | Late held late ↦ absurd (both_bools _ late (ap is_some parts.second_none))
      | Full held no_test full ↦ absurd (both_bools _ full space)
      | Busy held no_test nonblock pending ↦ pending
    ]

refusal_verdict : (s : Script) (m : Machine) (client : ℕ) (r : Request) → may_refuse s.topology m client r ≡ true
    → IsVerdict s m.device.world (refusal_reply s.topology m client r (verdict s.topology m.device.world r)) (Some (command.Atomic r))
refusal_verdict s m client r h = with_verdict (verdict s.topology m.device.world r) refl
  where
    busy : (o : Option ℕ) → is_some o ≡ true → verdict s.topology m.device.world r ≡ None
        → IsVerdict s m.device.world (busy_reply s.topology m o) (Some (command.Atomic r))
    busy None some e = absurd (false≢true some)
    busy (Some object) some e = e

    without : (b : Bool) → lacks_space s.topology m client r ≡ b → verdict s.topology m.device.world r ≡ None
        → IsVerdict s m.device.world (if b then reply.Space (space_used m.events client)
        else busy_reply s.topology m (first_pending s.topology m r)) (Some (command.Atomic r))
    without true space e = e
    without false space e = busy (first_pending s.topology m r) (busy_for s.topology m client r h e space) e

    with_verdict : (o : Option ℕ) → verdict s.topology m.device.world r ≡ o
        → IsVerdict s m.device.world (refusal_reply s.topology m client r o) (Some (command.Atomic r))
    with_verdict (Some n) e = e
    with_verdict None e = without (lacks_space s.topology m client r) refl e

refuse_kept : (s : Script) (m : Machine) (client : ℕ) → Holds s m → IsTakingAt s m client (may_refuse s.topology m client)
    → Holds s (refused s.topology m client (request_at s m client))
unfolding refused
refuse_kept s m client H g =
    let answer : Reply = refusal_reply s.topology m client g.request (verdict s.topology m.device.world g.request) in
    subst (λ o. Holds s (refused s.topology m client o)) (sym g.stands) (decided_kept s m client answer H
    (subst (IsVerdict s m.device.world answer) (sym (request-is (command_at s m client) g.request g.stands))
    (refusal_verdict s m client g.request g.passes)))

test_kept : (s : Script) (m : Machine) (client : ℕ) → Holds s m → IsTakingAt s m client (may_test s.topology m client)
    → Holds s (decided m client reply.Tested)
test_kept s m client H g =
    decided_kept s m client reply.Tested H
    (subst (IsVerdict s m.device.world reply.Tested) (sym (request-is (command_at s m client) g.request g.stands))
    (test_guards s.topology m client g.request g.passes).accepted)

-- Things made and closed

make_kept : (s : Script) (m : Machine) (client : ℕ) → IsPlainScript s → Holds s m → IsIdleAt s m client is_making
    → Holds s (made_thing s.topology m client (command_at s m client))
unfolding made_thing
make_kept s m client plain H g = subst (λ o. Holds s (made_thing s.topology m client o)) (sym g.stands)
    (with_reply g.command g.stands (making_guards g.command g.passes).no_atomic
    (is_accepted (execute s.topology m.device.world client g.command).reply) refl)
  where
    with_reply : (c : Command) → command_at s m client ≡ Some c → is_atomic c ≡ false → (b : Bool)
        → is_accepted (execute s.topology m.device.world client c).reply ≡ b
        → Holds s (goes_on (record (joins_if b (answers m client (execute s.topology m.device.world client c).reply) client) {
          device = record (joins_if b (answers m client (execute s.topology m.device.world client c).reply) client).device
              { world = (execute s.topology m.device.world client c).world };
        }) client)
    with_reply c is other true e =
        let A = answers_kept s m client (execute s.topology m.device.world client c).reply H
        (other_verdict_at s m client (execute s.topology m.device.world client c).reply c is other) in
        record {
          tail = H.tail;
          present = made_present s m.device.world m.records.journal m.device.commits (entry_at m client) c H.present is
              (plain.modes (entry_at m client) c is) other;
          replies = all_longer s m.records.journal (entry_at m client)
              (answers m client (execute s.topology m.device.world client c).reply).records.replies A.replies;
        }
    with_reply c is other false e =
        let A = answers_kept s m client (execute s.topology m.device.world client c).reply H
        (other_verdict_at s m client (execute s.topology m.device.world client c).reply c is other) in
        record {
          tail = H.tail;
          present = denied_present s m.device.world m.records.journal m.device.commits client c H.present other e;
          replies = A.replies;
        }

signals_kept : (s : Script) (m : Machine) (o : Option ℕ) → Holds s m → Holds s (signals m o)
signals_kept s m None H = H
signals_kept s m (Some fence) H = H

fence_kept : (s : Script) (m : Machine) (o : Option Command) (r : Reply) → Holds s m → Holds s (fence_signalled m o r)
fence_kept s m (Some (command.Signal label)) reply.Done H = signals_kept s m _ H
fence_kept s m _ _ H = H

signal_kept : (s : Script) (m : Machine) (client : ℕ) → Holds s m → IsIdleAt s m client is_signal
    → Holds s (signalled_by s.topology m client (command_at s m client))
signal_kept s m client H g =
    let answer : Reply = (execute s.topology m.device.world client g.command).reply in
    subst (λ o. Holds s (signalled_by s.topology m client o)) (sym g.stands)
    (fence_kept s (answers m client answer) (Some g.command) answer
    (answers_kept s m client answer H (other_verdict_at s m client answer g.command g.stands (signal-other g.command g.passes))))

read_kept : (s : Script) (m : Machine) (client : ℕ) (events : List Event) → Holds s m → IsIdleAt s m client is_wait
    → Holds s (reads m client events)
read_kept s m client [] H g = answers_kept s m client reply.NoEvent H
    (other_verdict_at s m client reply.NoEvent g.command g.stands (wait-other g.command g.passes))
read_kept s m client (event ∷ events) H g = answers_kept s m client (reply.Event event) H
    (other_verdict_at s m client (reply.Event event) g.command g.stands (wait-other g.command g.passes))

-- A swap

swap_kept : (s : Script) (m : Machine) (client : ℕ) → IsPlainScript s → Holds s m
    → IsTakingAt s m client (may_swap s.topology m client) → Holds s (swapped_state s.topology m client (request_at s m client))
unfolding swapped_state
swap_kept s m client plain H g =
    let swap = swap_guards s.topology m client g.request g.passes in
    subst (λ o. Holds s (swapped_state s.topology m client o)) (sym g.stands)
    (swapped g.request (request-is (command_at s m client) g.request g.stands) swap.no_test swap.accepted)
  where
    swapped : (r : Request) → command_at s m client ≡ Some (command.Atomic r) → is_test r.flags ≡ false
        → verdict s.topology m.device.world r ≡ None → Holds s (swapped_state s.topology m client (Some r))
    swapped r is no_test none = with_flags (wants_event r.flags) (is_nonblock r.flags)
      where
        x : Commit
        x = record { client = client; command = (place_at m client).command; request = r; world = m.device.world }

        answered : Machine
        answered = joins_journal (answers m client (reply.Commit (length m.device.commits))) client

        moved : Bool → Machine
        moved b = drops_locks (sets_up s.topology (if b
            then record answered {
              events = record answered.events {
                reserved = (client, reserved_at answered.events client + length (named s.topology answered.device.world r))
                    ∷ answered.events.reserved;
              };
            } else answered) client r) client

        now : Inv s (committed s.topology m.device.world client r).world (x ∷ m.device.commits) m.device.marks m.device.shadow m.device.go
            m.records.latches (entry_at m client ∷ m.records.journal) answered.records.replies
        now =
            let e = (accepted-parts s.topology m.device.world r none).first_none in
            let at : IsRequestAt s.topology m.device.world r =
            record { device = plain.device; sound = H.present.lawful.sound; early = e } in
            let A = answers_kept s m client (reply.Commit (length m.device.commits)) H
            (subst (IsVerdict s m.device.world (reply.Commit (length m.device.commits))) (sym is) (none, sym H.present.count)) in
            record {
              tail = swap_tail H.tail x (commits_more s.topology x m.device.commits at H.present.states H.tail.commits);
              present = swap_present s x m.records.journal m.device.commits (entry_at m client) H.present is none no_test;
              replies = all_longer s m.records.journal (entry_at m client) answered.records.replies A.replies;
            }

        with_flags : (b n : Bool) → Holds s (if n then goes_on (moved b) client
            else now_doing (moved b) client (doing.Returning (length m.device.commits)))
        with_flags true true = now
        with_flags true false = now
        with_flags false true = now
        with_flags false false = now

-- Tails

module _ (s : Script) (m : Machine) (H : Holds s m) where
  claim_step : (k : ℕ) → IsClaiming s.topology m k → Holds s (claims m k)
  unfolding previous
  claim_step k g = record {
    tail = claim_kept H.tail k g.within
        (λ o i touch. implied (commit_touches s.topology m.device.commits k o) (is_settled_for s.topology m k o)
        (list_all-at (λ object. not (commit_touches s.topology m.device.commits k object) || is_settled_for s.topology m k object)
        (lockable s.topology) o g.settled i) touch);
    present = H.present;
    replies = H.replies;
  }

  write_step : (k o : ℕ) → IsWrite s.topology m.device k o → Holds s (writes s.topology m k o)
  write_step k o W =
      let t = s.topology in
      let d = m.device in
      record {
        tail = write_kept H.tail k o W.claimed W.is_registered W.touches W.fresh (written_registers t d k o)
            (λ p ip same. written-plane t d k o p ip same) (λ p ip ne. other-plane t d k o p ne)
            (λ c ic same. written-crtc t d k o c H.tail.few ic same) (λ c ic ne. other-crtc t d k o c ne);
        present = H.present;
        replies = H.replies;
      }

  all_written : (k : ℕ) → is_all_written s.topology m.device k ≡ true → (q : ℕ) → IsIn q (registered s.topology)
      → commit_touches s.topology m.device.commits k q ≡ true → has_pair m.device.marks.written k q ≡ true
  unfolding is_all_written
  all_written k h q i touch =
      implied (commit_touches s.topology m.device.commits k q) (has_pair m.device.marks.written k q)
      (list_all-at (λ object. not (commit_touches s.topology m.device.commits k object) || has_pair m.device.marks.written k object)
      (registered s.topology) q h i) touch

  all_latched : (k : ℕ) → is_all_latched s.topology m.device m.records.latches k ≡ true → (c : ℕ) → IsIn c (ids_of s.topology Crtc)
      → commit_names s.topology m.device.commits k c ≡ true → has_latched m.records.latches k c ≡ true
  unfolding is_all_latched
  all_latched k h c i named =
      implied (commit_names s.topology m.device.commits k c) (has_latched m.records.latches k c)
      (list_all-at (λ crtc. not (commit_names s.topology m.device.commits k crtc) || has_latched m.records.latches k crtc)
      (ids_of s.topology Crtc) c h i) named

  hw_done_step : (k : ℕ) → has_number m.device.marks.claimed k ≡ true → is_all_written s.topology m.device k ≡ true
      → Inv s m.device.world m.device.commits (record m.device.marks { done = k ∷ m.device.marks.done }) m.device.shadow m.device.go
      m.records.latches m.records.journal m.records.replies
  hw_done_step k claimed written = record {
    tail = hw_done_kept H.tail k claimed (all_written k written);
    present = H.present;
    replies =
        H.replies;
  }

  cleanup_step : (k : ℕ) → has_number m.device.marks.done k ≡ true → is_all_latched s.topology m.device m.records.latches k ≡ true
      → Inv s m.device.world m.device.commits (record m.device.marks { cleaned = k ∷ m.device.marks.cleaned }) m.device.shadow m.device.go
      m.records.latches m.records.journal m.records.replies
  cleanup_step k done latched = record {
    tail = cleanup_kept H.tail k done (all_latched k latched);
    present = H.present;
    replies = H.replies;
  }

  -- a commit that is flushed and waits at no vblank latches
  latch_step : (k c count : ℕ) → IsIn c (ids_of s.topology Crtc) → has_pair m.device.marks.flushed k c ≡ true
      → has_latched m.records.latches k c ≡ false → (read None m.device.go c ≡ Some k → ⊥) → Holds s (latches s.topology m k c count)
  unfolding latches
  latch_step k c count i F un waits = signals_kept s _ (out_fence_of s.topology m.device.commits k c)
      (with_event (asks_event s.topology m.device.commits k))
    where
      latched : Holds s (latches_picture s.topology m k c count)
      latched = record {
        tail = latch_kept H.tail k c (record {
          crtc = index_of c;
          commit = k;
          count = count;
          picture = decoded_picture s.topology
              (latched_registers s.topology m.device.shadow m.device.live c) c;
        }) i F un
            refl (crtc_index s.topology c H.tail.few i) (latches_commit H.tail m.device.live k c i F un) waits;
        present = H.present;
        replies = H.replies;
      }

      with_event : (b : Bool) → Holds s (if b then delivers s.topology (latches_picture s.topology m k c count) k c count
          else latches_picture s.topology m k c count)
      with_event true = latched
      with_event false = latched

-- the machine after a commit is flushed at a CRTC, before it waits there or latches
abbrev pub flushed_at : Machine → ℕ → ℕ → Machine
flushed_at m k c = record m { device = record m.device { marks = record m.device.marks { flushed = (k, c) ∷ m.device.marks.flushed } } }

module _ (s : Script) (m : Machine) (H : Holds s m) where
  pub flushed_holds : (k c : ℕ) → is_all_written s.topology m.device k ≡ true → IsFlush s.topology m k c → Holds s (flushed_at m k c)
  flushed_holds k c written f = record {
    tail = flushed_kept H.tail k c f.is_crtc (all_written s m H k written) f.names;
    present =
        H.present;
    replies = H.replies;
  }

  pub fresh-unlatched : (k c : ℕ) → IsFlush s.topology m k c → has_latched m.records.latches k c ≡ false
  fresh-unlatched k c f = false_from_ne_true (has_latched m.records.latches k c) (λ y. both_bools _ (H.tail.marks.latched k c y) f.fresh)

  flush_step : (k c : ℕ) → is_all_written s.topology m.device k ≡ true → IsFlush s.topology m k c → Holds s (flushes s.topology m k c)
  flush_step k c written f = by_active (new_crtc s.topology m.device.commits k c).active
    where
      now : Holds s (flushed_at m k c)
      now = flushed_holds k c written f

      by_active : (b : Bool) → Holds s (if b then record (flushed_at m k c)
          { device = record (flushed_at m k c).device { go = (c, Some k) ∷ (flushed_at m k c).device.go } }
          else latches s.topology (flushed_at m k c) k c (count_at m.device c))
      by_active true = record {
        tail = go_kept now.tail k c (pair_now k c m.device.marks.flushed) (fresh-unlatched k c f);
        present =
            now.present;
        replies = now.replies;
      }
      by_active false =
          latch_step s (flushed_at m k c) now k c (count_at m.device c) f.is_crtc (pair_now k c m.device.marks.flushed)
          (fresh-unlatched k c f)
          (λ is. both_bools _ (H.tail.marks.go_is k c is).flushed f.fresh)

  pub counted_holds : (c : ℕ) → Holds s (counts_vblank m c)
  counted_holds c = record { tail = go_cleared H.tail c; present = H.present; replies = H.replies }

  vblank_step : (c : ℕ) → IsIn c (ids_of s.topology Crtc) → Holds s (blanks s.topology m c (go_at m.device c))
  vblank_step c i = go (go_at m.device c) refl
    where
      go : (o : Option ℕ) → go_at m.device c ≡ o → Holds s (blanks s.topology m c o)
      go None e = counted_holds c
      go (Some k) e =
          let pending = H.tail.marks.go_is k c e in
          latch_step s (counts_vblank m c) (counted_holds c) k c (count_at m.device c + 1) i pending.flushed pending.unlatched
          (λ is. let none : None ≡ Some k = sym (read_same None m.device.go c None) ∙ is in absurd cc)

-- Steps

locked_kept : (s : Script) (m : Machine) (client object : ℕ) (o : Option ℕ) → Holds s m → Holds s (locked m client object o)
locked_kept s m client object None H = H
locked_kept s m client object (Some holder) H = H

relocked_kept : (s : Script) (m : Machine) (client : ℕ) (o : Option ℕ) → Holds s m → Holds s (relocked m client o)
relocked_kept s m client None H = H
relocked_kept s m client (Some object) H = H

guarded_kept : (s : Script) (m : Machine) (step : Step) → IsPlainScript s → Holds s m → Guards s m step → Holds s (next s m step)
unfolding next
guarded_kept s m (Begin client) plain H g = H
guarded_kept s m (Lock client kind index) plain H g = locked_kept s m client (object_id kind index) (holder_at m (object_id kind index)) H
guarded_kept s m (BackOff client) plain H g = H
guarded_kept s m (Relock client) plain H g = relocked_kept s m client (contended (doing_at m client)) H
guarded_kept s m (Refuse client) plain H g = refuse_kept s m client H g
guarded_kept s m (Test client) plain H g = test_kept s m client H g
guarded_kept s m (Swap client) plain H g = swap_kept s m client plain H g
guarded_kept s m (Make client) plain H g = make_kept s m client plain H g
guarded_kept s m (Signal client) plain H g = signal_kept s m client H g
guarded_kept s m (Claim k) plain H g = claim_step s m H k g
guarded_kept s m (Write k kind index) plain H g = write_step s m H k (object_id kind index) g.write
guarded_kept s m (Flush k kind index) plain H g = flush_step s m H k (object_id kind index) g.written g.flush
guarded_kept s m (HwDone k) plain H g = hw_done_step s m H k g.claimed g.written
guarded_kept s m (Vblank kind index) plain H g = vblank_step s m H (object_id kind index) g.is_crtc
guarded_kept s m (Cleanup k) plain H g = cleanup_step s m H k g.done g.latched
guarded_kept s m (Read client) plain H g = read_kept s m client (unread_at m.events client) H g.waits
guarded_kept s m (Return client) plain H g = H
guarded_kept s m Stall plain H g = H

-- a step that is legal is the end of a dead history, or it may be done
pub data IsLegal (s : Script) (m : Machine) : Step → Type 0 where
  Ends : IsLegal s m Stall
  May : {step : Step} → may s m step ≡ true → IsLegal s m step

pub legal-cases : (s : Script) (m : Machine) (step : Step) → legal s m step ≡ true → IsLegal s m step
unfolding legal
legal-cases s m Stall h = Ends
legal-cases s m step h = May (and_parts (not m.stalled) (may s m step) h).1

pub step_kept : (s : Script) (m : Machine) (step : Step) → IsPlainScript s → Holds s m → legal s m step ≡ true → Holds s (next s m step)
step_kept s m step plain H h = guarded_kept s m step plain H (legal_guards s m step h)

-- Histories

-- what holds at the start and is kept by each legal step holds of each machine that a history reaches
pub along : (s : Script) (P : Machine → Type 0) → ((m : Machine) (step : Step) → P m → legal s m step ≡ true → P (next s m step))
    → (h : List Step) (m : Machine) → P m → are_legal s m h ≡ true → P (run_steps s m h)
unfolding run_steps are_legal
along s P keeps [] m holds h = holds
along s P keeps (step ∷ steps) m holds h =
    let all = legal_parts s m step steps h in
    along s P keeps steps (next s m step) (keeps m step holds all.first) all.rest

pub first_kept : (s : Script) → IsPlainScript s → Holds s (first_machine s.topology)
first_kept s plain = record { tail = start_tail s.topology plain.device; present = start_present s plain.device; replies = tt }

pub history_kept : (s : Script) (h : List Step) → IsPlainScript s → is_history s h ≡ true → Holds s (at s h)
history_kept s h plain is = along s (Holds s) (λ m step H legal. step_kept s m step plain H legal) h (first_machine s.topology)
    (first_kept s plain) is
