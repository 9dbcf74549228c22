-- One way over all steps, case by case, for what speaks of the whole machine and of the step that was done.
use Rattle.std.proofs.Common.{◌≡◌, ℕ, ◌+◌, List, [], ◌∷◌, length, Bool, true, false, Option, Some, None}
use Rattle.std.proofs.Common.{refl, sym, subst}
use Rattle.std.specs.Prelude.{if◌then◌else◌}
use Rattle.kms_model.specs.declared.objects.Kind.{Kind}
use Rattle.kms_model.specs.declared.objects.Kind.TheVariants.{Crtc}
use Rattle.kms_model.specs.declared.objects.Topology.{Topology}
use Rattle.kms_model.specs.declared.replies.Answered.{Answered}
use Rattle.kms_model.specs.declared.replies.Event.{Event}
use Rattle.kms_model.specs.declared.replies.Reply.{Reply}
use Rattle.kms_model.specs.declared.replies.Reply.TheVariants as reply
use Rattle.kms_model.specs.declared.replies.Step.{Step}
use Rattle.kms_model.specs.declared.replies.Step.TheVariants.{Begin, Lock, BackOff, Relock, Refuse, Test, Swap, Make, Signal, Claim, Write}
use Rattle.kms_model.specs.declared.replies.Step.TheVariants.{Flush, HwDone, Vblank, Cleanup, Read, Return, Stall}
use Rattle.kms_model.specs.declared.runs.Doing.TheVariants as doing
use Rattle.kms_model.specs.declared.scripts.Command.{Command}
use Rattle.kms_model.specs.declared.scripts.Command.TheVariants as command
use Rattle.kms_model.specs.declared.scripts.Request.{Request}
use Rattle.kms_model.specs.declared.scripts.Script.{Script}
use Rattle.kms_model.specs.declared.worlds.World.{World}
use Rattle.kms_model.specs.Device.Execution.{Executed, execute}
use Rattle.kms_model.specs.Device.Objects.{ids_of, object_id}
use Rattle.kms_model.specs.Device.Serial.{Entry, is_accepted}
use Rattle.kms_model.specs.Machine.Commits.{asks_event, has_number, is_all_flushed, is_all_latched}
use Rattle.kms_model.specs.Machine.Commits.{is_all_written, is_cleaned, is_hw_done, new_crtc, out_fence_of}
use Rattle.kms_model.specs.Machine.Effects.{answers, backed_off, begun, blanks, claims, counts_vblank, decided, delivers, drops_locks}
use Rattle.kms_model.specs.Machine.Effects.{fence_signalled, flushes, goes_on, joins_if, joins_journal, latches, latches_picture, locked}
use Rattle.kms_model.specs.Machine.Effects.{made_thing, next, now_doing, put_lock, reads, refusal_reply, refused, relocked, sets_up}
use Rattle.kms_model.specs.Machine.Effects.{signalled_by, signals, swapped_state, writes}
use Rattle.kms_model.specs.Machine.Histories.{legal}
use Rattle.kms_model.specs.Machine.State.{Commit, Contexts, Machine, command_at, count_at, doing_at, go_at, holder_at}
use Rattle.kms_model.specs.Machine.State.{request_at, reserved_at, unread_at}
use Rattle.kms_model.specs.Machine.Steps.{contended, is_atomic, is_idle}
use Rattle.kms_model.specs.Machine.Steps.{is_lockable, is_making, is_signal, is_taking, is_wait}
use Rattle.kms_model.specs.Machine.Steps.{may_claim, may_lock, may_refuse, may_swap, may_test, must_back_off}
use Rattle.kms_model.specs.Machine.Steps.{returning_of, ticket_of}
use Rattle.kms_model.specs.Request.Flags.{is_nonblock, wants_event}
use Rattle.kms_model.specs.Request.Named.{named}
use Rattle.kms_model.specs.Request.Sets.{obj_id}
use Rattle.kms_model.specs.Request.Verdict.{verdict}
use Rattle.kms_model.proofs.Items.{IsIn}
use Rattle.kms_model.proofs.Guards.{Guards, IsFlush, IsIdleAt, IsRelocking, IsTakingAt, IsWrite, claim_from, legal_guards, lock_from}
use Rattle.kms_laws.proofs.Steps.{flushed_at, request-is}

-- Cases

pub by_bool : (P : Bool → Type 0) → P true → P false → (b : Bool) → P b
by_bool P t f true = t
by_bool P t f false = f

pub by_two : (P : Bool → Bool → Type 0) → P true true → P true false → P false true → P false false → (a b : Bool) → P a b
by_two P tt_ tf ft ff true true = tt_
by_two P tt_ tf ft ff true false = tf
by_two P tt_ tf ft ff false true = ft
by_two P tt_ tf ft ff false false = ff

pub by_fence : (P : Option ℕ → Type 0) → P None → ((fence : ℕ) → P (Some fence)) → (o : Option ℕ) → P o
by_fence P none some None = none
by_fence P none some (Some fence) = some fence

-- a latch with an event or without, with a fence or without
pub by_latch : (P : Bool → Option ℕ → Type 0) → P true None → ((fence : ℕ) → P true (Some fence)) → P false None
    → ((fence : ℕ) → P false (Some fence)) → (b : Bool) (o : Option ℕ) → P b o
by_latch P tn ts fn fs true o = by_fence (P true) tn ts o
by_latch P tn ts fn fs false o = by_fence (P false) fn fs o

-- the machine after a latch, by whether it delivers an event and what fence it signals
abbrev pub latched_as : Topology → Bool → Option ℕ → Machine → ℕ → ℕ → ℕ → Machine
latched_as t b o m k c count = signals (if b then delivers t (latches_picture t m k c count) k c count else latches_picture t m k c count) o

-- the machine after a swap, by whether it asks for events and whether its client goes on
abbrev pub answered_as : Machine → ℕ → Machine
answered_as m client = joins_journal (answers m client (reply.Commit (length m.device.commits))) client

abbrev pub moved_as : Topology → Bool → Machine → ℕ → Request → Machine
moved_as t b m client r =
    drops_locks (sets_up t (if b then record (answered_as m client) {
      events = record (answered_as m client).events {
        reserved = (client, reserved_at (answered_as m client).events client + length (named t (answered_as m client).device.world r))
            ∷ (answered_as m client).events.reserved;
      };
    } else answered_as m client) client r) client

abbrev pub swapped_as : Topology → Bool → Bool → Machine → ℕ → Request → Machine
swapped_as t b w m client r = if w then goes_on (moved_as t b m client r) client
    else now_doing (moved_as t b m client r) client (doing.Returning (length m.device.commits))

-- the machine after a command that makes or closes a thing, by whether it is accepted
abbrev pub made_as : Bool → Machine → ℕ → Executed → Machine
made_as b m client e = goes_on (record (joins_if b (answers m client e.reply) client)
    { device = record (joins_if b (answers m client e.reply) client).device { world = e.world } }) client

-- what holds of each step that changes where clients are and what they hold alone, and the machine after it
pub record CarriesLocks (s : Script) (m : Machine) (P : Step → Machine → Type 0) : Type 0 where
  pub begins : (client : ℕ) (c : Command) → command_at s m client ≡ Some c → is_atomic c ≡ true → is_idle (doing_at m client) ≡ true
      → P (Begin client) (begun m client)
  pub takes : (client : ℕ) (kind : Kind) (index : ℕ) → is_lockable s.topology kind index ≡ true → may_lock s m client (object_id kind index)
      ≡ true → holder_at m (object_id kind index) ≡ None
      → P (Lock client kind index) (put_lock m (object_id kind index) (Some client))
  pub meets : (client : ℕ) (kind : Kind) (index holder : ℕ) → is_lockable s.topology kind index ≡ true
      → may_lock s m client (object_id kind index) ≡ true → holder_at m (object_id kind index) ≡ Some holder
      → P (Lock client kind index) (now_doing m client
      (doing.MustBackOff (record { 0 = ticket_of (doing_at m client) }) (obj_id (object_id kind index))))
  pub backs : (client : ℕ) → must_back_off (doing_at m client) ≡ true
      → P (BackOff client) (drops_locks (now_doing m client (backed_off (doing_at m client))) client)
  pub relocks : (client object : ℕ) → contended (doing_at m client) ≡ Some object → holder_at m object ≡ None
      → P (Relock client) (relocked m client (Some object))
  pub returned : (client k : ℕ) → returning_of (doing_at m client) ≡ Some k → is_cleaned m.device k ≡ true
      → P (Return client) (goes_on m client)

-- what holds of each step that answers a command, and the machine after it
pub record CarriesAnswers (s : Script) (m : Machine) (P : Step → Machine → Type 0) : Type 0 where
  pub refuses : (client : ℕ) (r : Request) → command_at s m client ≡ Some (command.Atomic r) → is_taking (doing_at m client) ≡ true
      → may_refuse s.topology m client r ≡ true
      → P (Refuse client) (decided m client (refusal_reply s.topology m client r (verdict s.topology m.device.world r)))
  pub tests : (client : ℕ) (r : Request) → command_at s m client ≡ Some (command.Atomic r) → is_taking (doing_at m client) ≡ true
      → may_test s.topology m client r ≡ true → P (Test client) (decided m client reply.Tested)
  pub swaps : (client : ℕ) (r : Request) → command_at s m client ≡ Some (command.Atomic r) → is_taking (doing_at m client) ≡ true
      → may_swap s.topology m client r ≡ true
      → (b w : Bool) → wants_event r.flags ≡ b → is_nonblock r.flags ≡ w → P (Swap client) (swapped_as s.topology b w m client r)
  pub makes : (client : ℕ) (c : Command) → command_at s m client ≡ Some c → is_making c ≡ true → is_idle (doing_at m client) ≡ true
      → (b : Bool) → is_accepted (execute s.topology m.device.world client c).reply ≡ b
      → P (Make client) (made_as b m client (execute s.topology m.device.world client c))
  pub signalled : (client : ℕ) (c : Command) → command_at s m client ≡ Some c → is_signal c ≡ true → is_idle (doing_at m client) ≡ true
      → (o : Option ℕ) → P (Signal client) (goes_on (signals (answers m client (execute s.topology m.device.world client c).reply) o)
      client)
  pub read_none : (client : ℕ) (c : Command) → command_at s m client ≡ Some c → is_wait c ≡ true → is_idle (doing_at m client) ≡ true
      → unread_at m.events client ≡ [] → P (Read client) (reads m client [])
  pub read_one : (client : ℕ) (c : Command) → command_at s m client ≡ Some c → is_wait c ≡ true → is_idle (doing_at m client) ≡ true
      → (event : Event) (events : List Event) → unread_at m.events client ≡ event ∷ events
      → P (Read client) (reads m client (event ∷ events))

-- what holds of each step of a commit's tail and of each vblank, and the machine after it
pub record CarriesTails (s : Script) (m : Machine) (P : Step → Machine → Type 0) : Type 0 where
  pub claimed : (k : ℕ) → may_claim s.topology m k ≡ true → P (Claim k) (claims m k)
  pub written : (k : ℕ) (kind : Kind) (index : ℕ) → IsWrite s.topology m.device k (object_id kind index)
      → P (Write k kind index) (writes s.topology m k (object_id kind index))
  pub waits : (k : ℕ) (kind : Kind) (index : ℕ) → is_all_written s.topology m.device k ≡ true
      → IsFlush s.topology m k (object_id kind index)
      → P (Flush k kind index) (record (flushed_at m k (object_id kind index))
      { device = record (flushed_at m k (object_id kind index)).device { go = (object_id kind index, Some k) ∷ m.device.go } })
  pub flushed : (k : ℕ) (kind : Kind) (index : ℕ) → is_all_written s.topology m.device k ≡ true
      → IsFlush s.topology m k (object_id kind index)
      → (b : Bool) (o : Option ℕ) → asks_event s.topology m.device.commits k ≡ b
      → out_fence_of s.topology m.device.commits k (object_id kind index) ≡ o
      → P (Flush k kind index) (latched_as s.topology b o (flushed_at m k (object_id kind index)) k (object_id kind index)
      (count_at m.device (object_id kind index)))
  pub done : (k : ℕ) → has_number m.device.marks.claimed k ≡ true → is_all_written s.topology m.device k ≡ true
      → is_all_flushed s.topology m.device k ≡ true → is_hw_done m.device k ≡ false
      → P (HwDone k) (record m { device = record m.device { marks = record m.device.marks { done = k ∷ m.device.marks.done } } })
  pub counted : (kind : Kind) (index : ℕ) → IsIn (object_id kind index) (ids_of s.topology Crtc) → go_at m.device (object_id kind index)
      ≡ None → P (Vblank kind index) (counts_vblank m (object_id kind index))
  pub blanked : (kind : Kind) (index k : ℕ) → IsIn (object_id kind index) (ids_of s.topology Crtc) → go_at m.device (object_id kind index)
      ≡ Some k
      → (b : Bool) (o : Option ℕ) → asks_event s.topology m.device.commits k ≡ b
      → out_fence_of s.topology m.device.commits k (object_id kind index) ≡ o
      → P (Vblank kind index) (latched_as s.topology b o (counts_vblank m (object_id kind index)) k (object_id kind index)
      (count_at m.device (object_id kind index) + 1))
  pub cleaned : (k : ℕ) → is_hw_done m.device k ≡ true → is_all_latched s.topology m.device m.records.latches k ≡ true
      → is_cleaned m.device k ≡ false
      → P (Cleanup k) (record m { device = record m.device { marks = record m.device.marks { cleaned = k ∷ m.device.marks.cleaned } } })

-- what holds of each step and the machine after it
pub record Carries (s : Script) (m : Machine) (P : Step → Machine → Type 0) : Type 0 where
  pub locks : CarriesLocks s m P
  pub answers : CarriesAnswers s m P
  pub tails : CarriesTails s m P
  pub stalled : legal s m Stall ≡ true → P Stall (record m { stalled = true })

-- what does not speak of contexts holds after each step that changes them alone
pub locks_leave : (s : Script) (m : Machine) (P : Step → Machine → Type 0)
    → ((step : Step) (contexts : Contexts) → P step (record m { contexts = contexts })) → CarriesLocks s m P
locks_leave s m P same = record {
  begins = λ client c e atomic idle. same (Begin client) _;
  takes = λ client kind index is_there lock free. same (Lock client kind index) _;
  meets = λ client kind index holder is_there lock held. same (Lock client kind index) _;
  backs = λ client back. same (BackOff client) _;
  relocks = λ client object asked free. same (Relock client) _;
  returned = λ client k e clean. same (Return client) _;
}

-- what tails and vblanks leave of a machine
pub record Left : Type 0 where
  pub contexts : Contexts
  pub world : World
  pub commits : List Commit
  pub journal : List Entry
  pub replies : List Answered
  pub events_read : List (ℕ × Event)
  pub stalled : Bool

abbrev pub left_of : Machine → Left
left_of m = record {
  contexts = m.contexts;
  world = m.device.world;
  commits = m.device.commits;
  journal = m.records.journal;
  replies = m.records.replies;
  events_read = m.events.events_read;
  stalled = m.stalled;
}

-- what speaks of that alone holds after each of their steps
pub tails_leave : (s : Script) (m : Machine) (Q : Step → Left → Type 0) → ((step : Step) → Q step (left_of m))
    → CarriesTails s m (λ step m2. Q step (left_of m2))
tails_leave s m Q same = record {
  claimed = λ k h. same (Claim k);
  written = λ k kind index found. same (Write k kind index);
  waits = λ k kind index written found. same (Flush k kind index);
  flushed = λ k kind index written found b o eb eo. latched (Flush k kind index) (flushed_at m k (object_id kind index)) k
      (object_id kind index) (count_at m.device (object_id kind index)) (same (Flush k kind index)) b o;
  done = λ k a b c d. same (HwDone k);
  counted = λ kind index is none. same (Vblank kind index);
  blanked = λ kind index k is some b o eb eo. latched (Vblank kind index) (counts_vblank m (object_id kind index)) k (object_id kind index)
      (count_at m.device (object_id kind index) + 1) (same (Vblank kind index)) b o;
  cleaned = λ k a b c. same (Cleanup k);
} where
  latched : (step : Step) (n : Machine) (k c count : ℕ) → Q step (left_of n) → (b : Bool) (o : Option ℕ)
      → Q step (left_of (latched_as s.topology b o n k c count))
  latched step n k c count now = by_latch (λ b o. Q step (left_of (latched_as s.topology b o n k c count))) now (λ fence. now) now
      (λ fence. now)

module _ (s : Script) (m : Machine) (P : Step → Machine → Type 0) (K : Carries s m P) where
  -- at the request of a client that takes locks
  at_request : (client : ℕ) (test : Request → Bool) (Q : Option Request → Type 0) → IsTakingAt s m client test
      → ((r : Request) → command_at s m client ≡ Some (command.Atomic r) → is_taking (doing_at m client) ≡ true → test r ≡ true
      → Q (Some r)) → Q (request_at s m client)
  at_request client test Q g each =
      subst Q (sym g.stands) (each g.request (request-is (command_at s m client) g.request g.stands) g.taking g.passes)

  lock_case : (client : ℕ) (kind : Kind) (index : ℕ) → is_lockable s.topology kind index ≡ true → may_lock s m client (object_id kind index)
      ≡ true
      → P (Lock client kind index) (locked m client (object_id kind index) (holder_at m (object_id kind index)))
  lock_case client kind index there h = go (holder_at m (object_id kind index)) refl
    where
      go : (o : Option ℕ) → holder_at m (object_id kind index) ≡ o → P (Lock client kind index) (locked m client (object_id kind index) o)
      go None e = K.locks.takes client kind index there h e
      go (Some holder) e = K.locks.meets client kind index holder there h e

  relock_case : (client : ℕ) → IsRelocking m client → P (Relock client) (relocked m client (contended (doing_at m client)))
  relock_case client g =
      subst (λ o. P (Relock client) (relocked m client o)) (sym g.contends) (K.locks.relocks client g.object g.contends g.free)

  refuse_case : (client : ℕ) → IsTakingAt s m client (may_refuse s.topology m client)
      → P (Refuse client) (refused s.topology m client (request_at s m client))
  unfolding refused
  refuse_case client g = at_request client (may_refuse s.topology m client) (λ o. P (Refuse client) (refused s.topology m client o)) g
      (K.answers.refuses client)

  test_case : (client : ℕ) → IsTakingAt s m client (may_test s.topology m client) → P (Test client) (decided m client reply.Tested)
  test_case client g = at_request client (may_test s.topology m client) (λ o. P (Test client) (decided m client reply.Tested)) g
      (K.answers.tests client)

  swap_case : (client : ℕ) → IsTakingAt s m client (may_swap s.topology m client)
      → P (Swap client) (swapped_state s.topology m client (request_at s m client))
  unfolding swapped_state
  swap_case client g =
      at_request client (may_swap s.topology m client) (λ o. P (Swap client) (swapped_state s.topology m client o)) g
      (λ r e taking may. K.answers.swaps client r e taking may (wants_event r.flags) (is_nonblock r.flags) refl refl)

  make_case : (client : ℕ) → IsIdleAt s m client is_making → P (Make client) (made_thing s.topology m client (command_at s m client))
  unfolding made_thing
  make_case client g =
      subst (λ o. P (Make client) (made_thing s.topology m client o)) (sym g.stands)
      (K.answers.makes client g.command g.stands g.passes g.idle
      (is_accepted (execute s.topology m.device.world client g.command).reply) refl)

  signal_case : (client : ℕ) → IsIdleAt s m client is_signal
      → P (Signal client) (signalled_by s.topology m client (command_at s m client))
  signal_case client g =
      subst (λ o. P (Signal client) (signalled_by s.topology m client o)) (sym g.stands)
      (signalled g.command (K.answers.signalled client g.command g.stands g.passes g.idle) g.command
      (execute s.topology m.device.world client g.command).reply)
    where
      signalled : (c : Command) → ((o : Option ℕ) → P (Signal client)
          (goes_on (signals (answers m client (execute s.topology m.device.world client c).reply) o) client)) → (q : Command) (r : Reply)
          → P (Signal client) (goes_on (fence_signalled (answers m client (execute s.topology m.device.world client c).reply) (Some q) r)
          client)
      signalled c all (command.Signal label) reply.Done = all _
      signalled c all _ _ = all None

  read_case : (client : ℕ) → IsIdleAt s m client is_wait → P (Read client) (reads m client (unread_at m.events client))
  read_case client g = by_events (unread_at m.events client) refl
    where
      by_events : (events : List Event) → unread_at m.events client ≡ events → P (Read client) (reads m client events)
      by_events [] u = K.answers.read_none client g.command g.stands g.passes g.idle u
      by_events (event ∷ events) u = K.answers.read_one client g.command g.stands g.passes g.idle event events u

  flush_case : (k : ℕ) (kind : Kind) (index : ℕ) → is_all_written s.topology m.device k ≡ true
      → IsFlush s.topology m k (object_id kind index) → P (Flush k kind index) (flushes s.topology m k (object_id kind index))
  unfolding latches
  flush_case k kind index written f = by_active (new_crtc s.topology m.device.commits k (object_id kind index)).active
    where
      by_active : (b : Bool)
          → P (Flush k kind index) (if b then record (flushed_at m k (object_id kind index)) {
            device = record (flushed_at m k (object_id kind index)).device
                { go = (object_id kind index, Some k) ∷ (flushed_at m k (object_id kind index)).device.go };
          }
          else latches s.topology (flushed_at m k (object_id kind index)) k (object_id kind index)
          (count_at m.device (object_id kind index)))
      by_active true = K.tails.waits k kind index written f
      by_active false = K.tails.flushed k kind index written f (asks_event s.topology m.device.commits k)
          (out_fence_of s.topology m.device.commits k (object_id kind index)) refl refl

  vblank_case : (kind : Kind) (index : ℕ) → IsIn (object_id kind index) (ids_of s.topology Crtc)
      → P (Vblank kind index) (blanks s.topology m (object_id kind index) (go_at m.device (object_id kind index)))
  unfolding latches
  vblank_case kind index i = go (go_at m.device (object_id kind index)) refl
    where
      go : (o : Option ℕ) → go_at m.device (object_id kind index) ≡ o → P (Vblank kind index) (blanks s.topology m (object_id kind index) o)
      go None e = K.tails.counted kind index i e
      go (Some k) e = K.tails.blanked kind index k i e (asks_event s.topology m.device.commits k)
          (out_fence_of s.topology m.device.commits k (object_id kind index)) refl refl

  guarded_case : (step : Step) → legal s m step ≡ true → Guards s m step → P step (next s m step)
  unfolding next
  guarded_case (Begin client) l g = K.locks.begins client g.command g.stands g.passes g.idle
  guarded_case (Lock client kind index) l g =
      lock_case client kind index g.lockable (lock_from s m client (object_id kind index) g.may_lock)
  guarded_case (BackOff client) l g = K.locks.backs client g
  guarded_case (Relock client) l g = relock_case client g
  guarded_case (Refuse client) l g = refuse_case client g
  guarded_case (Test client) l g = test_case client g
  guarded_case (Swap client) l g = swap_case client g
  guarded_case (Make client) l g = make_case client g
  guarded_case (Signal client) l g = signal_case client g
  guarded_case (Claim k) l g = K.tails.claimed k (claim_from s.topology m k g)
  guarded_case (Write k kind index) l g = K.tails.written k kind index g.write
  guarded_case (Flush k kind index) l g = flush_case k kind index g.written g.flush
  guarded_case (HwDone k) l g = K.tails.done k g.claimed g.written g.flushed g.undone
  guarded_case (Vblank kind index) l g = vblank_case kind index g.is_crtc
  guarded_case (Cleanup k) l g = K.tails.cleaned k g.done g.latched g.kept
  guarded_case (Read client) l g = read_case client g.waits
  guarded_case (Return client) l g = K.locks.returned client g.commit g.returns g.cleaned
  guarded_case Stall l g = K.stalled l

  pub each_step : (step : Step) → legal s m step ≡ true → P step (next s m step)
  each_step step h = guarded_case step h (legal_guards s m step h)
