-- One way over all steps, for what speaks of the device and of the latches.
use Rattle.std.proofs.Common.{subst, ◌≡◌, ℕ, ◌+◌, List, [], ◌∷◌, Bool, true, false, Option, Some, None}
use Rattle.kms_model.specs.declared.objects.Kind.TheVariants.{Crtc}
use Rattle.kms_model.specs.declared.objects.Topology.{Topology}
use Rattle.kms_model.specs.declared.replies.Step.{Step}
use Rattle.kms_model.specs.declared.runs.Latch.{Latch}
use Rattle.kms_model.specs.declared.scripts.Command.{Command}
use Rattle.kms_model.specs.declared.scripts.Command.TheVariants as command
use Rattle.kms_model.specs.declared.scripts.Request.{Request}
use Rattle.kms_model.specs.declared.scripts.Script.{Script}
use Rattle.kms_model.specs.declared.worlds.World.{World}
use Rattle.kms_model.specs.Device.Execution.{committed, execute}
use Rattle.kms_model.specs.Device.Objects.{ids_of, index_of, object_id}
use Rattle.kms_model.specs.Machine.Commits.{has_latched, has_pair, is_all_latched, is_all_written, is_hw_done, out_fence_of}
use Rattle.kms_model.specs.Machine.Effects.{answers, counts_vblank, goes_on, next, signals, written_registers}
use Rattle.kms_model.specs.Machine.Histories.{at, is_history, legal}
use Rattle.kms_model.specs.Machine.Registers.{decoded_picture, latched_registers}
use Rattle.kms_model.specs.Machine.State.{Commit, DeviceState, Machine, command_at, count_at, first_machine, go_at, place_at}
use Rattle.kms_model.specs.Machine.Steps.{is_atomic, may_claim}
use Rattle.kms_model.specs.Request.Flags.{is_test}
use Rattle.kms_model.specs.Request.Verdict.{verdict}
use Rattle.kms_model.proofs.Guards.{IsFlush, IsSwapping, IsWrite, swap_guards}
use Rattle.kms_model.proofs.Items.{IsIn}
use Rattle.kms_laws.proofs.Basics.{pair_now}
use Rattle.kms_laws.proofs.EachStep.{Carries, by_bool, by_fence, by_latch, by_two, each_step, latched_as, locks_leave, made_as, swapped_as}
use Rattle.kms_laws.proofs.Invariants.{Tail}
use Rattle.kms_laws.proofs.Steps.{Holds, IsPlainScript, along, counted_holds, first_kept, flushed_at, flushed_holds, fresh-unlatched}
use Rattle.kms_laws.proofs.Steps.{not_atomic, step_kept}

abbrev pub TailOf : Topology → DeviceState → List Latch → Type 0
TailOf t d ls = Tail t d.commits d.marks d.shadow d.go ls

abbrev pub commit_of : Machine → ℕ → Request → Commit
commit_of m client r = record { client = client; command = (place_at m client).command; request = r; world = m.device.world }

-- what a latch finds, and what it records
pub record IsLatch (t : Topology) (d : DeviceState) (ls : List Latch) (k c : ℕ) : Type 0 where
  pub is_crtc : IsIn c (ids_of t Crtc)
  pub flushed : has_pair d.marks.flushed k c ≡ true
  pub unlatched : has_latched ls k c ≡ false

abbrev pub latch_of : Topology → DeviceState → ℕ → ℕ → ℕ → Latch
latch_of t d k c count = record {
  crtc = index_of c;
  commit = k;
  count = count;
  picture = decoded_picture t
      (latched_registers t d.shadow d.live c) c;
}

-- a fence is signalled, if there is one
abbrev pub with_signal : DeviceState → Option ℕ → DeviceState
with_signal d None = d
with_signal d (Some fence) = record d { signalled = fence ∷ d.signalled }

-- what is kept by each change of the device
pub record IsKept (s : Script) (P : DeviceState → List Latch → Type 0) : Type 0 where
  pub made : (m : Machine) (client : ℕ) (c : Command) → Holds s m → command_at s m client ≡ Some c → is_atomic c ≡ false
      → P m.device m.records.latches
      → P (record m.device { world = (execute s.topology m.device.world client c).world }) m.records.latches
  pub swapped : (m : Machine) (client : ℕ) (r : Request) → Holds s m → command_at s m client ≡ Some (command.Atomic r)
      → verdict s.topology m.device.world r ≡ None → is_test r.flags ≡ false → P m.device m.records.latches
      → P (record m.device {
        world = (committed s.topology m.device.world client r).world;
        commits = commit_of m client r
            ∷ m.device.commits;
      }) m.records.latches
  pub claimed : (m : Machine) (k : ℕ) → Holds s m → may_claim s.topology m k ≡ true → P m.device m.records.latches
      → P (record m.device { marks = record m.device.marks { claimed = k ∷ m.device.marks.claimed } }) m.records.latches
  pub written : (d : DeviceState) (ls : List Latch) (k o : ℕ) → TailOf s.topology d ls → IsWrite s.topology d k o → P d ls
      → P (record d { shadow = written_registers s.topology d k o; marks = record d.marks { written = (k, o) ∷ d.marks.written } }) ls
  pub flushed : (d : DeviceState) (ls : List Latch) (k c : ℕ) → P d ls
      → P (record d { marks = record d.marks { flushed = (k, c) ∷ d.marks.flushed } }) ls
  pub done : (d : DeviceState) (ls : List Latch) (k : ℕ) → P d ls → P (record d { marks = record d.marks { done = k ∷ d.marks.done } }) ls
  pub cleaned : (d : DeviceState) (ls : List Latch) (k : ℕ) → is_hw_done d k ≡ true → is_all_latched s.topology d ls k ≡ true → P d ls
      → P (record d { marks = record d.marks { cleaned = k ∷ d.marks.cleaned } }) ls
  pub waits : (d : DeviceState) (ls : List Latch) (c : ℕ) (o : Option ℕ) → P d ls → P (record d { go = (c, o) ∷ d.go }) ls
  pub counted : (d : DeviceState) (ls : List Latch) (c n : ℕ) → P d ls → P (record d { counts = (c, n) ∷ d.counts }) ls
  pub latched : (d : DeviceState) (ls : List Latch) (k c count : ℕ) → TailOf s.topology d ls → IsLatch s.topology d ls k c → P d ls
      → P (with_signal (record d { live = latched_registers s.topology d.shadow d.live c }) (out_fence_of s.topology d.commits k c))
      (latch_of s.topology d k c count ∷ ls)
  pub signalled : (d : DeviceState) (ls : List Latch) (fence : ℕ) → P d ls → P (record d { signalled = fence ∷ d.signalled }) ls

module _ (s : Script) (P : DeviceState → List Latch → Type 0) (K : IsKept s P) (m : Machine) (H : Holds s m)
    (p : P m.device m.records.latches) where
  abbrev Of : Machine → Type 0
  Of m2 = P m2.device m2.records.latches

  swap_keeps : (client : ℕ) (r : Request) → command_at s m client ≡ Some (command.Atomic r) → IsSwapping s.topology m client r
      → (b w : Bool) → Of (swapped_as s.topology b w m client r)
  swap_keeps client r is found =
      let now = K.swapped m client r H is found.accepted found.no_test p in
      by_two (λ b w. Of (swapped_as s.topology b w m client r)) now now now now

  -- a latch, with its event and its fence
  latch_keeps : (d : DeviceState) (k c count : ℕ) → TailOf s.topology d m.records.latches → IsLatch s.topology d m.records.latches k c
      → P d m.records.latches → (o : Option ℕ) → out_fence_of s.topology d.commits k c ≡ o
      → P (with_signal (record d { live = latched_registers s.topology d.shadow d.live c }) o)
      (latch_of s.topology d k c count ∷ m.records.latches)
  latch_keeps d k c count T l q o e =
      subst (λ f. P (with_signal (record d { live = latched_registers s.topology d.shadow d.live c }) f)
      (latch_of s.topology d k c count ∷ m.records.latches)) e (K.latched d m.records.latches k c count T l q)

  flush_keeps : (k c : ℕ) → is_all_written s.topology m.device k ≡ true → IsFlush s.topology m k c → (b : Bool) (o : Option ℕ)
      → out_fence_of s.topology m.device.commits k c ≡ o
      → Of (latched_as s.topology b o (flushed_at m k c) k c (count_at m.device c))
  flush_keeps k c written f =
      by_latch (λ b o. out_fence_of s.topology m.device.commits k c ≡ o
      → Of (latched_as s.topology b o (flushed_at m k c) k c (count_at m.device c))) (now None) (λ fence. now (Some fence)) (now None)
      (λ fence. now (Some fence))
    where
      now : (o : Option ℕ) → out_fence_of s.topology m.device.commits k c ≡ o
          → P (with_signal (record (flushed_at m k c).device { live = latched_registers s.topology m.device.shadow m.device.live c }) o)
          (latch_of s.topology (flushed_at m k c).device k c (count_at m.device c) ∷ m.records.latches)
      now =
          latch_keeps (flushed_at m k c).device k c (count_at m.device c) (flushed_holds s m H k c written f).tail
          (record { is_crtc = f.is_crtc; flushed = pair_now k c m.device.marks.flushed; unlatched = fresh-unlatched s m H k c f })
          (K.flushed m.device m.records.latches k c p)

  counted_keeps : (c : ℕ) → Of (counts_vblank m c)
  counted_keeps c = K.waits (record m.device { counts = (c, count_at m.device c + 1) ∷ m.device.counts }) m.records.latches c None
      (K.counted m.device m.records.latches c (count_at m.device c + 1) p)

  vblank_keeps : (k c : ℕ) → IsIn c (ids_of s.topology Crtc) → go_at m.device c ≡ Some k → (b : Bool) (o : Option ℕ)
      → out_fence_of s.topology m.device.commits k c ≡ o
      → Of (latched_as s.topology b o (counts_vblank m c) k c (count_at m.device c + 1))
  vblank_keeps k c i g =
      by_latch (λ b o. out_fence_of s.topology m.device.commits k c ≡ o
      → Of (latched_as s.topology b o (counts_vblank m c) k c (count_at m.device c + 1))) (now None) (λ fence. now (Some fence))
      (now None) (λ fence. now (Some fence))
    where
      now : (o : Option ℕ) → out_fence_of s.topology m.device.commits k c ≡ o
          → P (with_signal (record (counts_vblank m c).device { live = latched_registers s.topology m.device.shadow m.device.live c }) o)
          (latch_of s.topology (counts_vblank m c).device k c (count_at m.device c + 1) ∷ m.records.latches)
      now =
          let pending = H.tail.marks.go_is k c g in
          latch_keeps (counts_vblank m c).device k c (count_at m.device c + 1) (counted_holds s m H c).tail
          (record { is_crtc = i; flushed = pending.flushed; unlatched = pending.unlatched }) (counted_keeps c)

  carries_kept : Carries s m (λ step m2. P m2.device m2.records.latches)
  carries_kept = record {
    locks = locks_leave s m (λ step m2. P m2.device m2.records.latches) (λ step contexts. p);
    answers = record {
      refuses = λ client r e taking may. p;
      tests = λ client r e taking may. p;
      swaps = λ client r e taking may b w eb ew. swap_keeps client r e (swap_guards s.topology m client r may) b w;
      makes = λ client c e making idle b eb.
          by_bool (λ b. Of (made_as b m client (execute s.topology m.device.world client c)))
          (K.made m client c H e (not_atomic c making) p) (K.made m client c H e (not_atomic c making) p) b;
      signalled = λ client c e is_signal idle o.
          by_fence (λ o. Of (goes_on (signals (answers m client (execute s.topology m.device.world client c).reply) o) client)) p
          (λ fence. K.signalled m.device m.records.latches fence p) o;
      read_none = λ client c e is_wait idle none. p;
      read_one = λ client c e is_wait idle event events some. p;
    };
    tails = record {
      claimed = λ k h. K.claimed m k H h p;
      written = λ k kind index found. K.written m.device m.records.latches k (object_id kind index) H.tail found p;
      waits = λ k kind index written found. K.waits (flushed_at m k (object_id kind index)).device m.records.latches (object_id kind index)
          (Some k) (K.flushed m.device m.records.latches k (object_id kind index) p);
      flushed = λ k kind index written found b o eb eo. flush_keeps k (object_id kind index) written found b o eo;
      done = λ k a b c d. K.done m.device m.records.latches k p;
      counted = λ kind index is none. counted_keeps (object_id kind index);
      blanked = λ kind index k is some b o eb eo. vblank_keeps k (object_id kind index) is some b o eo;
      cleaned = λ k a b c. K.cleaned m.device m.records.latches k a b p;
    };
    stalled = λ h. p;
  }

  pub step_keeps : (step : Step) → legal s m step ≡ true → P (next s m step).device (next s m step).records.latches
  step_keeps step h = each_step s m (λ step m2. P m2.device m2.records.latches) carries_kept step h

-- so it holds along each history
pub along_history : (s : Script) (P : DeviceState → List Latch → Type 0) → IsKept s P → (h : List Step) → IsPlainScript s
    → P (first_machine s.topology).device [] → is_history s h ≡ true
    → Holds s (at s h) × P (at s h).device (at s h).records.latches
along_history s P K h plain first is =
    along s (λ m. Holds s m × P m.device m.records.latches)
    (λ m step both legal_step. (step_kept s m step plain both.0 legal_step, step_keeps s P K m both.0 both.1 step legal_step))
    h (first_machine s.topology) (first_kept s plain, first) is

-- what does not read the signalled fences is kept by a latch where it is kept without the signal
pub latched_any : (P : DeviceState → List Latch → Type 0)
    → ((d : DeviceState) (ls : List Latch) (fence : ℕ) → P d ls → P (record d { signalled = fence ∷ d.signalled }) ls)
    → (d : DeviceState) (ls : List Latch) (o : Option ℕ) → P d ls → P (with_signal d o) ls
latched_any P keeps d ls None p = p
latched_any P keeps d ls (Some fence) p = keeps d ls fence p

-- what speaks of the present world, of commits and of latches alone is kept where commands, swaps and latches keep it
pub few_kept : (s : Script) (Q : World → List Commit → List Latch → Type 0)
    → ((m : Machine) (client : ℕ) (c : Command) → command_at s m client ≡ Some c → is_atomic c ≡ false
    → Q m.device.world m.device.commits m.records.latches
    → Q (execute s.topology m.device.world client c).world m.device.commits m.records.latches)
    → ((m : Machine) (client : ℕ) (r : Request) → Holds s m → command_at s m client ≡ Some (command.Atomic r)
    → verdict s.topology m.device.world r ≡ None → Q m.device.world m.device.commits m.records.latches
    → Q (committed s.topology m.device.world client r).world (commit_of m client r ∷ m.device.commits) m.records.latches)
    → ((d : DeviceState) (ls : List Latch) (k c count : ℕ) → TailOf s.topology d ls → IsLatch s.topology d ls k c → Q d.world d.commits ls
    → Q d.world d.commits (latch_of s.topology d k c count ∷ ls))
    → IsKept s (λ d ls. Q d.world d.commits ls)
few_kept s Q made swapped latched = record {
  made = λ m client c H is other q. made m client c is other q;
  swapped = λ m client r H is none no_test q. swapped m client r H is none q;
  claimed = λ m k H h q. q;
  written = λ d ls k o T found q. q;
  flushed = λ d ls k c q. q;
  done = λ d ls k q. q;
  cleaned = λ d ls k a b q. q;
  waits = λ d ls c o q. q;
  counted = λ d ls c n q. q;
  latched = λ d ls k c count T found q.
      latched_any (λ d2 ls2. Q d2.world d2.commits ls2) (λ d2 ls2 fence q2. q2)
      (record d { live = latched_registers s.topology d.shadow d.live c }) (latch_of s.topology d k c count ∷ ls)
      (out_fence_of s.topology d.commits k c)
      (latched d ls k c count T found q);
  signalled = λ d ls fence q. q;
}

-- what speaks of the present world alone
pub world_kept : (s : Script) (Q : World → Type 0)
    → ((m : Machine) (client : ℕ) (c : Command) → command_at s m client ≡ Some c → is_atomic c ≡ false → Q m.device.world
    → Q (execute s.topology m.device.world client c).world)
    → ((w : World) (client : ℕ) (r : Request) → Q w → Q (committed s.topology w client r).world) → IsKept s (λ d ls. Q d.world)
world_kept s Q made swapped = few_kept s (λ w cs ls. Q w) made (λ m client r H is none q. swapped m.device.world client r q)
    (λ d ls k c count T found q. q)
