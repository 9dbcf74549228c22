-- Events are delivered once, along each history.
use Rattle.std.proofs.Common.{◌≡◌, ℕ, ◌+◌, List, ◌∷◌, length, Bool, true, false, Option, Some, refl}
use Rattle.std.specs.List.{flat_map}
use Rattle.kms_model.specs.declared.objects.Kind.TheVariants.{Crtc}
use Rattle.kms_model.specs.declared.replies.Event.{Event}
use Rattle.kms_model.specs.declared.replies.Step.{Step}
use Rattle.kms_model.specs.declared.runs.Latch.{Latch}
use Rattle.kms_model.specs.declared.scripts.Request.{Request}
use Rattle.kms_model.specs.declared.scripts.Script.{Script}
use Rattle.kms_model.specs.Device.Execution.{execute}
use Rattle.kms_model.specs.Device.Objects.{ids_of, object_id}
use Rattle.kms_model.specs.Machine.Commits.{asks_event, is_all_written}
use Rattle.kms_model.specs.Machine.Effects.{answers, counts_vblank, goes_on, next, reads, signals}
use Rattle.kms_model.specs.Machine.Histories.{at, commit_numbers, is_history, legal}
use Rattle.kms_model.specs.Machine.State.{Commit, Events, Machine, count_at, first_machine, go_at, reserved_at, unread_at}
use Rattle.kms_model.specs.Machine.Steps.{may_swap}
use Rattle.kms_model.specs.Promises.{awaited_events, delivered, events_of}
use Rattle.kms_model.specs.Request.Flags.{wants_event}
use Rattle.kms_model.proofs.Guards.{IsFlush}
use Rattle.kms_model.proofs.Items.{IsIn}
use Rattle.kms_laws.proofs.Basics.{pair_now}
use Rattle.kms_laws.proofs.EachStep.{Carries, by_bool, by_fence, by_latch, by_two, each_step, latched_as, locks_leave, made_as, swapped_as}
use Rattle.kms_laws.proofs.EventsKept.{EventsStand, latch_events, read_events, swap_events}
use Rattle.kms_laws.proofs.Objects.{crtc_index}
use Rattle.kms_laws.proofs.Steps.{Holds, IsPlainScript, along, first_kept, flushed_at, flushed_holds, fresh-unlatched, step_kept}
use Rattle.kms_laws.proofs.Traversal.{commit_of, latch_of}
use Rattle.kms_model.specs.Machine.Registers.{read}

-- what speaks of commits, latches and events is kept by each step where swaps, latches and reads keep it
module _ (s : Script) (m : Machine) (Q : List Commit → List Latch → Events → Type 0) where
  abbrev Of : Machine → Type 0
  Of m2 = Q m2.device.commits m2.records.latches m2.events

  pub events_carried : Of m
      → ((client : ℕ) (r : Request) → may_swap s.topology m client r ≡ true → (b w : Bool) → wants_event r.flags ≡ b
      → Of (swapped_as s.topology b w m client r))
      → ((client : ℕ) (event : Event) (events : List Event) → unread_at m.events client ≡ event ∷ events
      → Of (reads m client (event ∷ events)))
      → ((k c : ℕ) → is_all_written s.topology m.device k ≡ true → IsFlush s.topology m k c → (b : Bool) (o : Option ℕ)
      → asks_event s.topology m.device.commits k ≡ b → Of (latched_as s.topology b o (flushed_at m k c) k c (count_at m.device c)))
      → ((k c : ℕ) → IsIn c (ids_of s.topology Crtc) → go_at m.device c ≡ Some k → (b : Bool) (o : Option ℕ)
      → asks_event s.topology m.device.commits k ≡ b
      → Of (latched_as s.topology b o (counts_vblank m c) k c (count_at m.device c + 1))) → Carries s m (λ step m2. Of m2)
  events_carried p swap_keeps read_keeps flush_keeps vblank_keeps = record {
    locks = locks_leave s m (λ step m2. Of m2) (λ step contexts. p);
    answers = record {
      refuses = λ client r e taking may. p;
      tests = λ client r e taking may. p;
      swaps = λ client r e taking may b w eb ew. swap_keeps client r may b w eb;
      makes = λ client c e making idle b eb. by_bool (λ b. Of (made_as b m client (execute s.topology m.device.world client c))) p p b;
      signalled = λ client c e is_signal idle o. by_fence
          (λ o. Of (goes_on (signals (answers m client (execute s.topology m.device.world client c).reply) o) client)) p (λ fence. p) o;
      read_none = λ client c e is_wait idle none. p;
      read_one = λ client c e is_wait idle event events some. read_keeps client event events some;
    };
    tails = record {
      claimed = λ k h. p;
      written = λ k kind index found. p;
      waits = λ k kind index written found. p;
      flushed = λ k kind index written found b o eb eo. flush_keeps k (object_id kind index) written found b o eb;
      done = λ k a b c d. p;
      counted = λ kind index is none. p;
      blanked = λ kind index k is some b o eb eo. vblank_keeps k (object_id kind index) is some b o eb;
      cleaned = λ k a b c. p;
    };
    stalled = λ h. p;
  }

abbrev pub HasEvents : Script → Machine → Type 0
HasEvents s m = EventsStand s.topology m.device.commits m.records.latches m.events

module _ (s : Script) (m : Machine) (H : Holds s m) (p : HasEvents s m) where
  flush_keeps : (k c : ℕ) → is_all_written s.topology m.device k ≡ true → IsFlush s.topology m k c → (b : Bool) (o : Option ℕ)
      → asks_event s.topology m.device.commits k ≡ b → HasEvents s (latched_as s.topology b o (flushed_at m k c) k c (count_at m.device c))
  flush_keeps k c written f =
      let T = (flushed_holds s m H k c written f).tail in
      let now = latch_events T k c (count_at m.device c) (latch_of s.topology m.device k c (count_at m.device c)) f.is_crtc
      (pair_now k c m.device.marks.flushed) (fresh-unlatched s m H k c f) refl (crtc_index s.topology c T.few f.is_crtc) refl m.events p
      in
      by_latch (λ b o. asks_event s.topology m.device.commits k ≡ b
      → HasEvents s (latched_as s.topology b o (flushed_at m k c) k c (count_at m.device c))) (now true) (λ fence. now true) (now false)
      (λ fence. now false)

  vblank_keeps : (k c : ℕ) → IsIn c (ids_of s.topology Crtc) → go_at m.device c ≡ Some k → (b : Bool) (o : Option ℕ)
      → asks_event s.topology m.device.commits k ≡ b
      → HasEvents s (latched_as s.topology b o (counts_vblank m c) k c (count_at m.device c + 1))
  vblank_keeps k c i g =
      let pending = H.tail.marks.go_is k c g in
      let now = latch_events H.tail k c (count_at m.device c + 1) (latch_of s.topology m.device k c (count_at m.device c + 1)) i
      pending.flushed pending.unlatched refl (crtc_index s.topology c H.tail.few i) refl m.events p in
      by_latch (λ b o. asks_event s.topology m.device.commits k ≡ b
      → HasEvents s (latched_as s.topology b o (counts_vblank m c) k c (count_at m.device c + 1))) (now true) (λ fence. now true)
      (now false) (λ fence. now false)

  carries_events : Carries s m (λ step m2. HasEvents s m2)
  carries_events = events_carried s m (EventsStand s.topology) p
      (λ client r may.
      let now = swap_events H.tail (commit_of m client r) m.events p in
      by_two (λ b w. wants_event r.flags ≡ b → HasEvents s (swapped_as s.topology b w m client r)) (now true) (now true) (now false)
      (now false))
      (λ client event events some. read_events s.topology m.device.commits m.records.latches m.events client event events some p)
      flush_keeps vblank_keeps

  pub step_keeps_events : (step : Step) → legal s m step ≡ true → HasEvents s (next s m step)
  step_keeps_events step h = each_step s m (λ step m2. HasEvents s m2) carries_events step h

pub first_events : (s : Script) → HasEvents s (first_machine s.topology)
unfolding read
first_events s = record { told = λ client. refl; counted = λ client. refl }

pub events_once : (s : Script) (h : List Step) → IsPlainScript s → is_history s h ≡ true → (client : ℕ)
    → (events_of (at s h) client ≡ delivered s.topology (at s h) client)
    × (reserved_at (at s h).events client ≡ length (flat_map (awaited_events s.topology (at s h) client) (commit_numbers (at s h))))
events_once s h plain is client =
    let both = along s (λ m. Holds s m × HasEvents s m)
    (λ m step both legal_step. (step_kept s m step plain both.0 legal_step, step_keeps_events s m both.0 both.1 step legal_step))
    h (first_machine s.topology) (first_kept s plain, first_events s) is in
    (both.1.told client, both.1.counted client)
