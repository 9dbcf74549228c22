-- What flushes and vblanks ask for and answer, and what a latch does. From: `drm_atomic_helper.c`,
-- drm_atomic_helper_commit_planes; `drm_vblank.c`, drm_crtc_handle_vblank and drm_crtc_send_vblank_event.
use Rattle.std.specs.Prelude.{ℕ, ◌≡◌, ◌-◌, ◌^◌, ◌%◌, ◌<◌, ◌≤◌, Bool, true, List, length, slice_index_or, slice_set, is_some, None, Some}
use Rattle.std.specs.Prelude.{if◌then◌else◌}
use Rattle.kms_model.specs.declared.objects.Kind.TheVariants.{Crtc}
use Rattle.kms_model.specs.declared.replies.Event.{Event}
use Rattle.kms_model.specs.declared.replies.Step.TheVariants as step
use Rattle.kms_model.specs.declared.runs.Latch.{Latch}
use Rattle.kms_model.specs.Device.Objects.{object_id}
use Rattle.kms_model.specs.Machine.Histories.{legal}
use Rattle.kms_model.specs.Machine.State.{go_at}
use Rattle.kms_signal.specs.FenceSets.{FenceSet}
use Rattle.kms_signal.specs.Queues.{Queue, delivers}
use Rattle.kms_signal.specs.StepLaws.{with_signal}
use Rattle.kms_track.specs.declared.progress.Mark.TheVariants as mark
use Rattle.kms_track.specs.declared.tail.Tail.{Tail}
use Rattle.kms_track.specs.Tracking.{Tracking, marked, tail_of}
use Rattle.kms_core.specs.Run.{Run, machine}
use Rattle.kms_core.specs.Stands.{queue_of}

-- a commit flushes the CRTC with an index next, and the history was not ended
abbrev pub MayFlush : Run → ℕ → ℕ → Type 0
MayFlush r k crtc = legal r.script (machine r) (step.Flush k Crtc crtc) ≡ true

-- the CRTC with an index goes or is on, and the history was not ended
abbrev pub MayBlank : Run → ℕ → Type 0
MayBlank r crtc = legal r.script (machine r) (step.Vblank Crtc crtc) ≡ true

-- it latches at this vblank
abbrev pub goes_at : Run → ℕ → Bool
goes_at r crtc = is_some (go_at (machine r).device (object_id Crtc crtc))

-- Latches

-- the event of a commit that latches
abbrev pub event_told : Tail → Latch → Event
event_told x l = record { user_data = x.signals.user_data; sequence = l.count % 2 ^ 32; crtc = object_id Crtc l.crtc }

-- an event is delivered to a client, where one is asked for
abbrev pub told_if : Bool → ℕ → Event → List Queue → List Queue
told_if b client event queues = if b then slice_set queues (client - 1) (delivers (queue_of queues client) event) else queues

-- A commit that latches is not cleaned, its client has a queue, and an event is reserved there where it asks for one.
pub record IsLatching (v : Tracking) (queues : List Queue) (l : Latch) : Type 0 where
  pub tail : Tail
  pub found : tail_of v l.commit ≡ Some tail
  pub low : 1 ≤ tail.signals.client
  pub high : tail.signals.client ≤ length queues
  pub reserved : tail.signals.wants_event ≡ true → 0 < (queue_of queues tail.signals.client).reserved

-- A latch is told: its commit has it, the commit's out-fence at its CRTC is signalled, and its event is delivered.
pub record LatchIsTold (old new : Tracking) (old_fences new_fences : FenceSet) (old_queues new_queues : List Queue)
    (l : Latch) : Type 0 where
  pub tracker : new ≡ marked old l.commit (mark.Latched l.crtc)
  pub fences :
      (x : Tail) → tail_of old l.commit ≡ Some x → new_fences ≡ with_signal old_fences (slice_index_or x.signals.out_fences l.crtc None)
  pub queues :
      (x : Tail) → tail_of old l.commit ≡ Some x
      → new_queues ≡ told_if x.signals.wants_event x.signals.client (event_told x l) old_queues
