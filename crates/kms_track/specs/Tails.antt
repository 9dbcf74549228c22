-- Commits that are set up and not cleaned, as contracts see them: what their tails still need, and how far they have come.
-- From: `drm_atomic_helper.c`, drm_atomic_helper_commit_tail: the planes and CRTCs of a commit are written, its CRTCs are
-- flushed, it is done, and it is cleaned up; drm_atomic_helper_wait_for_dependencies.
use Rattle.std.specs.Prelude.{ℕ, zero, suc, ◌+◌, ◌*◌, ◌^◌, ◌%◌, ◌<◌, ◌&&◌, ◌||◌, IsTrue, not, nat_le, Bool, true, false, List, [], ◌∷◌}
use Rattle.std.specs.Prelude.{find, replicate, slice_index_or, if◌then◌else◌, bit_or, Option, Some, None}
use Rattle.std.specs.List.{list_all, range_with_len}
use Rattle.std.specs.Option.{option_map, option_map_or}
use Rattle.kms_model.specs.declared.objects.Kind.TheVariants.{Conn, Crtc, Plane}
use Rattle.kms_model.specs.declared.states.Both.{Both}
use Rattle.kms_model.specs.declared.states.Checked.{Checked}
use Rattle.kms_model.specs.declared.states.CrtcState.{CrtcState}
use Rattle.kms_model.specs.declared.tables.Slot.{Slot}
use Rattle.kms_model.specs.Device.Masks.{has_bit}
use Rattle.kms_model.specs.Device.Objects.{index_of, is_id_of, object_id}
use Rattle.kms_model.specs.Firsts.{one_if, or_else}
use Rattle.kms_model.specs.Things.Tables.{slot_ids, value_with_id, with_value}
use Rattle.kms_signal.specs.FenceSets.{FenceSet, is_signalled}
use Rattle.kms_signal.specs.Rooms.{Rooms}
use Rattle.kms_track.specs.declared.progress.Mark.{Mark}
use Rattle.kms_track.specs.declared.progress.Mark.TheVariants.{Claimed, WroteCrtc, WrotePlane, Flushed, Done, Latched}
use Rattle.kms_track.specs.declared.progress.Progress.{Progress}
use Rattle.kms_track.specs.declared.tail.Signals.{Signals}
use Rattle.kms_track.specs.declared.tail.Tail.{Tail}
use Rattle.kms_track.specs.Places.{crtc_id, is_side, sides_at}

-- Masks

-- a mask with one bit more
abbrev pub with_bit : ℕ → ℕ → ℕ
with_bit mask index = bit_or mask (1 * 2 ^ index % 2 ^ 32)

-- the least index, of the first n, that is in one mask and not in another
abbrev pub is_left : ℕ → ℕ → ℕ → Bool
is_left asked over index = has_bit asked index && not (has_bit over index)

abbrev pub first_left : ℕ → ℕ → ℕ → Option ℕ
first_left asked over n = find (is_left asked over) (range_with_len 0 n)

-- A commit that is set up

abbrev pub no_progress : Progress
no_progress = record { claimed = false; crtcs = 0; planes = 0; flushed = 0; done = false; latched = 0 }

-- what a commit signals that no client made
abbrev pub no_signals : Signals
no_signals = record { client = 0; user_data = 0; wants_event = false; out_fences = replicate 4 None }

-- the tail of a commit of which nothing was done
abbrev pub first_tail : Signals → Checked → List (Option ℕ) → List (Option ℕ) → Tail
first_tail signals checked previous in_fences =
    record { signals = signals; checked = checked; previous = previous; in_fences = in_fences; progress = no_progress }

-- What it waits for

abbrev pub is_fence_signalled : FenceSet → Option ℕ → Bool
is_fence_signalled fences None = true
is_fence_signalled fences (Some id) = is_signalled fences id

abbrev pub all_signalled : FenceSet → List (Option ℕ) → Bool
all_signalled fences ids = list_all (is_fence_signalled fences) ids

-- the ids of fences at their places
abbrev pub fence_ids : List (Option ℕ) → List ℕ
fence_ids [] = []
fence_ids (None ∷ ids) = fence_ids ids
fence_ids (Some id ∷ ids) = id ∷ fence_ids ids

-- A commit has flipped for the object at a place, which it touches, where it has latched at each CRTC that the object is, or
-- is on before or after.
abbrev pub has_latched_at : Tail → ℕ → ℕ → Bool
has_latched_at x p index = not (is_side (sides_at x.checked.states p) (crtc_id index)) || has_bit x.progress.latched index

abbrev pub flipped_at : Tail → ℕ → Bool
flipped_at x p = list_all (has_latched_at x p) (range_with_len 0 4)

-- What is left to do

-- the least CRTC or else plane, by its id, that is touched and not written
abbrev pub next_write_of : Tail → Option ℕ
next_write_of x =
    or_else (option_map (object_id Crtc) (first_left x.checked.touched.crtcs x.progress.crtcs 4))
    (option_map (object_id Plane) (first_left x.checked.touched.planes x.progress.planes 16))

-- the least CRTC, by its index, that is named and not flushed; and that is named and has not latched
abbrev pub next_flush_of : Tail → Option ℕ
next_flush_of x = first_left x.checked.named x.progress.flushed 4

abbrev pub next_latch_of : Tail → Option ℕ
next_latch_of x = first_left x.checked.named x.progress.latched 4

-- How many steps are left: a cleanup, a claim and the end of writing, a write of each object that is touched, a flush of each
-- CRTC that is named, and a latch at each of these that is on afterwards. One that is off latches as it is flushed.

-- how many of the first n indices pass a test
unfoldable pub count_below : (ℕ → Bool) → ℕ → ℕ
count_below test zero = 0
count_below test (suc n) = count_below test n + one_if (test n)

abbrev pub is_on_after : Option (Both CrtcState) → Bool
is_on_after None = false
is_on_after (Some both) = both.new.active

abbrev pub on_after : Tail → ℕ → Bool
on_after x index = is_on_after (slice_index_or x.checked.states.crtcs index None)

abbrev pub is_latch_left : Tail → ℕ → Bool
is_latch_left x index = is_left x.checked.named x.progress.latched index && on_after x index

abbrev pub steps_left : Tail → ℕ
steps_left x =
    1 + one_if (not x.progress.claimed) + one_if (not x.progress.done)
    + count_below (is_left x.checked.touched.crtcs x.progress.crtcs) 4
    + count_below (is_left x.checked.touched.planes x.progress.planes) 16
    + count_below (is_left x.checked.named x.progress.flushed) 4
    + count_below (is_latch_left x) 4

-- of all commits that are not cleaned
abbrev pub all_left : List (Slot Tail) → ℕ
all_left [] = 0
all_left (s ∷ slots) = steps_left s.value + all_left slots

-- the id of the first connector of a mask, or 0
abbrev pub connector_in : ℕ → ℕ
connector_in conns = option_map_or (object_id Conn) (first_left conns 0 8) 0

-- of a CRTC's new state, where there is one
abbrev pub connector_of : Option (Both CrtcState) → ℕ
connector_of None = 0
connector_of (Some both) = connector_in both.new.conns

-- Changes

-- the indices are those of the largest device
abbrev pub IsMark : Mark → Type 0
IsMark Claimed = Unit {0}
IsMark (WroteCrtc index) = index < 4
IsMark (WrotePlane index) = index < 16
IsMark (Flushed index) = index < 4
IsMark Done = Unit {0}
IsMark (Latched index) = index < 4

abbrev pub with_mark : Mark → Progress → Progress
with_mark Claimed p = record p { claimed = true }
with_mark (WroteCrtc index) p = record p { crtcs = with_bit p.crtcs index }
with_mark (WrotePlane index) p = record p { planes = with_bit p.planes index }
with_mark (Flushed index) p = record p { flushed = with_bit p.flushed index }
with_mark Done p = record p { done = true }
with_mark (Latched index) p = record p { latched = with_bit p.latched index }

-- an object with registers: a CRTC or a plane of the largest device
abbrev pub HasRegisters : ℕ → Type 0
HasRegisters object = IsTrue (is_id_of Crtc object || is_id_of Plane object)

-- the mark of a write of a CRTC or else a plane, by its id
abbrev pub wrote_mark : ℕ → Mark
wrote_mark object = if is_id_of Crtc object then WroteCrtc (index_of object) else WrotePlane (index_of object)

abbrev pub marked_tail : Mark → Tail → Tail
marked_tail mark x = record x { progress = with_mark mark x.progress }

abbrev pub marked_slots : List (Slot Tail) → ℕ → Mark → Option Tail → List (Slot Tail)
marked_slots slots k mark None = slots
marked_slots slots k mark (Some x) = with_value slots k (marked_tail mark x)

-- the tails after a step of a commit, where it has one
abbrev pub marked_tails : Rooms Tail → ℕ → Mark → Rooms Tail
marked_tails v k mark = record v { slots = marked_slots v.slots k mark (value_with_id v.slots k) }

-- the least number, from one on, that has a tail
abbrev pub first_from : List (Slot Tail) → ℕ → Option ℕ
first_from slots from = find (λ k. nat_le from k) (slot_ids slots)

abbrev pub no_tails : Rooms Tail
no_tails = record { slots = []; room = 0 }

-- What steps take of what is left

-- a step is left to do
abbrev pub is_step_left : Mark → Tail → Bool
is_step_left Claimed x = not x.progress.claimed
is_step_left (WroteCrtc index) x = is_left x.checked.touched.crtcs x.progress.crtcs index
is_step_left (WrotePlane index) x = is_left x.checked.touched.planes x.progress.planes index
is_step_left (Flushed index) x = is_left x.checked.named x.progress.flushed index
is_step_left Done x = not x.progress.done
is_step_left (Latched index) x = is_latch_left x index

-- a latch at a CRTC that is off after the commit
abbrev pub is_latch_off : Mark → Tail → Bool
is_latch_off (Latched index) x = not (on_after x index)
is_latch_off _ x = false
