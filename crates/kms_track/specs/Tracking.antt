-- What a tracker keeps, and what it answers of that.
use Rattle.std.specs.Prelude.{◌≡◌, ℕ, ◌+◌, ◌<◌, ◌||◌, ◌&&◌, not, nat_lt, Bool, true, false, List, [], ◌∷◌, ◌++◌, replicate, slice_index_or}
use Rattle.std.specs.Prelude.{Option, Some, None, if◌then◌else◌}
use Rattle.kms_model.specs.declared.objects.ObjId.{ObjId}
use Rattle.kms_model.specs.declared.states.Checked.{Checked}
use Rattle.kms_model.specs.declared.states.Mask.{Mask}
use Rattle.kms_model.specs.Device.Masks.{has_bit}
use Rattle.kms_model.specs.Request.Sets.{obj_id}
use Rattle.kms_model.specs.Things.Tables.{slot, value_with_id}
use Rattle.kms_model.specs.Machine.Commits.{if_there}
use Rattle.kms_signal.specs.FenceSets.{FenceSet}
use Rattle.kms_signal.specs.Rooms.{Rooms}
use Rattle.kms_track.specs.declared.lasts.Last.{Last}
use Rattle.kms_track.specs.declared.progress.Mark.{Mark}
use Rattle.kms_track.specs.declared.tail.Signals.{Signals}
use Rattle.kms_track.specs.declared.tail.Tail.{Tail}
use Rattle.kms_track.specs.Places.{object_at_place, mask_has, all_below, first_below}
use Rattle.kms_track.specs.Tails.{all_signalled, fence_ids, first_tail, flipped_at, marked_tails, no_tails}

pub record Tracking : Type 0 where
  -- how many commits were set up: the number of the next one
  pub count : ℕ
  -- of each object, at its place, the last two commits that touched it
  pub lasts : List Last
  -- the tails of the commits that are set up and not cleaned, by their numbers
  pub tails : Rooms Tail

abbrev pub no_last : Last
no_last = record { commit = None; before = None }

-- the tracker of no commit
abbrev pub no_tracking : Tracking
no_tracking = record { count = 0; lasts = replicate 28 no_last; tails = no_tails }

abbrev pub tail_of : Tracking → ℕ → Option Tail
tail_of v k = value_with_id v.tails.slots k

abbrev pub last_at : Tracking → ℕ → Last
last_at v p = slice_index_or v.lasts p no_last

-- Answers

-- a commit that is cleaned was done and has flipped
abbrev pub done_of : Option Tail → Bool
done_of None = true
done_of (Some x) = x.progress.done

abbrev pub flipped_of : Option Tail → ℕ → Bool
flipped_of None p = true
flipped_of (Some x) p = flipped_at x p

-- the commit before on the object at a place, where a commit touches it, is done and has flipped for the object
abbrev pub is_settled : Tracking → Tail → ℕ → Bool
is_settled v x p =
    not (mask_has x.checked.touched p)
    || if_there (λ j. done_of (tail_of v j) && flipped_of (tail_of v j) p) (slice_index_or x.previous p None)

abbrev pub all_settled : Tracking → Tail → Bool
all_settled v x = all_below (is_settled v x) 28

abbrev pub tail_ready : Tracking → FenceSet → Option Tail → Bool
tail_ready v fences None = false
tail_ready v fences (Some x) = not x.progress.claimed && (all_signalled fences x.in_fences && all_settled v x)

abbrev pub ready_of : Tracking → FenceSet → ℕ → Bool
ready_of v fences k = tail_ready v fences (tail_of v k)

-- a commit, where a test does not hold of it
abbrev pub unless : (ℕ → Bool) → Option ℕ → Option ℕ
unless test None = None
unless test (Some k) = if test k then None else Some k

abbrev pub with_object : ℕ → Option ℕ → Option (ObjId × ℕ)
with_object object None = None
with_object object (Some k) = Some (obj_id object, k)

-- the last commit of the object at a place, where it has not flipped for it
abbrev pub busy_at : Tracking → Mask → ℕ → Option ℕ
busy_at v mask p = if mask_has mask p then unless (λ k. flipped_of (tail_of v k) p) (last_at v p).commit else None

abbrev pub busy_of : Tracking → Mask → Option (ObjId × ℕ)
busy_of v mask = first_below (λ p. with_object (object_at_place p) (busy_at v mask p)) 28

abbrev pub is_gone : Option Tail → Bool
is_gone None = true
is_gone (Some x) = false

-- a commit was set up and is cleaned
abbrev pub cleaned_of : Tracking → ℕ → Bool
cleaned_of v k = nat_lt k v.count && is_gone (tail_of v k)

-- a commit that is not done, and one that is not cleaned
abbrev pub undone : Tracking → Option ℕ → Option ℕ
undone v commit = unless (λ k. done_of (tail_of v k)) commit

abbrev pub uncleaned : Tracking → Option ℕ → Option ℕ
uncleaned v commit = unless (λ k. is_gone (tail_of v k)) commit

abbrev pub or_other : Option ℕ → Option ℕ → Option ℕ
or_other None other = other
or_other (Some k) other = Some k

-- the last commit of a CRTC that is not done, or else the one before that is not cleaned
abbrev pub awaited : Tracking → Last → Option ℕ
awaited v last = or_other (undone v last.commit) (uncleaned v last.before)

abbrev pub not_yet_at : Tracking → ℕ → ℕ → Option ℕ
not_yet_at v crtcs i = if has_bit crtcs i then awaited v (last_at v i) else None

abbrev pub not_yet_of : Tracking → ℕ → Option (ObjId × ℕ)
not_yet_of v crtcs = first_below (λ i. with_object (object_at_place i) (not_yet_at v crtcs i)) 4

-- What calls change

-- a step of a commit is marked, where it is set up and not cleaned
abbrev pub marked : Tracking → ℕ → Mark → Tracking
marked v k mark = record v { tails = marked_tails v.tails k mark }

abbrev pub raised : Last → Bool → ℕ → Last
raised last touched k = if touched then record { commit = Some k; before = last.commit } else last

-- a commit was set up, with what it signals, what was checked and the fences that it waits for
pub record IsSetUp (old new : Tracking) (signals : Signals) (checked : Checked) (in_fences : List ℕ) : Type 0 where
  pub count : new.count ≡ old.count + 1
  pub lasts : (p : ℕ) → p < 28 → last_at new p ≡ raised (last_at old p) (mask_has checked.touched p) old.count
  -- the tail has the last commits before it, and its fences at their places
  pub previous : List (Option ℕ)
  pub previous_are : (p : ℕ) → p < 28 → slice_index_or previous p None ≡ (last_at old p).commit
  pub waits : List (Option ℕ)
  pub waits_are : fence_ids waits ≡ in_fences
  pub tails : new.tails.slots ≡ old.tails.slots ++ slot old.count (first_tail signals checked previous waits) ∷ []
