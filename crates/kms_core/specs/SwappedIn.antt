-- The present states of a device's objects after a commit. From: drm_atomic_helper_swap_state.
use Rattle.std.specs.Prelude.{◌≡◌, ℕ, ◌+◌, Bool, false, ◌==◌, List, [], ◌∷◌, length, Option, Some, None, slice_index_or, if◌then◌else◌}
use Rattle.kms_model.specs.Device.Places.{alike}
use Rattle.kms_model.specs.declared.objects.Kind.TheVariants.{Crtc}
use Rattle.kms_model.specs.declared.objects.ObjId.{ObjId}
use Rattle.kms_model.specs.declared.scripts.Request.{Request}
use Rattle.kms_model.specs.declared.states.Both.{Both}
use Rattle.kms_model.specs.declared.states.Duplicates.{Duplicates}
use Rattle.kms_model.specs.declared.tables.Slot.{Slot}
use Rattle.kms_model.specs.declared.worlds.Thing.{Thing}
use Rattle.kms_model.specs.Device.Objects.{object_id}
use Rattle.kms_model.specs.Device.World.{thing_labelled}
use Rattle.kms_model.specs.Machine.Commits.{id_of_thing}
use Rattle.kms_model.specs.Request.Flags.{wants_event}
use Rattle.kms_model.specs.Things.Tables.{slot}
use Rattle.kms_track.specs.declared.tail.Signals.{Signals}
use Rattle.kms_core.specs.Swaps.{count_in}

-- the state of an object of the device: the new one where it was checked, else as it was
abbrev pub swapped_in : {S : Type 0} → Option (Both S) → Option (Both S) → Option (Both S)
swapped_in None checked = None
swapped_in (Some present) None = Some present
swapped_in (Some present) (Some checked) = Some (alike checked.new)

-- the states of all objects of a kind are so
pub record AreSwappedIn (S : Type 0) (present checked after : List (Option (Both S))) : Type 0 where
  pub size : length after ≡ length present
  pub at : (index : ℕ) → slice_index_or after index None
      ≡ swapped_in (slice_index_or present index None) (slice_index_or checked index None)

pub record IsSwappedIn (present checked after : Duplicates) : Type 0 where
  pub crtcs : AreSwappedIn _ present.crtcs checked.crtcs after.crtcs
  pub planes : AreSwappedIn _ present.planes checked.planes after.planes
  pub conns : AreSwappedIn _ present.conns checked.conns after.conns

-- the fences that are made under the labels that are asked for, with the next ids
abbrev pub fences_for : ℕ → List (Option ℕ) → List (Slot Bool)
fences_for next [] = []
fences_for next (None ∷ labels) = fences_for next labels
fences_for next (Some label ∷ labels) = slot next false ∷ fences_for (next + 1) labels

-- the id of the next thing after an out-fence
abbrev pub next_after : ℕ → Option ℕ → ℕ
next_after next None = next
next_after next (Some label) = next + 1

-- the label that is asked for at a CRTC, given by its id
abbrev pub label_in : List (ObjId × ℕ) → ℕ → Option ℕ
label_in [] crtc = None
label_in (f ∷ asked) crtc = if f.0.0 == crtc then Some f.1 else label_in asked crtc

-- those at each CRTC that a device can have, in order
abbrev pub labels_in : List (ObjId × ℕ) → List (Option ℕ)
labels_in asked =
    label_in asked (object_id Crtc 0) ∷ label_in asked (object_id Crtc 1)
    ∷ label_in asked (object_id Crtc 2) ∷ label_in asked (object_id Crtc 3) ∷ []

-- the id of the thing that was made under a label, where one is asked for
abbrev pub id_made_under : List Thing → Option ℕ → Option ℕ
id_made_under things None = None
id_made_under things (Some label) = id_of_thing (thing_labelled things label)

-- the ids of those that were made under labels, one place for each CRTC that a device can have
abbrev pub fences_under : List Thing → List (Option ℕ) → List (Option ℕ)
fences_under things labels =
    id_made_under things (slice_index_or labels 0 None) ∷ id_made_under things (slice_index_or labels 1 None)
    ∷ id_made_under things (slice_index_or labels 2 None) ∷ id_made_under things (slice_index_or labels 3 None) ∷ []

-- what the commit of a client's request signals, with the fences that it made
abbrev pub signals_for : ℕ → Request → List (Option ℕ) → Signals
signals_for client r out_fences =
    record { client = client; user_data = r.user_data; wants_event = wants_event r.flags; out_fences = out_fences }

-- how many events a request with these flags, which names these CRTCs, asks for
abbrev pub events_asked_for : ℕ → ℕ → ℕ
events_asked_for flags named = if wants_event flags then count_in named else 0
