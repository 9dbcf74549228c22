-- What a commit is about, and what was done of it. From: "Atomic Mode Setting", drm_atomic_helper_setup_commit,
-- drm_atomic_helper_wait_for_dependencies, drm_atomic_helper_wait_for_flip_done.
use Rattle.std.specs.Prelude.{ℕ, zero, suc, ◌==◌, ◌&&◌, ◌||◌, not, Bool, true, false, List, [], ◌∷◌, ◌++◌, length, map, Option, Some, None}
use Rattle.std.specs.Prelude.{if◌then◌else◌}
use Rattle.std.specs.List.{list_any, list_all}
use Rattle.kms_model.specs.Device.Sound.{empty_request}
use Rattle.kms_model.specs.declared.objects.Kind.TheVariants.{Crtc, Plane, Conn, Enc}
use Rattle.kms_model.specs.declared.objects.Kind.{Kind}
use Rattle.kms_model.specs.declared.objects.Topology.{Topology}
use Rattle.kms_model.specs.declared.runs.Latch.{Latch}
use Rattle.kms_model.specs.declared.states.CrtcState.{CrtcState}
use Rattle.kms_model.specs.declared.states.PlaneState.{PlaneState}
use Rattle.kms_model.specs.declared.worlds.Setting.{Setting}
use Rattle.kms_model.specs.declared.worlds.Thing.{Thing}
use Rattle.kms_model.specs.Device.Execution.{committed}
use Rattle.kms_model.specs.Device.Objects.{object_id, ids_of, kind_of}
use Rattle.kms_model.specs.Device.States.{plane_at, connector_on}
use Rattle.kms_model.specs.Device.World.{start, thing_labelled}
use Rattle.kms_model.specs.Request.Agreement.{crtc_state_at}
use Rattle.kms_model.specs.Request.Apply.{after}
use Rattle.kms_model.specs.Request.Flags.{wants_event}
use Rattle.kms_model.specs.Request.Lookups.{look_up}
use Rattle.kms_model.specs.Request.Named.{names, moves_on}
use Rattle.kms_model.specs.Request.Sets.{in_fences}
use Rattle.kms_model.specs.Request.Touched.{touches, out_fence_label}
use Rattle.kms_model.specs.Machine.State.{Commit, DeviceState}

-- Objects

-- the objects that have a lock, and those that have registers, in order of id
abbrev pub lockable : Topology → List ℕ
lockable t = ids_of t Crtc ++ (ids_of t Plane ++ ids_of t Conn)

abbrev pub registered : Topology → List ℕ
registered t = ids_of t Crtc ++ ids_of t Plane

-- Marks

abbrev pub has_number : List ℕ → ℕ → Bool
has_number numbers n = list_any (λ m. m == n) numbers

abbrev pub has_pair : List (ℕ × ℕ) → ℕ → ℕ → Bool
has_pair pairs k object = list_any (λ p. (p.0 == k) && (p.1 == object)) pairs

abbrev pub is_latch_of : ℕ → ℕ → Latch → Bool
is_latch_of k crtc l = (l.commit == k) && (object_id Crtc l.crtc == crtc)

-- a commit has latched at a CRTC
unfoldable pub has_latched : List Latch → ℕ → ℕ → Bool
has_latched latches k crtc = list_any (is_latch_of k crtc) latches

-- Commits by their numbers

-- what stands for a commit that is not there
abbrev pub no_commit : Topology → Commit
no_commit t = record { client = 0; command = 0; request = empty_request; world = start t }

-- the commit with a number, which is that of the commits before it
unfoldable pub commit_at : Topology → List Commit → ℕ → Commit
commit_at t [] k = no_commit t
commit_at t (c ∷ cs) k = if length cs == k then c else commit_at t cs k

-- the values before a commit and after it
abbrev pub old_values : Commit → List Setting
old_values c = c.world.values

abbrev pub new_values : Commit → List Setting
new_values c = after c.world c.request

-- a commit names a CRTC
unfoldable pub commit_names : Topology → List Commit → ℕ → ℕ → Bool
commit_names t cs k crtc = let c = commit_at t cs k in names (old_values c) (new_values c) c.request.assigns crtc

-- it touches an object
unfoldable pub commit_touches : Topology → List Commit → ℕ → ℕ → Bool
commit_touches t cs k object = let c = commit_at t cs k in touches t c.world c.request object

-- An object is a CRTC, or it is a plane or a connector that is on it before the commit or after it.
abbrev pub is_on_before_or_after : Kind → Commit → ℕ → ℕ → Bool
is_on_before_or_after Crtc c object crtc = object == crtc
is_on_before_or_after Plane c object crtc = moves_on (old_values c) (new_values c) crtc object
is_on_before_or_after Conn c object crtc = moves_on (old_values c) (new_values c) crtc object
is_on_before_or_after Enc c object crtc = false

unfoldable pub commit_concerns : Topology → List Commit → ℕ → ℕ → ℕ → Bool
commit_concerns t cs k object crtc = is_on_before_or_after (kind_of object) (commit_at t cs k) object crtc

-- A commit has flipped for an object where it has latched on every CRTC that the object is, or is on before or after.
unfoldable pub has_flipped : Topology → List Commit → List Latch → ℕ → ℕ → Bool
has_flipped t cs latches k object = list_all (λ crtc. not (commit_concerns t cs k object crtc) || has_latched latches k crtc)
    (ids_of t Crtc)

-- States: the old ones of a commit are those in the world before it; the new ones are read with the things of that world

unfoldable pub old_plane : Topology → List Commit → ℕ → ℕ → PlaneState
old_plane t cs k plane = let c = commit_at t cs k in plane_at c.world.things (old_values c) plane

unfoldable pub new_plane : Topology → List Commit → ℕ → ℕ → PlaneState
new_plane t cs k plane = let c = commit_at t cs k in plane_at c.world.things (new_values c) plane

unfoldable pub new_crtc : Topology → List Commit → ℕ → ℕ → CrtcState
new_crtc t cs k crtc = let c = commit_at t cs k in crtc_state_at t c.world.things (new_values c) crtc

-- the connector of a CRTC after a commit, touched by it or not; 0 without one
unfoldable pub new_connector : Topology → List Commit → ℕ → ℕ → ℕ
new_connector t cs k crtc = connector_on (new_values (commit_at t cs k)) crtc (ids_of t Conn)

-- Fences

-- the ids of the fences that a commit waits for, in order of planes. From: "Explicit Fencing Properties".
unfoldable pub waited_fences : Topology → List Commit → ℕ → List ℕ
waited_fences t cs k = let c = commit_at t cs k in map (λ f. f.1) (in_fences t (look_up c.world) c.request.assigns)

abbrev pub id_of_thing : Option Thing → Option ℕ
id_of_thing None = None
id_of_thing (Some thing) = Some thing.id

abbrev pub thing_made : Topology → Commit → Option ℕ → Option ℕ
thing_made t c None = None
thing_made t c (Some label) = id_of_thing (thing_labelled (committed t c.world c.client c.request).world.things label)

-- the id of the out-fence that a commit makes for a CRTC, if any
unfoldable pub out_fence_of : Topology → List Commit → ℕ → ℕ → Option ℕ
out_fence_of t cs k crtc = let c = commit_at t cs k in thing_made t c (out_fence_label c.request.assigns crtc)

-- Previous commits

-- the greatest number below another that passes a test
unfoldable pub last_below : (ℕ → Bool) → ℕ → Option ℕ
last_below test zero = None
last_below test (suc n) = if test n then Some n else last_below test n

-- the last commit before a number that touched an object
unfoldable pub previous : Topology → List Commit → ℕ → ℕ → Option ℕ
previous t cs n object = last_below (λ k. commit_touches t cs k object) n

abbrev pub previous_of : Topology → List Commit → Option ℕ → ℕ → Option ℕ
previous_of t cs None object = None
previous_of t cs (Some n) object = previous t cs n object

-- the last but one
abbrev pub second_previous : Topology → List Commit → ℕ → ℕ → Option ℕ
second_previous t cs n object = previous_of t cs (previous t cs n object) object

-- a test of a commit, where there is one
abbrev pub if_there : (ℕ → Bool) → Option ℕ → Bool
if_there test None = true
if_there test (Some k) = test k

abbrev pub is_claimed : DeviceState → ℕ → Bool
is_claimed d k = has_number d.marks.claimed k

abbrev pub is_hw_done : DeviceState → ℕ → Bool
is_hw_done d k = has_number d.marks.done k

abbrev pub is_cleaned : DeviceState → ℕ → Bool
is_cleaned d k = has_number d.marks.cleaned k

-- all registers that a commit touches are written, all CRTCs that it names are flushed, and it has latched at all of them
unfoldable pub is_all_written : Topology → DeviceState → ℕ → Bool
is_all_written t d k = list_all (λ object. not (commit_touches t d.commits k object) || has_pair d.marks.written k object) (registered t)

unfoldable pub is_all_flushed : Topology → DeviceState → ℕ → Bool
is_all_flushed t d k = list_all (λ crtc. not (commit_names t d.commits k crtc) || has_pair d.marks.flushed k crtc) (ids_of t Crtc)

unfoldable pub is_all_latched : Topology → DeviceState → List Latch → ℕ → Bool
is_all_latched t d latches k = list_all (λ crtc. not (commit_names t d.commits k crtc) || has_latched latches k crtc) (ids_of t Crtc)

-- Whether an event is asked for
abbrev pub asks_event : Topology → List Commit → ℕ → Bool
asks_event t cs k = wants_event (commit_at t cs k).request.flags
