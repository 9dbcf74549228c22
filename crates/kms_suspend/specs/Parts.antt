-- The parts of the requests that turn a device off and bring it back, by kinds of objects, and what may be in the way. From:
-- `drm_atomic_helper.c`, drm_atomic_helper_disable_all, drm_atomic_helper_commit_duplicated_state; the parts are this device's own.
use Rattle.std.specs.Prelude.{◌≡◌, ℕ, Bool, false, ◌&&◌, is_none, List, [], ◌∷◌, filter, Option, Some, None, if◌then◌else◌}
use Rattle.std.specs.List.{flat_map, range_with_len}
use Rattle.kms_model.specs.declared.objects.Kind.{Kind}
use Rattle.kms_model.specs.declared.objects.Kind.TheVariants.{Crtc, Plane, Conn, Enc}
use Rattle.kms_model.specs.declared.objects.ObjId.{ObjId}
use Rattle.kms_model.specs.declared.objects.Topology.{Topology}
use Rattle.kms_model.specs.declared.scripts.Assign.{Assign}
use Rattle.kms_model.specs.declared.states.Duplicates.{Duplicates}
use Rattle.kms_model.specs.declared.worlds.World.{World}
use Rattle.kms_model.specs.Device.Objects.{count_of, object_id}
use Rattle.kms_model.specs.Order.Suspending.{closed_object, conn_back, crtc_back, framebuffer_label, has_crtc_at, has_mode_at, mode_label}
use Rattle.kms_model.specs.Order.Suspending.{plane_back}
use Rattle.kms_model.specs.Request.Sets.{obj_id}
use Rattle.kms_model.specs.Script.Assigning.{conn_off, crtc_off, plane_off}
use Rattle.kms_core.specs.Decisions.{world}
use Rattle.kms_core.specs.Run.{Run}
use Rattle.kms_things.specs.Present.{IsPresent}
use Rattle.kms_suspend.specs.declared.parts.Way.{Way}
use Rattle.kms_suspend.specs.declared.parts.Way.TheVariants.{Off, Back}
use Rattle.kms_suspend.specs.declared.requests.ResumeError.{ResumeError}
use Rattle.kms_suspend.specs.declared.requests.ResumeError.TheVariants.{Closed, NoMemory}

-- duplicates are the present states of a machine
abbrev pub ArePresentOf : Run → Duplicates → Type 0
ArePresentOf r states = IsPresent r.script.topology (world r) states

-- an object of a kind, by its index, is in use: a plane or a connector is on a CRTC, a CRTC has a mode
abbrev pub is_in_use : World → Kind → ℕ → Bool
is_in_use w Crtc index = has_mode_at w (object_id Crtc index)
is_in_use w Plane index = has_crtc_at w (object_id Plane index)
is_in_use w Conn index = has_crtc_at w (object_id Conn index)
is_in_use w Enc index = false

-- the label of what it shows
abbrev pub label_for : World → Kind → ℕ → Option ℕ
label_for w Crtc index = mode_label w (object_id Crtc index)
label_for w Plane index = framebuffer_label w (object_id Plane index)
label_for w Conn index = None
label_for w Enc index = None

-- What is set

-- what turns an object off
abbrev pub off_of : Kind → ℕ → List Assign
off_of Crtc index = crtc_off index
off_of Plane index = plane_off index
off_of Conn index = conn_off index ∷ []
off_of Enc index = []

-- what brings it back as it is in a world
abbrev pub back_of : World → Kind → ℕ → List Assign
back_of w Crtc index = crtc_back w index
back_of w Plane index = plane_back w index
back_of w Conn index = conn_back w index ∷ []
back_of w Enc index = []

abbrev pub assigns_at : Way → World → Kind → ℕ → List Assign
assigns_at Off w kind index = off_of kind index
assigns_at Back w kind index = back_of w kind index

-- what a request sets of an object: nothing of one that is not in use
abbrev pub part_at : Way → World → Kind → ℕ → List Assign
part_at way w kind index = if is_in_use w kind index then assigns_at way w kind index else []

-- what it sets of so many objects of a kind, of which the first has an index
abbrev pub part_from : Way → World → Kind → ℕ → ℕ → List Assign
part_from way w kind first count = flat_map (assigns_at way w kind) (filter (is_in_use w kind) (range_with_len first count))

-- what it sets of all
abbrev pub part : Way → Topology → World → Kind → List Assign
part way t w kind = part_from way w kind 0 (count_of t kind)

-- What is in the way

-- an object is in use, and no label names what it shows (of a CRTC or a plane; connectors show nothing)
abbrev pub lacks_label : World → Kind → ℕ → Bool
lacks_label w kind index = is_in_use w kind index && is_none (label_for w kind index)

-- the id of the object of a kind with an index
abbrev pub id_of : Kind → ℕ → ObjId
id_of kind index = obj_id (object_id kind index)

-- why a device is not brought back: an object is the first that is closed; or memory ran out, and none is closed
abbrev pub IsRefused : Topology → World → ResumeError → Type 0
IsRefused t w (Closed object) = closed_object t w ≡ Some object.0
IsRefused t w NoMemory = closed_object t w ≡ None
