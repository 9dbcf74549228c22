-- Which framebuffers are needed, and which a step frees. From: "Frame Buffer Abstraction", drm_framebuffer_get,
-- drm_framebuffer_put, `drm_atomic_helper.c`, drm_atomic_helper_cleanup_planes.
use Rattle.std.specs.Prelude.{ℕ, ◌==◌, ◌&&◌, ◌||◌, not, Bool, false, List, [], ◌∷◌, ◌++◌, filter, Option, Some, None, if◌then◌else◌}
use Rattle.std.specs.List.{list_any}
use Rattle.kms_model.specs.declared.objects.Kind.TheVariants.{Crtc, Plane}
use Rattle.kms_model.specs.declared.objects.Topology.{Topology}
use Rattle.kms_model.specs.declared.pictures.FbInfo.{FbInfo}
use Rattle.kms_model.specs.declared.pictures.Picture.{Picture}
use Rattle.kms_model.specs.declared.pictures.Picture.TheVariants.{Off, On}
use Rattle.kms_model.specs.declared.replies.Step.{Step}
use Rattle.kms_model.specs.declared.scripts.Script.{Script}
use Rattle.kms_model.specs.declared.worlds.Thing.{Thing}
use Rattle.kms_model.specs.Device.Execution.{is_framebuffer}
use Rattle.kms_model.specs.Device.Objects.{ids_of}
use Rattle.kms_model.specs.Device.States.{framebuffer_in, plane_at}
use Rattle.kms_model.specs.Device.World.{thing_with_id}
use Rattle.kms_model.specs.Machine.Commits.{commit_touches, old_plane, new_plane, is_cleaned}
use Rattle.kms_model.specs.Machine.Effects.{next}
use Rattle.kms_model.specs.Machine.Histories.{commit_numbers}
use Rattle.kms_model.specs.Machine.Registers.{decoded_picture}
use Rattle.kms_model.specs.Machine.State.{Machine, DeviceState, first_machine}

abbrev pub is_fb : ℕ → Option FbInfo → Bool
is_fb id None = false
is_fb id (Some fb) = fb.id == id

-- a layer of a picture shows it
abbrev pub picture_names : ℕ → Picture → Bool
picture_names id Off = false
picture_names id (On shown) = list_any (λ l. l.fb.id == id) shown.layers

-- the present state of a plane names it
unfoldable pub values_name : Topology → DeviceState → ℕ → Bool
values_name t d id = list_any (λ plane. is_fb id (plane_at d.world.things d.world.values plane).fb) (ids_of t Plane)

-- the live picture of a CRTC names it
unfoldable pub live_names : Topology → DeviceState → ℕ → Bool
live_names t d id = list_any (λ crtc. picture_names id (decoded_picture t d.live crtc)) (ids_of t Crtc)

-- an old or a new state of a plane that a commit touches names it
unfoldable pub commit_keeps : Topology → DeviceState → ℕ → ℕ → Bool
commit_keeps t d id k =
    list_any (λ plane. commit_touches t d.commits k plane
    && (is_fb id (old_plane t d.commits k plane).fb || is_fb id (new_plane t d.commits k plane).fb)) (ids_of t Plane)

abbrev pub commits_keep : Topology → Machine → ℕ → Bool
commits_keep t m id = list_any (λ k. not (is_cleaned m.device k) && commit_keeps t m.device id k) (commit_numbers m)

-- A framebuffer is needed where it is open, or where the values, a live picture or a commit that is not cleaned names it.
unfoldable pub is_needed : Topology → Machine → Thing → Bool
is_needed t m thing =
    is_framebuffer thing.content
    && (thing.is_open || (values_name t m.device thing.id || (live_names t m.device thing.id || commits_keep t m thing.id)))

-- a framebuffer, where it is needed
abbrev pub if_needed : Topology → Machine → Option Thing → Option FbInfo
if_needed t m None = None
if_needed t m (Some thing) = if is_needed t m thing then framebuffer_in thing.content else None

-- the framebuffer with an id that a machine has: none exactly where nothing needs it
unfoldable pub stored_framebuffer : Topology → Machine → ℕ → Option FbInfo
stored_framebuffer t m id = if_needed t m (thing_with_id m.device.world.things id)

abbrev pub needed_things : Topology → Machine → List Thing
needed_things t m = filter (is_needed t m) m.device.world.things

abbrev pub is_in_things : List Thing → Thing → Bool
is_in_things things thing = list_any (λ other. other.id == thing.id) things

-- the framebuffers that are needed before a step and not after it, in order of id
unfoldable pub freed_by_step : Script → Machine → Step → List Thing
freed_by_step s m step = filter (λ thing. not (is_in_things (needed_things s.topology (next s m step)) thing)) (needed_things s.topology m)

-- the framebuffers that steps free, in order of time
unfoldable pub freed_from : Script → Machine → List Step → List Thing
freed_from s m [] = []
freed_from s m (step ∷ steps) = freed_by_step s m step ++ freed_from s (next s m step) steps

abbrev pub freed : Script → List Step → List Thing
freed s h = freed_from s (first_machine s.topology) h
