-- The order in which the late refusals of single objects are tried.
use Rattle.std.specs.Prelude.{ℕ, Bool, Option, IfSome, ⊤}
use Rattle.std.specs.List.{list_any, range_with_len}
use Rattle.std.specs.Option.{option_and_then}
use Rattle.kms_model.specs.declared.objects.Kind.TheVariants.{Crtc, Plane, Conn}
use Rattle.kms_model.specs.declared.objects.Topology.{Topology}
use Rattle.kms_model.specs.declared.states.Both.{Both}
use Rattle.kms_model.specs.declared.states.Duplicates.{Duplicates}
use Rattle.kms_model.specs.declared.states.Mask.{Mask}
use Rattle.kms_model.specs.declared.states.ConnState.{ConnState}
use Rattle.kms_model.specs.declared.states.CrtcState.{CrtcState}
use Rattle.kms_model.specs.declared.states.PlaneState.{PlaneState}
use Rattle.kms_model.specs.Device.Objects.{count_of}
use Rattle.kms_model.specs.Device.Sound.{IsPlaneInRange}
use Rattle.kms_model.specs.Request.Late.{duplicate_in, needs_modeset_if, plane_refusal_of, crtc_refusal_of, conn_refusal_of}
use Rattle.kms_model.specs.Request.Late.{clone_refusal_of, route_refusal_of, shown_refusal_of}
use Rattle.kms_props.specs.Flags.{bits_of}
use Rattle.kms_request.specs.declared.late.Asked.{Asked}
use Rattle.kms_request.specs.declared.late.OrderStep.{OrderStep}
use Rattle.kms_request.specs.declared.late.OrderStep.TheVariants.{Planes, Crtcs, Conns, Clones, Routes, Shown}

-- what is duplicated of the plane, the CRTC or the connector with an index, where it is in a set
abbrev pub plane_in_set : Duplicates → Mask → ℕ → Option (Both PlaneState)
plane_in_set d objects index = duplicate_in objects.planes d.planes index

abbrev pub crtc_in_set : Duplicates → Mask → ℕ → Option (Both CrtcState)
crtc_in_set d objects index = duplicate_in objects.crtcs d.crtcs index

abbrev pub conn_in_set : Duplicates → Mask → ℕ → Option (Both ConnState)
conn_in_set d objects index = duplicate_in objects.conns d.conns index

-- a CRTC of a set needs a modeset
abbrev pub some_needs_modeset : Topology → Duplicates → Mask → Bool
some_needs_modeset t d objects =
    list_any (λ index. needs_modeset_if (crtc_in_set d objects index)) (range_with_len 0 (count_of t Crtc))

-- how many objects a step looks at
abbrev pub count_of_step : Topology → OrderStep → ℕ
count_of_step t Planes = count_of t Plane
count_of_step t Crtcs = count_of t Crtc
count_of_step t Conns = count_of t Conn
count_of_step t Clones = count_of t Crtc
count_of_step t Routes = count_of t Crtc
count_of_step t Shown = count_of t Plane

-- what a step finds wrong with an object of a set, by its index
abbrev pub refusal_at : Topology → Duplicates → Mask → Asked → OrderStep → ℕ → Option ℕ
refusal_at t d objects asked Planes index =
    option_and_then (plane_refusal_of t index) (plane_in_set d objects index)
refusal_at t d objects asked Crtcs index =
    option_and_then (crtc_refusal_of (bits_of asked.flags) asked.named asked.fenced index) (crtc_in_set d objects index)
refusal_at t d objects asked Conns index =
    option_and_then (conn_refusal_of t index) (conn_in_set d objects index)
refusal_at t d objects asked Clones index =
    option_and_then (λ both. clone_refusal_of t both) (crtc_in_set d objects index)
refusal_at t d objects asked Routes index =
    option_and_then (λ both. route_refusal_of both) (crtc_in_set d objects index)
refusal_at t d objects asked Shown index =
    option_and_then (λ both. shown_refusal_of t.profile d.crtcs both) (plane_in_set d objects index)

-- the numbers of a plane that a step looks at are in range
abbrev pub IsLookedAtInRange : OrderStep → Option (Both PlaneState) → Type 0
IsLookedAtInRange Planes plane = IfSome plane (λ both. IsPlaneInRange both.new)
IsLookedAtInRange Shown plane = IfSome plane (λ both. IsPlaneInRange both.new)
IsLookedAtInRange Crtcs plane = ⊤
IsLookedAtInRange Conns plane = ⊤
IsLookedAtInRange Clones plane = ⊤
IsLookedAtInRange Routes plane = ⊤
