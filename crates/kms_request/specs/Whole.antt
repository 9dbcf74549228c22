-- Requests against duplicates of the whole device.
use Rattle.std.specs.Prelude.{◌≡◌, ℕ, Bool, true, false, ◌||◌, ◌==◌, List, None, filter, is_none}
use Rattle.kms_model.specs.declared.objects.Kind.{Kind}
use Rattle.kms_model.specs.declared.objects.Kind.TheVariants.{Crtc, Plane, Conn, Enc}
use Rattle.kms_model.specs.declared.objects.Topology.{Topology}
use Rattle.kms_model.specs.declared.scripts.Assign.{Assign}
use Rattle.kms_model.specs.declared.scripts.Request.{Request}
use Rattle.kms_model.specs.declared.states.Duplicates.{Duplicates}
use Rattle.kms_model.specs.declared.states.Mask.{Mask}
use Rattle.kms_model.specs.declared.worlds.Look.{Look}
use Rattle.kms_model.specs.declared.worlds.World.{World}
use Rattle.kms_model.specs.Request.Agreement.{AgreesNew, AgreesOld}
use Rattle.kms_model.specs.Request.Apply.{after, object_of}
use Rattle.kms_model.specs.Request.Lookups.{look_up}
use Rattle.kms_model.specs.Device.Masks.{has_bit}
use Rattle.kms_model.specs.Request.Reach.{reaching}
use Rattle.kms_model.specs.Request.Resolves.{IsSettable}
use Rattle.kms_model.specs.Request.Touched.{touched_by}
use Rattle.kms_model.specs.Request.Refusals.{early_refusal, own_refusal}
use Rattle.kms_model.specs.Device.Sound.{IsDevice, IsNumbered, IsSound}
use Rattle.kms_props.specs.Setting.{AreAllDuplicated}
use Rattle.kms_request.specs.Naming.{next_crtc, old_crtc_id}

-- An assignment names a CRTC: it sets it, or a plane or a connector that is on it in its old or its new state.
abbrev pub is_named_between : Duplicates → Assign → ℕ → Bool
is_named_between d a crtc = ((object_of a == crtc) || (old_crtc_id d (object_of a) == crtc)) || (next_crtc d (object_of a) == crtc)

-- Duplicates of the whole device before and after a request in a sound world: no early refusal is due there, the
-- old states are those of the world's values, and the new ones those of the values after the request.
pub record StandBetween (t : Topology) (w : World) (r : Request) (d : Duplicates) : Type 0 where
  pub device : IsDevice t
  pub sound : IsSound t w
  pub early : early_refusal t (look_up w) r ≡ None
  pub old : AgreesOld t w.things w.values d
  pub new : AgreesNew t w.things (after w r) d
  pub all : AreAllDuplicated t d

-- some sound world
pub record StandSomewhere (t : Topology) (r : Request) (d : Duplicates) : Type 0 where
  pub world : World
  pub between : StandBetween t world r d

-- Requests before it is known whether they are accepted

-- duplicates of the whole device, old and new alike, in the states that the objects have in a lawful world
pub record ArePresent (t : Topology) (w : World) (d : Duplicates) : Type 0 where
  pub device : IsDevice t
  pub sound : IsSound t w
  pub numbered : IsNumbered w
  pub old : AgreesOld t w.things w.values d
  pub new : AgreesNew t w.things w.values d
  pub all : AreAllDuplicated t d

-- two functions tell the same of each label
abbrev pub TellSame : (ℕ → Look) → (ℕ → Look) → Type 0
TellSame f g = (label : ℕ) → f label ≡ g label

-- the same in some lawful world, of whose labels a function tells what they name, where `looks` says what that is
pub record ArePresentSomewhere (looks : World → ℕ → Look) (t : Topology) (f : ℕ → Look) (d : Duplicates) : Type 0 where
  pub world : World
  pub present : ArePresent t world d
  pub tells : TellSame f (looks world)

-- the assignments with which nothing is wrong by themselves, where a function tells what labels name
abbrev pub allowed_by : Topology → (ℕ → Look) → List Assign → List Assign
allowed_by t f assigns = filter (λ a. is_none (own_refusal t f a)) assigns

-- a request with those of its assignments alone with which nothing is wrong by themselves
abbrev pub allowed_request : Topology → (ℕ → Look) → Request → Request
allowed_request t f r = record r { assigns = allowed_by t f r.assigns }

-- an assignment that counts is one that some device can have
abbrev pub IsSettableIf : Bool → Assign → Type 0
IsSettableIf counts a = counts ≡ true → IsSettable a

-- the objects that a request reaches in a world, as a set
abbrev pub reached_by : Topology → World → Request → Mask
reached_by t w r = touched_by t w (record r { assigns = reaching t w r.assigns })

-- an object of a kind is in a set
abbrev pub is_member : Mask → Kind → ℕ → Bool
is_member mask Crtc index = has_bit mask.crtcs index
is_member mask Plane index = has_bit mask.planes index
is_member mask Conn index = has_bit mask.conns index
is_member mask Enc index = false
