-- What a call that decides about a request says of its arguments: they are what resolving and checking give.
use Rattle.std.specs.Prelude.{◌≡◌, ℕ, List, slice_get, Option, Some}
use Rattle.kms_model.specs.declared.objects.Topology.{Topology}
use Rattle.kms_model.specs.declared.replies.Refusal.{Refusal}
use Rattle.kms_model.specs.declared.scripts.Request.{Request}
use Rattle.kms_model.specs.declared.sets.Resolved.{Resolved}
use Rattle.kms_model.specs.declared.states.Both.{Both}
use Rattle.kms_model.specs.declared.states.Checked.{Checked}
use Rattle.kms_model.specs.declared.states.Duplicates.{Duplicates}
use Rattle.kms_model.specs.declared.worlds.Look.{Look}
use Rattle.kms_model.specs.declared.worlds.World.{World}
use Rattle.kms_model.specs.Device.Sound.{IsDevice, IsNumbered, IsSound}
use Rattle.kms_model.specs.Request.Agreement.{AgreesOld, AgreesNew}
use Rattle.kms_model.specs.Request.Apply.{after}
use Rattle.kms_model.specs.Request.Lookups.{look_up}
use Rattle.kms_model.specs.Request.Resolves.{IsResolved}
use Rattle.kms_model.specs.Request.Touched.{named_by, touched_by}
use Rattle.kms_model.specs.Request.Verdict.{late_in}

-- Duplicates and what a request asks for are those of a request in a sound world with numbered things: `resolved` is what it asks for with
-- what its labels name there, and the old states are those of the world's values.
pub record IsOfRequest (t : Topology) (w : World) (r : Request) (resolved : Resolved) (d : Duplicates) : Type 0 where
  pub device : IsDevice t
  pub sound : IsSound t w
  pub numbered : IsNumbered w
  pub asks : IsResolved t (look_up w) r resolved
  pub old : AgreesOld t w.things w.values d

-- what some request asks for over a device, with what its labels name somewhere
pub record IsAskedFor (t : Topology) (resolved : Resolved) : Type 0 where
  pub names : ℕ → Look
  pub request : Request
  pub asks : IsResolved t names request resolved

-- the old states are those of some sound world
pub record AreOfSoundWorld (t : Topology) (d : Duplicates) : Type 0 where
  pub world : World
  pub sound : IsSound t world
  pub old : AgreesOld t world.things world.values d

abbrev pub AreFreshIn : {S : Type 0} → List (Option (Both S)) → Type 0
AreFreshIn {S = S} states =
    (index : ℕ) (both : Both S) → slice_get states index ≡ Some (Some both) → both.new ≡ both.old

-- each new state is the old one
pub record AreFresh (d : Duplicates) : Type 0 where
  pub crtcs : AreFreshIn d.crtcs
  pub planes : AreFreshIn d.planes
  pub conns : AreFreshIn d.conns

-- what was checked: the states before and after the request, the CRTCs that it names, and the objects that it touches
pub record IsChecked (t : Topology) (w : World) (r : Request) (c : Checked) : Type 0 where
  pub old : AgreesOld t w.things w.values c.states
  pub new : AgreesNew t w.things (after w r) c.states
  pub named : c.named ≡ named_by t w r
  pub touched : c.touched ≡ touched_by t w r

-- What a check gives for a request, what it asks for and duplicates: what was checked, or the first late refusal,
-- in each world that they are of.

abbrev pub GivesChecked : Topology → Request → Resolved → Duplicates → Checked → Type 0
GivesChecked t r resolved d c = (w : World) → IsOfRequest t w r resolved d → IsChecked t w r c

abbrev pub GivesRefusal : Topology → Request → Resolved → Duplicates → Refusal → Type 0
GivesRefusal t r resolved d why = (w : World) → IsOfRequest t w r resolved d → late_in t w r ≡ Some why.0
