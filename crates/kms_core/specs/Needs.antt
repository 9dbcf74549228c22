-- What tells which framebuffers are needed, as the stores of a core have it.
use Rattle.std.specs.Prelude.{ℕ, ◌≡◌, ◌+◌, ◌≤◌, false, [], ◌∷◌, ◌++◌, List, length, Option, Some, None, ⊤}
use Rattle.kms_model.specs.declared.objects.Topology.{Topology}
use Rattle.kms_model.specs.declared.replies.Reply.{Reply}
use Rattle.kms_model.specs.declared.replies.Reply.TheVariants as reply
use Rattle.kms_model.specs.declared.scripts.Command.{Command}
use Rattle.kms_model.specs.declared.scripts.Command.TheVariants as command
use Rattle.kms_model.specs.declared.states.Duplicates.{Duplicates}
use Rattle.kms_model.specs.declared.things.Framebuffer.{Framebuffer}
use Rattle.kms_model.specs.declared.worlds.Thing.{Thing}
use Rattle.kms_model.specs.Device.Sound.{IsDevice}
use Rattle.kms_model.specs.Device.World.{thing_labelled}
use Rattle.kms_model.specs.Machine.State.{Machine}
use Rattle.kms_model.specs.Things.Kept.{MayTake, fbs_taken}
use Rattle.kms_model.specs.Things.Tables.{value_with_id}
use Rattle.kms_regs.specs.File.{RegisterFile, StandsForDevice}
use Rattle.kms_track.specs.InStep.{IsInStep}
use Rattle.kms_track.specs.Tracking.{Tracking}
use Rattle.kms_things.specs.Made.{Made}
use Rattle.kms_core.specs.Freeing.{framebuffers_in, freed_among}
use Rattle.kms_core.specs.Stored.{AreHeld, without_freed}
use Rattle.kms_core.specs.Logs.{Reserved}
use Rattle.kms_core.specs.Stands.{IsWorldOf}

-- these stores stand for their parts of a machine, whose device has so many CRTCs
pub record TellNeeds (t : Topology) (m : Machine) (made : Made) (present : Duplicates) (registers : RegisterFile) (tracker : Tracking)
    (crtcs : ℕ) : Type 0 where
  pub device : IsDevice t
  pub count : t.crtcs ≡ crtcs
  pub world : IsWorldOf t m.device.world made present
  pub written : StandsForDevice t m.device registers
  pub kept : IsInStep t m tracker

-- a framebuffer has one reference, which is not that of being open
abbrev pub HasLast : Option Framebuffer → Type 0
HasLast None = ⊥
HasLast (Some fb) = (fb.is_open ≡ false) × (fb.references ≡ 1)

-- those of some framebuffers are recorded that these stores do not need, and leave the store
pub record Frees (before after : Made) (present : Duplicates) (registers : RegisterFile) (tracker : Tracking) (crtcs : ℕ) (ids : List ℕ)
    (old new : Reserved (ℕ × ℕ)) : Type 0 where
  pub items : (t : Topology) (m : Machine) → TellNeeds t m before present registers tracker crtcs
      → new.items ≡ old.items ++ freed_among t m ids
  pub places : (t : Topology) (m : Machine) → TellNeeds t m before present registers tracker crtcs
      → old.places ≡ new.places + length (freed_among t m ids)
  pub made : (t : Topology) (m : Machine) → TellNeeds t m before present registers tracker crtcs
      → after ≡ record before { fbs = without_freed (freed_among t m ids) before.fbs }

-- nothing is recorded, and as many places are kept
pub record KeepsPlaces (before after : Made) (old new : Reserved (ℕ × ℕ)) : Type 0 where
  pub items : new.items ≡ old.items
  pub places : new.places ≡ old.places
  pub made : after ≡ before

-- a place more is kept, and a reference of a framebuffer is taken
pub record KeepsPlace (before after : Made) (id : ℕ) (old new : Reserved (ℕ × ℕ)) : Type 0 where
  pub items : new.items ≡ old.items
  pub places : new.places ≡ old.places + 1
  pub made : after ≡ record before { fbs = fbs_taken before.fbs id }

-- A framebuffer that was added gets a place, and the device takes a reference; one that was closed is freed where nothing needs it.
-- Other commands free nothing.
abbrev pub Accounts : Made → Made → Duplicates → RegisterFile → Tracking → ℕ → Command → Reply → Reserved (ℕ × ℕ) → Reserved (ℕ × ℕ)
    → Type 0
Accounts before after present registers tracker crtcs (command.AddFb label buffer) (reply.Made id) old new =
    KeepsPlace before after id old new
Accounts before after present registers tracker crtcs (command.CloseFb label) reply.Done old new =
    (u : Thing) → thing_labelled before.things label ≡ Some u → Frees before after present registers tracker crtcs (u.id ∷ []) old new
Accounts before after present registers tracker crtcs _ _ old new = KeepsPlaces before after old new

-- there is a place for the framebuffer that was closed
abbrev pub HasPlaceFor : Made → Command → Reply → ℕ → Type 0
HasPlaceFor made (command.CloseFb label) reply.Done places =
    (u : Thing) → thing_labelled made.things label ≡ Some u → framebuffers_in made.things (u.id ∷ []) ≤ places
HasPlaceFor made _ _ places = ⊤

-- the framebuffer that was added or closed is in the store, with room for a reference
abbrev pub MayAccount : Made → Command → Reply → Type 0
MayAccount made (command.AddFb label buffer) (reply.Made id) = MayTake (value_with_id made.fbs id)
MayAccount made (command.CloseFb label) reply.Done = (u : Thing) → thing_labelled made.things label ≡ Some u → AreHeld made.things made.fbs
    (u.id ∷ [])
MayAccount made _ _ = ⊤
