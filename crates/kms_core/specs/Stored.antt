-- The framebuffers that a machine's store has: those that are needed, and no others. From: "Frame Buffer Abstraction",
-- drm_framebuffer_get, drm_framebuffer_put.
use Rattle.std.specs.Prelude.{ℕ, ◌≡◌, Bool, true, List, [], ◌∷◌, Option, Some, None, if◌then◌else◌, ⊤}
use Rattle.kms_model.specs.declared.objects.Topology.{Topology}
use Rattle.kms_model.specs.declared.things.Framebuffer.{Framebuffer}
use Rattle.kms_model.specs.declared.tables.Slot.{Slot}
use Rattle.kms_model.specs.declared.worlds.Content.{Content}
use Rattle.kms_model.specs.declared.worlds.Content.TheVariants as content
use Rattle.kms_model.specs.declared.worlds.Thing.{Thing}
use Rattle.kms_model.specs.Device.World.{thing_with_id}
use Rattle.kms_model.specs.Machine.Framebuffers.{is_needed}
use Rattle.kms_model.specs.Machine.State.{Machine}
use Rattle.kms_model.specs.Things.Tables.{value_with_id, without_id}

-- A framebuffer as the store has it: with one reference of the device, which is taken once it is added and given back by the step
-- that frees it, and one of being open.
abbrev pub held_as : Thing → Content → Option Framebuffer
held_as thing (content.Framebuffer info buffer) =
    Some (record {
      owner = thing.owner;
      buffer = buffer;
      info = info;
      is_open = thing.is_open;
      references = if thing.is_open then 2
          else 1;
    })
held_as thing (content.Buffer width height format pattern) = None
held_as thing (content.Mode m) = None
held_as thing (content.Blob bytes) = None
held_as thing content.Fence = None
held_as thing content.OutFence = None

-- a thing that passes a test, as the store has it
abbrev pub held_where : (Thing → Bool) → Option Thing → Option Framebuffer
held_where test None = None
held_where test (Some thing) = if test thing then held_as thing thing.content else None

-- a store has the framebuffers that are needed
abbrev pub AreStored : Topology → Machine → List (Slot Framebuffer) → Type 0
AreStored t m fbs = (id : ℕ) → value_with_id fbs id ≡ held_where (is_needed t m) (thing_with_id m.device.world.things id)

-- a store has those of some candidates that are framebuffers
abbrev pub AreHeld : List Thing → List (Slot Framebuffer) → List ℕ → Type 0
AreHeld things fbs [] = ⊤
AreHeld things fbs (id ∷ ids) = (value_with_id fbs id ≡ held_where (λ thing. true) (thing_with_id things id)) × AreHeld things fbs ids

-- a store without framebuffers that were freed, each told by its label and its id
abbrev pub without_freed : List (ℕ × ℕ) → List (Slot Framebuffer) → List (Slot Framebuffer)
without_freed [] fbs = fbs
without_freed (entry ∷ entries) fbs = without_freed entries (without_id fbs entry.1)
