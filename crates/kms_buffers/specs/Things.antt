-- The stores and the things of the one-thread device: the store of buffers has its buffers, and the open framebuffers
-- of the other store are its open framebuffers.
use Rattle.std.specs.Prelude.{ℕ, List, Option, Some, None, if◌then◌else◌}
use Rattle.std.specs.List.{filter_map}
use Rattle.kms_model.specs.declared.things.Buffer.{Buffer}
use Rattle.kms_model.specs.declared.things.Framebuffer.{Framebuffer}
use Rattle.kms_model.specs.declared.tables.Slot.{Slot}
use Rattle.kms_model.specs.declared.worlds.Content.{Content}
use Rattle.kms_model.specs.declared.worlds.Content.TheVariants as content
use Rattle.kms_model.specs.declared.worlds.Thing.{Thing}
use Rattle.kms_model.specs.Things.OpenThings.{open_values}
use Rattle.kms_model.specs.Things.Kept.{buffer, framebuffer}
use Rattle.kms_model.specs.Things.Tables.{slot}

-- the buffer that a content is
abbrev pub buffer_in : ℕ → ℕ → Content → Option (Slot Buffer)
buffer_in id owner (content.Buffer width height format pattern) = Some (slot id (buffer owner width height format pattern))
buffer_in id owner (content.Framebuffer info of) = None
buffer_in id owner (content.Mode m) = None
buffer_in id owner (content.Blob bytes) = None
buffer_in id owner content.Fence = None
buffer_in id owner content.OutFence = None

-- the buffers among things (no buffer is closed)
abbrev pub buffers_of : List Thing → List (Slot Buffer)
buffers_of things = filter_map (λ t. buffer_in t.id t.owner t.content) things

-- the framebuffer that a content is, as it was added
abbrev pub fb_of_content : ℕ → Content → Option Framebuffer
fb_of_content owner (content.Framebuffer info of) = Some (framebuffer owner of info)
fb_of_content owner (content.Buffer width height format pattern) = None
fb_of_content owner (content.Mode m) = None
fb_of_content owner (content.Blob bytes) = None
fb_of_content owner content.Fence = None
fb_of_content owner content.OutFence = None

-- the open framebuffers among things
abbrev pub open_fbs_of : List Thing → List (Slot Framebuffer)
open_fbs_of things = open_values fb_of_content things

-- an open framebuffer of a store, as it was added
abbrev pub open_slot : Slot Framebuffer → Option (Slot Framebuffer)
open_slot s = if s.value.is_open then Some (slot s.id (framebuffer s.value.owner s.value.buffer s.value.info)) else None

-- the open framebuffers of a store
abbrev pub open_fbs : List (Slot Framebuffer) → List (Slot Framebuffer)
open_fbs fbs = filter_map open_slot fbs
