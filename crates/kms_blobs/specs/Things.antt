-- The store and the things of the one-thread device: the store has the open blobs among them.
use Rattle.std.specs.Prelude.{ℕ, List, Option, Some, None}
use Rattle.kms_model.specs.declared.things.Blob.{Blob}
use Rattle.kms_model.specs.declared.tables.Slot.{Slot}
use Rattle.kms_model.specs.declared.worlds.Content.{Content}
use Rattle.kms_model.specs.declared.worlds.Content.TheVariants as content
use Rattle.kms_model.specs.declared.worlds.Thing.{Thing}
use Rattle.kms_model.specs.Device.ModeBytes.{mode_bytes}
use Rattle.kms_model.specs.Things.OpenThings.{open_values}
use Rattle.kms_model.specs.Things.Kept.{blob}

-- a blob of bytes, or a mode, whose blob has the mode's bytes
abbrev pub blob_in : ℕ → Content → Option Blob
blob_in owner (content.Blob bytes) = Some (blob owner bytes)
blob_in owner (content.Mode m) = Some (blob owner (mode_bytes m))
blob_in owner (content.Buffer width height format pattern) = None
blob_in owner (content.Framebuffer info buffer) = None
blob_in owner content.Fence = None
blob_in owner content.OutFence = None

-- the open blobs among things
abbrev pub blobs_of : List Thing → List (Slot Blob)
blobs_of things = open_values blob_in things
