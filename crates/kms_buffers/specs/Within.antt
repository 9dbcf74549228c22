-- What a store keeps.
use Rattle.std.specs.Prelude.{◌≡◌, ℕ, ◌≤◌, List}
use Rattle.kms_model.specs.declared.things.Buffer.{Buffer}
use Rattle.kms_model.specs.declared.tables.Slot.{Slot}
use Rattle.kms_model.specs.declared.things.Framebuffer.{Framebuffer}
use Rattle.kms_model.specs.Things.Kept.{bytes_of, largest_bytes, AreCounted}
use Rattle.kms_model.specs.Things.Tables.{IsRising}

-- this is how many bytes all buffers have, and it is not too many
pub record IsCounted (bytes : ℕ) (buffers : List (Slot Buffer)) : Type 0 where
  pub counted : bytes ≡ bytes_of buffers
  pub within : bytes ≤ largest_bytes

-- each framebuffer has a reference, and their ids rise
pub record AreStored (fbs : List (Slot Framebuffer)) : Type 0 where
  pub counted : AreCounted fbs
  pub rising : IsRising fbs
