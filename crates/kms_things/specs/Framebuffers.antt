-- What a framebuffer of a buffer is.
use Rattle.std.specs.Prelude.{ℕ, Bool, Option, Some, None, if◌then◌else◌}
use Rattle.std.specs.Option.{option_map}
use Rattle.kms_model.specs.declared.pictures.FbInfo.{FbInfo}
use Rattle.kms_model.specs.declared.worlds.Thing.{Thing}
use Rattle.kms_model.specs.Device.Execution.{BufferInfo, buffer_of, is_framebuffer}
use Rattle.kms_things.specs.Made.{Made}

-- a framebuffer with the size and the format of a buffer, and the buffer's id
abbrev pub framebuffer_with : ℕ → BufferInfo → FbInfo × ℕ
framebuffer_with id b = (record { id = id; width = b.width; height = b.height; format = b.format }, b.id)

-- the framebuffer that a client's buffer under a label gets with the next id
abbrev pub new_framebuffer : Made → ℕ → ℕ → Option (FbInfo × ℕ)
new_framebuffer made client label = option_map (framebuffer_with made.next_id) (buffer_of made.things client label)

-- a framebuffer's label, and whether it is open; nothing of a thing that is none
abbrev pub framebuffer_entry : Option Thing → Option (ℕ × Bool)
framebuffer_entry None = None
framebuffer_entry (Some t) = if is_framebuffer t.content then Some (t.label, t.is_open) else None
