-- The framebuffers that something refers to, after a command.
use Rattle.std.specs.Prelude.{ℕ, List, [], ◌∷◌, ◌++◌, Option, Some, None}
use Rattle.kms_model.specs.declared.scripts.Command.{Command}
use Rattle.kms_model.specs.declared.scripts.Command.TheVariants as command
use Rattle.kms_model.specs.declared.things.Framebuffer.{Framebuffer}
use Rattle.kms_model.specs.declared.tables.Slot.{Slot}
use Rattle.kms_model.specs.declared.worlds.Thing.{Thing}
use Rattle.kms_model.specs.Device.Execution.{BufferInfo, buffer_of, close_refusal}
use Rattle.kms_model.specs.Device.World.{thing_labelled}
use Rattle.kms_model.specs.Things.Kept.{fbs_closed, framebuffer}
use Rattle.kms_model.specs.Things.Tables.{slot}
use Rattle.kms_things.specs.Made.{Made}

-- a new framebuffer of a buffer has the one reference of being open
abbrev pub fbs_added : Made → ℕ → Option BufferInfo → List (Slot Framebuffer)
fbs_added made client None = made.fbs
fbs_added made client (Some b) =
    made.fbs ++ slot made.next_id (framebuffer client b.id
    (record { id = made.next_id; width = b.width; height = b.height; format = b.format })) ∷ []

-- one that is closed, unless a number refuses it, gives that reference back, and is out where it was the last
abbrev pub fbs_without : Made → ℕ → Option Thing → Option ℕ → List (Slot Framebuffer)
fbs_without made client (Some t) None = fbs_closed made.fbs client t.id
fbs_without made client (Some t) (Some n) = made.fbs
fbs_without made client None refusal = made.fbs

-- the framebuffers with their references after a client's command
abbrev pub fbs_after : Made → ℕ → Command → List (Slot Framebuffer)
fbs_after made client (command.AddFb label buffer) = fbs_added made client (buffer_of made.things client buffer)
fbs_after made client (command.CloseFb label) =
    fbs_without made client (thing_labelled made.things label) (close_refusal client (thing_labelled made.things label))
fbs_after made client (command.Buffer label width height format pattern) = made.fbs
fbs_after made client (command.Mode label m) = made.fbs
fbs_after made client (command.Blob label bytes) = made.fbs
fbs_after made client (command.Destroy label) = made.fbs
fbs_after made client (command.Fence label) = made.fbs
fbs_after made client (command.Signal label) = made.fbs
fbs_after made client (command.Atomic r) = made.fbs
fbs_after made client command.Wait = made.fbs
