-- How things are kept: in order of making, with an index of labels and the words of buffers.
use Rattle.std.specs.Prelude.{◌≡◌, ℕ, ◌+◌, true, List, length, nat_eq, Option, Some, None, Result, Ok, Err}
use Rattle.std.specs.Option.{option_map}
use Rattle.std.specs.HashMap.{HashMap, get}
use Rattle.std.specs.declared.hash.BuildHasherDefault.{BuildHasherDefault}
use Rattle.std.specs.declared.hash.FoldHasher.{FoldHasher}
use Rattle.kms_model.specs.declared.things.Buffer.{Buffer}
use Rattle.kms_model.specs.declared.things.Framebuffer.{Framebuffer}
use Rattle.kms_model.specs.declared.tables.Slot.{Slot}
use Rattle.kms_model.specs.declared.worlds.Content.{Content}
use Rattle.kms_model.specs.declared.worlds.Thing.{Thing}
use Rattle.kms_model.specs.Device.Execution.{is_blob}
use Rattle.kms_model.specs.Device.World.{thing_labelled, thing_with_id}
use Rattle.kms_model.specs.Things.Tables.{AreBelow}
use Rattle.kms_model.specs.Device.Sound.{AreNumbered}
use Rattle.kms_model.specs.Frames.Shown.{AreFramed}
use Rattle.kms_model.specs.declared.replies.TheConstants.Denied.{INVALID_SIZE, NO_BUFFER_SPACE}
use Rattle.kms_buffers.specs.declared.buffers.MakeError.{MakeError}
use Rattle.kms_buffers.specs.declared.buffers.MakeError.TheVariants as error
use Rattle.kms_buffers.specs.Things.{buffer_in, buffers_of, fb_of_content, open_fbs, open_fbs_of}

-- ids by labels
abbrev pub Ids : Type 0
Ids = HashMap ℕ ℕ (BuildHasherDefault FoldHasher)

-- the id under a label
abbrev pub id_under : Ids → ℕ → Option ℕ
id_under ids label = get nat_eq ids label

-- the id of the thing that was made under a label, if any
abbrev pub id_labelled : List Thing → ℕ → Option ℕ
id_labelled things label = option_map (λ t. t.id) (thing_labelled things label)

-- each label is kept with the id of the thing that was made under it
abbrev pub IsIndex : Ids → List Thing → Type 0
IsIndex ids things = (label : ℕ) → id_under ids label ≡ id_labelled things label

-- What is kept beside the things: they are numbered, the next one gets the next id, labels are indexed, buffers have
-- their words, and framebuffers their buffers.
pub record AreKept (things : List Thing) (next_id : ℕ) (ids : Ids) (buffers : List (Slot Buffer)) : Type 0 where
  pub numbered : AreNumbered 1000 things
  pub next : next_id ≡ 1000 + length things
  pub indexed : IsIndex ids things
  pub words : buffers ≡ buffers_of things
  pub framed : AreFramed things

-- What is kept of the framebuffers that something refers to: their ids are below the next one, and the open ones are
-- those among the things.
pub record AreReferred (things : List Thing) (next_id : ℕ) (fbs : List (Slot Framebuffer)) : Type 0 where
  pub below : AreBelow next_id fbs
  pub same : open_fbs_of things ≡ open_fbs fbs

-- the same of all
pub record IsStore (things : List Thing) (next_id : ℕ) (ids : Ids) (buffers : List (Slot Buffer)) (fbs : List (Slot Framebuffer)) : Type 0
  where
    pub kept : AreKept things next_id ids buffers
    pub referred : AreReferred things next_id fbs

-- neither a buffer nor a framebuffer
pub record IsPlain (c : Content) : Type 0 where
  pub wordless : (id owner : ℕ) → buffer_in id owner c ≡ None
  pub unreferred : (owner : ℕ) → fb_of_content owner c ≡ None

-- the thing with an id is a blob
abbrev pub IsBlobAt : List Thing → ℕ → Type 0
IsBlobAt things id = option_map (λ t. is_blob t.content) (thing_with_id things id) ≡ Some true

-- the number with which an answer of the store of buffers refuses a buffer
abbrev pub number_told : Result ℕ MakeError → Option ℕ
number_told (Ok total) = None
number_told (Err error.BadSize) = Some INVALID_SIZE.0
number_told (Err (error.Space total)) = Some NO_BUFFER_SPACE.0
number_told (Err error.NoMemory) = None

-- an open thing of a client
abbrev pub open_thing : ℕ → ℕ → ℕ → Content → Thing
open_thing label id owner content = record { label = label; id = id; owner = owner; content = content; is_open = true }
