-- What a CRTC shows, as it can be composed. From: "Frame Buffer Abstraction"; "Plane Composition Properties".
use Rattle.std.specs.Prelude.{◌≡◌, ℕ, ◌*◌, List, All, length, Option, Some, ⊤}
use Rattle.std.specs.List.{AllByRecursion}
use Rattle.kms_model.specs.declared.objects.Mode.{Mode}
use Rattle.kms_model.specs.declared.pictures.FbInfo.{FbInfo}
use Rattle.kms_model.specs.declared.pictures.Layer.{Layer}
use Rattle.kms_model.specs.declared.pictures.Picture.{Picture}
use Rattle.kms_model.specs.declared.pictures.Picture.TheVariants.{Off, On}
use Rattle.kms_model.specs.declared.worlds.Content.{Content}
use Rattle.kms_model.specs.declared.worlds.Content.TheVariants as content
use Rattle.kms_model.specs.declared.worlds.Thing.{Thing}
use Rattle.kms_model.specs.Device.Execution.{BufferInfo, buffer_info}
use Rattle.kms_model.specs.Device.World.{thing_with_id}
use Rattle.kms_model.specs.Frames.Images.{FitsMode, image_of}
use Rattle.kms_model.specs.Things.Kept.{Seen}

-- Framebuffers and their buffers

-- the id, the size and the format of the buffer that a framebuffer says it is of
abbrev pub shown_buffer : FbInfo → ℕ → BufferInfo
shown_buffer info buffer = record { id = buffer; width = info.width; height = info.height; format = info.format }

-- what is known of a framebuffer: its id is the thing's, and its buffer is one of its size and format
pub record IsFramed (things : List Thing) (id : ℕ) (info : FbInfo) (buffer : ℕ) : Type 0 where
  pub own_id : info.id ≡ id
  pub own_buffer : (b : Thing) × ((thing_with_id things buffer ≡ Some b) × (buffer_info b.id b.content ≡ Some (shown_buffer info buffer)))

-- the same of a thing, where it is a framebuffer
abbrev pub FramesIn : List Thing → ℕ → Content → Type 0
FramesIn things id (content.Framebuffer info buffer) = IsFramed things id info buffer
FramesIn things id _ = ⊤

-- each framebuffer has its own id, and a buffer of its size and format
abbrev pub AreFramed : List Thing → Type 0
AreFramed things = AllByRecursion (λ t. FramesIn things t.id t.content) things

-- Layers

-- what is seen is there, in a framebuffer's size and with a word for each of its pixels
pub record IsSeenAs (found_seen : Option Seen) (fb : FbInfo) : Type 0 where
  pub seen : Seen
  pub found : found_seen ≡ Some seen
  pub width : seen.width ≡ fb.width
  pub height : seen.height ≡ fb.height
  pub words : length seen.words ≡ fb.width * fb.height

-- a framebuffer of the things, with a word for each pixel of its buffer
abbrev pub HasWords : List Thing → FbInfo → Type 0
HasWords things fb = IsSeenAs (image_of things fb.id) fb

-- a layer that can be shown in a mode
pub record CanBeShown (things : List Thing) (m : Mode) (l : Layer) : Type 0 where
  pub placed : FitsMode m l
  pub words : HasWords things l.fb

-- each layer of a picture can be shown
abbrev pub EachCanBeShown : List Thing → Picture → Type 0
EachCanBeShown things Off = ⊤
EachCanBeShown things (On p) = All (CanBeShown things p.mode) p.layers
