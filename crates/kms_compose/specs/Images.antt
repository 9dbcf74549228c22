-- Images under the ids of framebuffers.
use Rattle.std.specs.Prelude.{◌≡◌, ◌<◌, ℕ, ◌==◌, List, [], ◌∷◌, ◌++◌, Option, Some, None, All, ⊤, if◌then◌else◌}
use Rattle.std.specs.Option.{option_map}
use Rattle.kms_model.specs.declared.objects.Mode.{Mode}
use Rattle.kms_model.specs.declared.pictures.FbInfo.{FbInfo}
use Rattle.kms_model.specs.declared.pictures.Layer.{Layer}
use Rattle.kms_model.specs.declared.pictures.Picture.{Picture}
use Rattle.kms_model.specs.declared.pictures.Picture.TheVariants.{Off, On}
use Rattle.kms_model.specs.declared.things.Image.{Image}
use Rattle.kms_model.specs.declared.worlds.Thing.{Thing}
use Rattle.kms_model.specs.Things.Kept.{Seen}
use Rattle.kms_model.specs.Frames.Shown.{IsSeenAs}
use Rattle.kms_model.specs.Frames.Images.{FitsMode, image_of, seen_word}
use Rattle.kms_compose.specs.declared.images.FbImage.{FbImage}

-- what is read of an image
abbrev pub image_seen : Image → Seen
image_seen i = record { width = i.width; height = i.height; format = i.format; words = i.words.now }

-- what is read of a framebuffer: of the first image under its id
abbrev pub seen_under : List FbImage → ℕ → Option Seen
seen_under [] fb = None
seen_under (i ∷ is) fb = if i.fb == fb then Some (image_seen i.image) else seen_under is fb

-- the word of a framebuffer at (x, y)
abbrev pub word_under : List FbImage → ℕ → ℕ → ℕ → Option ℕ
word_under images fb x y = option_map (λ s. seen_word s x y) (seen_under images fb)

-- there is an image of a framebuffer, in its size and with a word for each pixel
abbrev pub HasImage : List FbImage → FbInfo → Type 0
HasImage images fb = IsSeenAs (seen_under images fb.id) fb

-- a layer that can be shown in a mode over these images
pub record IsShowable (m : Mode) (images : List FbImage) (l : Layer) : Type 0 where
  pub placed : FitsMode m l
  pub image : HasImage images l.fb

-- a layer that can be shown in some mode, whose sizes have 16 bits
pub record IsShown (images : List FbImage) (l : Layer) : Type 0 where
  pub mode : Mode
  pub narrow : mode.hdisplay < 65536
  pub low : mode.vdisplay < 65536
  pub showable : IsShowable mode images l

-- a picture that can be shown over these images
abbrev pub CanShow : List FbImage → Picture → Type 0
CanShow images Off = ⊤
CanShow images (On p) = All (IsShowable p.mode images) p.layers

-- each image is that of a framebuffer among the things
abbrev pub AreImagesIn : List Thing → List FbImage → Type 0
AreImagesIn things images = All (λ i. image_of things i.fb ≡ Some (image_seen i.image)) images

-- the images of the framebuffers of layers are found among some
abbrev pub AreSeen : List Thing → List FbImage → List Layer → Type 0
AreSeen things images layers = All (λ l. seen_under images l.fb.id ≡ image_of things l.fb.id) layers

-- the image of a framebuffer among the things comes behind those before it
pub record IsPushed (things : List Thing) (fb : ℕ) (old new : List FbImage) : Type 0 where
  pub image : FbImage
  pub pushed : new ≡ old ++ image ∷ []
  pub id : image.fb ≡ fb
  pub found : image_of things fb ≡ Some (image_seen image.image)
