-- Pictures of a framebuffer of two pixels, which tests show.
use Rattle.std.specs.Prelude.{List}
use Rattle.kms_model.specs.declared.objects.Format.TheVariants.{Xr24}
use Rattle.kms_model.specs.declared.pictures.FbInfo.{FbInfo}
use Rattle.kms_model.specs.declared.pictures.Picture.{Picture}
use Rattle.kms_compose.specs.declared.images.FbImage.{FbImage}
use Rattle.kms_compose.specs.Images.{CanShow, HasImage}

-- a framebuffer of two pixels, one above the other
abbrev pub spot_fb : FbInfo
spot_fb = record { id = 1000; width = 1; height = 2; format = Xr24 }

-- a picture that can be shown wherever there is an image of it
abbrev pub ShowsSpots : Picture → Type 0
ShowsSpots p = (images : List FbImage) → HasImage images spot_fb → CanShow images p
