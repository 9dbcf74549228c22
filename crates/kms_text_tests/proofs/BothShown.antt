-- Two layers of two pixels can be shown wherever there is an image of it.
use Rattle.std.proofs.Common.{◌≡◌, List, [], ◌∷◌, arith}
use Rattle.std.specs.Prelude.{All}
use Rattle.std.proofs.lemmas.List.Elements.{All-push}
use Rattle.kms_model.specs.declared.objects.Mode.{Mode}
use Rattle.kms_model.specs.declared.pictures.Layer.{Layer}
use Rattle.kms_model.specs.Frames.Images.{FitsMode}
use Rattle.kms_compose.specs.declared.images.FbImage.{FbImage}
use Rattle.kms_compose.specs.Images.{HasImage, IsShowable}
use Rattle.kms_text_tests.specs.Spots.{spot_fb}

pub both_shown : (m : Mode) (a b : Layer) (layers : List Layer) → layers ≡ a ∷ b ∷ [] → FitsMode m a → FitsMode m b
    → a.fb ≡ spot_fb → b.fb ≡ spot_fb → (images : List FbImage) → HasImage images spot_fb → All (IsShowable m images) layers
both_shown m a b layers is fits_a fits_b of_a of_b images has = rw is (
    All-push (IsShowable m images) (a ∷ []) b
    (All-push (IsShowable m images) [] a (λ k d h. absurd (omega arith)) (record { placed = fits_a; image = rw of_a has }))
    (record { placed = fits_b; image = rw of_b has }))
