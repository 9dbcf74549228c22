use Rattle.std.proofs.Common.{◌≡◌, [], ◌∷◌, rules}
use Rattle.kms_text_tests.proofs.BothShown.{both_shown}
use Rattle.kms_text_tests.proofs.spots.picture.Goals as goal

pub returns : goal.returns
returns c =
    let layers : c.push-2.new.self ≡ c.layer.result ∷ c.layer-2.result ∷ [] = search rules in
    both_shown c.sized_mode-mode.result c.layer.result c.layer-2.result c.push-2.new.self layers c.layer.ensures.fits c.layer-2.ensures.fits
    c.layer.ensures.fb c.layer-2.ensures.fb
