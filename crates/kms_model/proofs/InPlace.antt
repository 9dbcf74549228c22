-- Layers in place stay in place.
use Rattle.std.proofs.Common.{◌≡◌, ℕ, ◌+◌, ◌-◌, ◌<◌, List, length, take, drop, set, replicate, sym, ap, ◌∙◌, arith, length-take}
use Rattle.std.proofs.Math.ListN.{length-set}
use Rattle.std.proofs.lemmas.List.{drop-set-lt, drop-replicate, drop-drop}
use Rattle.kms_model.specs.declared.pictures.Layer.{Layer}
use Rattle.kms_model.specs.Frames.LayersInPlace.{IsInPlace, blank_layer}

one_fewer : (items : List Layer) (count : ℕ) → drop count items ≡ replicate (16 - count) blank_layer → drop (count + 1) items
    ≡ replicate (16 - (count + 1)) blank_layer
one_fewer items count unused =
    let fewer : (16 - count) - 1 ≡ 16 - (count + 1) = omega arith in
    sym (drop-drop 1 count items) ∙ ap (λ (xs : List Layer). drop 1 xs) unused ∙ drop-replicate 1 (16 - count) blank_layer ∙ ap
    (λ (n : ℕ). replicate n blank_layer) fewer

-- one layer more
pub pushed : (items : List Layer) (count : ℕ) (layer : Layer) → IsInPlace items count → length (take count items) < 16
    → IsInPlace (set items count layer) (count + 1)
pushed items count layer h room = record {
  long = length-set items count layer ∙ h.long;
  within = omega (arith, length-take count items, h.long, h.within);
  unused = drop-set-lt (count + 1) items count layer (omega arith) ∙ one_fewer items count h.unused;
}
