-- How a list of at most 16 layers is kept in place.
use Rattle.std.specs.Prelude.{◌≡◌, ℕ, ◌-◌, ◌≤◌, List, ◌++◌, length, take, drop, replicate, pos, None}
use Rattle.std.proofs.Common.{sym, ap, subst, ◌∙◌}
use Rattle.std.proofs.lemmas.List.{take-append-drop, length-take-le}
use Rattle.kms_model.specs.declared.objects.Format.TheVariants.{Xr24}
use Rattle.kms_model.specs.declared.pictures.Layer.{Layer}
use Rattle.kms_model.specs.declared.pictures.Rect.{Rect}

abbrev pub nowhere : Rect
nowhere = record { x = pos 0; y = pos 0; w = pos 0; h = pos 0 }

-- what an unused place holds
abbrev pub blank_layer : Layer
blank_layer = record {
  plane = 0;
  fb = record { id = 0; width = 0; height = 0; format = Xr24 };
  dst = nowhere;
  src = nowhere;
  visible =
      None;
  alpha = 0;
  blend = 0;
}

-- 16 places, of which the unused ones are blank
pub record IsInPlace (items : List Layer) (count : ℕ) : Type 0 where
  pub long : length items ≡ 16
  pub within : count ≤ 16
  pub unused : drop count items ≡ replicate (16 - count) blank_layer

-- the places that hold these layers
abbrev pub in_place : List Layer → List Layer
in_place layers = layers ++ replicate (16 - length layers) blank_layer

pub count_again : (items : List Layer) (count : ℕ) → IsInPlace items count → length (take count items) ≡ count
count_again items count h = length-take-le count items (subst (λ n. count ≤ n) (sym h.long) h.within)

pub items_again : (items : List Layer) (count : ℕ) → IsInPlace items count → take count items ++ replicate (16 - count) blank_layer ≡ items
items_again items count h = ap (λ (unused : List Layer). take count items ++ unused) (sym h.unused) ∙ take-append-drop count items
