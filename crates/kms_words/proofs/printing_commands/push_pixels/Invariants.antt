-- The pixels so far were added.
use Rattle.std.proofs.Common.{◌≡◌, ◌++◌, ◌∷◌, take}
use Rattle.std.specs.List.{flat_map}
use Rattle.kms_model.specs.Script.Spelling.{pixel_word}
use Rattle.kms_words.proofs.printing_commands.push_pixels.Given as goal

abbrev pub invariant-loop-pixel : goal.invariant-loop-pixel
invariant-loop-pixel l = l.text.items ≡ l.initial.text.items ++ flat_map (λ p. 32 ∷ pixel_word l.format p) (take l.pixel-index l.pixels)
