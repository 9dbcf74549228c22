use Rattle.std.proofs.Common.{◌≡◌, ◌∷◌, ◌++◌, List, ℕ, codes, ap, sym, rules}
use Rattle.std.specs.Prelude.{OnOk}
use Rattle.std.specs.List.{flat_map}
use Rattle.kms_words.specs.Printed.{fields}
use Rattle.kms_model.specs.Script.Spelling.{pixel_word, pattern_words}
use Rattle.kms_words.proofs.Spaced.{added, fields-map}
use Rattle.kms_words.proofs.printing_commands.push_pattern.Goals as goal

pub returns-in_ok-push_word-in-Pixels : goal.returns-in_ok-push_word-in-Pixels
returns-in_ok-push_word-in-Pixels c =
    let format = c.args.format in
    let pixels = c.in-Pixels.pixels in
    let keyword : c.push_word-in-Pixels.new.text.items ≡ c.args.text.now.items ++ 32 ∷ codes "pixels" = search rules in
    let words : OnOk c.push_pixels.result (c.push_pixels.new.text.items ≡ c.push_word-in-Pixels.new.text.items
    ++ flat_map (λ p. 32 ∷ pixel_word format p) pixels) = search rules in
    let both : (32 ∷ codes "pixels") ++ flat_map (λ p. 32 ∷ pixel_word format p) pixels
    ≡ fields (pattern_words format c.args.pattern.now) = rw c.in-Pixels.is
    (ap (λ (bs : List ℕ). (32 ∷ codes "pixels") ++ bs) (sym (fields-map (pixel_word format) pixels))) in
    added c.push_pixels.result _ _ _ _ _ _ keyword words both
