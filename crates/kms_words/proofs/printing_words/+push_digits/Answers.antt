use Rattle.std.proofs.Common.{◌≡◌, ◌-◌, ◌/◌, ◌%◌, false, [], ◌∷◌, ◌++◌, arith, rules}
use Rattle.std.specs.Fmt.{digit_glyph}
use Rattle.kms_model.specs.Script.Spelling.{hex_digits}
use Rattle.kms_words.proofs.Listing.{digit_added}
use Rattle.kms_words.proofs.printing_words.+push_digits.Goals as goal

pub returns : goal.returns
returns t c =
    let before : c.push_digits.new.text.items ≡ c.args.text.now.items ++ hex_digits (c.args.count - 1) (c.args.number / 16) = search rules
    in
    let now : c.push.new.self.items ≡ c.push_digits.new.text.items ++ digit_glyph false (c.args.number % 16) ∷ [] = search rules in
    digit_added _ _ _ c.args.count c.args.number (omega arith) before now
