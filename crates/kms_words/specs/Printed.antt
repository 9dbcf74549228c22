-- What the printer adds to a text, piece by piece.
use Rattle.std.specs.Prelude.{ℕ, List, ◌∷◌}
use Rattle.std.specs.Fmt.{decimal}
use Rattle.std.specs.List.{flat_map}
use Rattle.kms_model.specs.Script.Spelling.{format_at_bit, format_word}
use Rattle.kms_words.specs.declared.printing_words.Items.{Items}
use Rattle.kms_words.specs.declared.printing_words.Items.TheVariants.{Crtcs, Formats}

-- words, each with a blank before it
abbrev pub fields : List (List ℕ) → List ℕ
fields words = flat_map (λ w. 32 ∷ w) words

-- how many bits a set of a kind has
abbrev pub bits_in : Items → ℕ
bits_in Crtcs = 4
bits_in Formats = 3

-- the word of a bit
abbrev pub item_word : Items → ℕ → List ℕ
item_word Crtcs bit = decimal bit
item_word Formats bit = format_word (format_at_bit bit)
