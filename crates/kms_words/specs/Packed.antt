-- Labels as numbers: those that a line makes are compared so.
use Rattle.std.specs.Prelude.{ℕ, ◌+◌, ◌*◌, List, [], ◌∷◌, filter, map, if◌then◌else◌}
use Rattle.std.specs.List.{flat_map}
use Rattle.kms_model.specs.Script.CommandLines.{Name}
use Rattle.kms_model.specs.Script.Words.{is_label}

-- the words of names that are made
abbrev pub made_words : List Name → List (List ℕ)
made_words names = map (λ n. n.word) (filter (λ n. n.is_made) names)

-- a word as a number, whose digits to the base 256 are its bytes
abbrev pub packed : List ℕ → ℕ
packed [] = 0
packed (b ∷ bs) = b + 256 * packed bs

-- a label as a number
abbrev pub packed_alone : List ℕ → List ℕ
packed_alone word = if is_label word then packed word ∷ [] else []

-- the numbers of those words that are labels
abbrev pub packed_all : List (List ℕ) → List ℕ
packed_all words = flat_map packed_alone words
