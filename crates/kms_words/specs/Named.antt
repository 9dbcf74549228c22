-- The names that the reader keeps, as the definitions see them, and how many there may be.
use Rattle.std.specs.Prelude.{◌≡◌, ◌<◌, ◌≤◌, ◌+◌, ◌^◌, Bool, true, ℕ, List, [], ◌∷◌, Option, option_map, length, take}
use Rattle.std.specs.List.{list_any}
use Rattle.std.specs.Ordering.{is_eq, nat_cmp}
use Rattle.kms_model.specs.declared.scripts.Assign.{Assign}
use Rattle.kms_model.specs.Script.CommandLines.{Name, Names, assigns_read, label_alone, making, place, saying, unmade}
use Rattle.kms_model.specs.Script.Grammar.{field_words}
use Rattle.kms_model.specs.Script.Words.{◌>>=◌}

-- the words of the lines before, in a script with a profile
pub record Indexed : Type 0 where
  pub profile : ℕ
  pub words : List (List ℕ)

-- the names so far, and those that were there before
pub record HeldNames : Type 0 where
  pub names : Names
  pub before : Indexed

-- whether a number is among numbers
abbrev pub is_in_numbers : List ℕ → ℕ → Bool
is_in_numbers numbers n = list_any (λ m. is_eq (nat_cmp n m)) numbers

-- words from a number on, as names of which those with some numbers are made
abbrev pub marked_names : (ℕ → Bool) → ℕ → List (List ℕ) → List Name
marked_names is_made n [] = []
marked_names is_made n (w ∷ ws) = record { word = w; is_made = is_made n } ∷ marked_names is_made (n + 1) ws

-- a profile, words with their numbers, how many of them were there before, the numbers of labels that are made, how often
-- one was made, and whether one was made twice
abbrev pub held : ℕ → List (List ℕ) → ℕ → List ℕ → ℕ → Bool → HeldNames
held profile words earlier numbers count twice =
    record {
      names = record { profile = profile; all = marked_names (is_in_numbers numbers) 0 words; made = count; is_twice = twice };
      before = record { profile = profile; words = take earlier words };
    }

-- the numbers are those of words, and so many were there before
pub record AreMade (words : List (List ℕ)) (count : ℕ) (numbers : List ℕ) : Type 0 where
  pub below : (n : ℕ) → is_in_numbers numbers n ≡ true → n < length words
  pub before : count ≤ length words

-- words that were all there before, of which no line makes one
abbrev pub kept : ℕ → List (List ℕ) → HeldNames
kept profile words = record { names = unmade profile words; before = record { profile = profile; words = words } }

-- So many names more have numbers below 2^32.
pub record HasRoomForNames (names : Names) (more : ℕ) : Type 0 where
  pub all : length names.all + more ≤ 2 ^ 32
  pub made : names.made + more ≤ 2 ^ 63

-- Names that became others have at most so many more.
pub record NamesGrow (old new : Names) (more : ℕ) : Type 0 where
  pub all : length new.all ≤ length old.all + more
  pub made : new.made ≤ old.made + more

-- the assignments of all fields of a line's bytes, and the names after them
abbrev pub assigns_at : Names → List ℕ → Option (List Assign × Names)
assigns_at names bytes = field_words bytes >>= assigns_read names

-- the number of the one label of a line's bytes, which the line makes or says, and the names after it
abbrev pub made_alone : Names → List ℕ → Option (ℕ × Names)
made_alone names bytes = option_map (λ label. (place label names, making label names)) (label_alone bytes)

abbrev pub said_alone : Names → List ℕ → Option (ℕ × Names)
said_alone names bytes = option_map (λ label. (place label names, saying label names)) (label_alone bytes)
