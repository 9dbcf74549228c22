-- Lines of text.
use Rattle.std.specs.Prelude.{ℕ, List, [], ◌∷◌, ◌++◌}

-- words parted by one blank, and a line feed
abbrev pub line : List (List ℕ) → List ℕ
line [] = 10 ∷ []
line (w ∷ []) = w ++ 10 ∷ []
line (w ∷ v ∷ ws) = w ++ 32 ∷ line (v ∷ ws)
