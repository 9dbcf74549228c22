-- Words with numbers, kept beside a map that finds them.
use Rattle.std.specs.Prelude.{◌≡◌, ◌+◌, Bool, ℕ, List, [], ◌∷◌, Option, Some, None, option_map, if◌then◌else◌}
use Rattle.std.specs.Cmp.Lexicographic.{slice_cmp}
use Rattle.std.specs.List.{IsDistinct}
use Rattle.std.specs.Map.{lookup}
use Rattle.std.specs.Ordering.{is_eq, nat_cmp}
use Rattle.std.specs.Str.{bytes_eq}
use Rattle.std.specs.declared.alloc.Global.{Global}
use Rattle.std.specs.declared.vec.Vec.{Vec}

-- a word's place among words, where it is one of them
abbrev pub place_among : List ℕ → List (List ℕ) → Option ℕ
place_among word [] = None
place_among word (w ∷ ws) = if bytes_eq word w then Some 0 else option_map (λ n. n + 1) (place_among word ws)

-- whether a key of the map has a word's bytes
abbrev pub has_bytes : List ℕ → Vec ℕ Global → Bool
has_bytes word key = is_eq (slice_cmp nat_cmp word key.items)

-- the words differ, and the map finds each word's place among them
pub record AreFound (words : List (List ℕ)) (entries : List (Vec ℕ Global × ℕ)) : Type 0 where
  pub differ : IsDistinct bytes_eq words
  pub found : (word : List ℕ) → lookup (has_bytes word) entries ≡ place_among word words
