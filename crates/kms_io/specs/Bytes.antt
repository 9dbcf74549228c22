-- What one call of a source or a sink moves, and what a whole run moves.
use Rattle.std.specs.Prelude.{◌≡◌, ◌<◌, ◌≤◌, ◌↔◌, ℕ, List, [], ◌++◌, length, Result, IfOk, Option, IfSome}
use Rattle.std.specs.Io.KnownBytes.{Consumes, Appends}

-- where it is told what is left, a read that does not fail gives 0 bytes exactly where nothing is left
abbrev pub EndsExactly : {E : Type 0} → Option (List ℕ) → Result ℕ E → Type 0
EndsExactly left result = IfOk result (λ n. IfSome left (λ bytes. (n ≡ 0) ↔ (bytes ≡ [])))

-- one write takes from 1 byte to all of the piece
abbrev pub WritesSome : {E : Type 0} → Result ℕ E → List ℕ → Type 0
WritesSome result piece = IfOk result (λ n. (0 < n) × (n ≤ length piece))

-- `front` stands at the front of `whole`
abbrev pub Begins : List ℕ → List ℕ → Type 0
Begins whole front = (rest : List ℕ) × (whole ≡ front ++ rest)

-- Bytes were taken from the front of what was left, and bytes were put behind what was written, and P holds of both.
pub record Moved (left left_after written written_after : Option (List ℕ)) (P : List ℕ → List ℕ → Type 0) : Type 0 where
  pub took : List ℕ
  pub put : List ℕ
  pub taken : Consumes left left_after took
  pub added : Appends written written_after put
  pub holds : P took put
