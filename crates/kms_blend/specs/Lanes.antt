-- Vectors of 16 lanes.
use Rattle.std.specs.Prelude.{◌≡◌, ◌<◌, ◌≤◌, ℕ, ◌+◌, ◌-◌, ◌*◌, min, if◌then◌else◌, nat_lt, List, length, slice_index}

-- the lanes of a vector, by index
pub record HasLanes (v : List ℕ) (lane : ℕ → ℕ) : Type 0 where
  pub count : length v ≡ 16
  pub lanes : (i : ℕ) → i < 16 → slice_index v i ≡ lane i

-- no lane is above a number
abbrev pub IsAtMost : ℕ → List ℕ → Type 0
IsAtMost most v = (i : ℕ) → i < 16 → slice_index v i ≤ most

-- each lane is 0 or 255
abbrev pub IsTest : List ℕ → Type 0
IsTest v = (i : ℕ) → i < 16 → slice_index v i ≡ (if nat_lt (slice_index v i) 1 then 0 else 255)

-- no product with a number needs more than 31 bits
abbrev pub HasSmallProducts : ℕ → List ℕ → Type 0
HasSmallProducts a v = (i : ℕ) → i < 16 → a * slice_index v i < 2147483648

-- a sum that is bounded before half of the denominator is added
abbrev pub bounded : ℕ → ℕ → ℕ → ℕ
bounded most half n = min most n + half

-- how far apart two numbers are
abbrev pub apart : ℕ → ℕ → ℕ
apart u v = (u - v) + (v - u)

-- a channel that goes so far towards another one: up where that one's number is the upper one, to 255 at most, else down
abbrev pub moved : ℕ → ℕ → ℕ → ℕ → ℕ
moved to from b by = if nat_lt from to then min 255 (b + by) else b - by

-- 16 places of a row from one on are blended, and the others are as they were
pub record AreBlended (blend : ℕ → ℕ → ℕ → ℕ) (q f old new : List ℕ) (at : ℕ) : Type 0 where
  pub before : (k : ℕ) → k < at → slice_index new k ≡ slice_index old k
  pub blended : (k : ℕ) → at ≤ k → k < at + 16 → slice_index new k ≡ blend (slice_index q k) (slice_index f k) (slice_index old k)
  pub behind : (k : ℕ) → at + 16 ≤ k → slice_index new k ≡ slice_index old k
