-- What a contract sees of a source and of a sink in memory.
use Rattle.std.specs.Prelude.{ℕ, List}

-- a source in memory
pub record SourceState : Type 0 where
  -- the bytes that are left
  pub left : List ℕ
  -- the most that one call gives
  pub step : ℕ
  -- the numbers, counted from 1, of the calls that fail
  pub fails : List ℕ
  -- how many calls were made, and how many of them failed, each up to 2^64 - 1
  pub calls : ℕ
  pub faults : ℕ

-- a sink in memory
pub record SinkState : Type 0 where
  -- the bytes that were written
  pub written : List ℕ
  -- how many bytes it can hold in all
  pub room : ℕ
  -- the most that one call takes
  pub step : ℕ
  -- the numbers, counted from 1, of the calls that fail whatever room there is
  pub fails : List ℕ
  -- how many calls were made, and how many of them failed, each up to 2^64 - 1
  pub calls : ℕ
  pub faults : ℕ
