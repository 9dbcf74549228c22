-- Commits whose tails are not cleaned are looked for from one found to the next.
use Rattle.std.proofs.Common.{ℕ, ◌+◌, ◌-◌, ◌<◌, Fits, Some, arith}
use mir.Syntax.{w32}
use Rattle.kms_track.specs.MachineLaws.{FindsFirst}
use Rattle.kms_core.specs.Run.{Run}
use Rattle.kms_core.specs.Stands.{Stores, Stands}
use Rattle.kms_core.proofs.stores.Seeking.{few_tails, goes_up, less_left}

module _ {r : Run} {st : Stores} (stands : Stands r st) (from k : ℕ) (first : FindsFirst st.tracker from (Some k)) where
  -- there is a number behind the one found
  pub more_fits : Fits w32 (k + 1)
  more_fits = (let l = (goes_up from k (few_tails stands) first).fits in omega (arith, l))

  -- and fewer are left from there
  pub fewer_left : 4294967296 - (k + 1) < 4294967296 - from
  fewer_left = less_left from k (few_tails stands) first
