-- What a thread did with a player that it took from the queue. From: this device's own.
use Rattle.std.specs.Prelude.{◌≡◌, ◌⊎◌, ◌≤◌, ℕ, Option, Some, None}
use Rattle.kms_pool.specs.declared.player.Turn.{Turn}
use Rattle.kms_pool.specs.declared.player.Turn.TheVariants.{Ended, NotYet}

module _ {P : Type 0} (answer : P → Option Turn) (looked : P → P → ℕ → Type 0) where
  -- A look told that the history is no longer than it was when the player's next event was not legal.
  pub record FindsNoMore (before after : P) : Type 0 where
    pub found : ℕ
    pub told : ℕ
    pub waits : answer before ≡ Some (NotYet found)
    pub looks : looked before after told
    pub no_more : told ≤ found

  -- nothing would come of a turn: the player has ended, or the history is no longer
  abbrev pub IsSpared : P → P → Type 0
  IsSpared before after = ((answer before ≡ Some Ended) × (after ≡ before)) ⊎ FindsNoMore before after

  -- The player had a turn, which began where it was left, or after a look.
  pub record HasTurn (took : P → P → Turn → Type 0) (before after : P) (turn : Turn) : Type 0 where
    pub taker : P
    pub begins : (taker ≡ before) ⊎ ((told : ℕ) × looked before taker told)
    pub turns : took taker after turn

  -- it was given a turn that came to an answer, or none
  abbrev pub Plays : (P → P → Turn → Type 0) → P → P → Option Turn → Type 0
  Plays took before after None = IsSpared before after
  Plays took before after (Some turn) = HasTurn took before after turn
