-- When players have come to rest. From: this device's own.
use Rattle.std.specs.Prelude.{◌≡◌, ◌⊎◌, ℕ, Option, Some, List, All}
use Rattle.kms_pool.specs.declared.player.Turn.{Turn}
use Rattle.kms_pool.specs.declared.player.Turn.TheVariants.{NotYet, Ended}

-- the player has ended, or answered that its next event was not legal in a history of this length
abbrev pub Rests : ℕ → Option Turn → Type 0
Rests n answer = (answer ≡ Some Ended) ⊎ (answer ≡ Some (NotYet n))

-- all have ended, or all that have not ended answered so at one length
abbrev pub AllRest : {P : Type 0} → (P → Option Turn) → List P → Type 0
AllRest answer players = (n : ℕ) × All (λ p. Rests n (answer p)) players
