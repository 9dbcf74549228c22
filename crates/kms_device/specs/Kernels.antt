-- What the lock keeps of the machine.
use Rattle.std.specs.Prelude.{◌≡◌, ◌⊎◌, ℕ, Bool, true, false, List, All, slice_index_or}
use Rattle.kms_model.specs.declared.replies.Step.{Step}
use Rattle.kms_model.specs.declared.replies.Step.TheVariants.{Stall, Vblank}
use Rattle.kms_core.specs.Run.{Run, gains}
use Rattle.kms_laws.specs.Blankings.{blankings}
use Rattle.kms_device.specs.Steps.{owner}

-- numbers in their order are how many vblanks each CRTC had
abbrev pub AreBlankingCounts : List ℕ → List Step → Type 0
AreBlankingCounts counts steps = (crtc : ℕ) → slice_index_or counts crtc 0 ≡ blankings crtc steps

-- a step neither ends the history nor is a vblank
abbrev pub is_plain : Step → Bool
is_plain Stall = false
is_plain (Vblank kind index) = false
is_plain _ = true

-- a history goes on by such steps
pub record AddsPlain (before after : Run) : Type 0 where
  pub steps : List Step
  pub now : after ≡ gains before steps
  pub plain : All (λ step. is_plain step ≡ true) steps

-- by such steps, each nobody's or a client's
pub record AddsPlainOf (client : ℕ) (before after : Run) : Type 0 where
  pub adds : AddsPlain before after
  pub owners : All (λ step. (owner step ≡ 0) ⊎ (owner step ≡ client)) adds.steps
