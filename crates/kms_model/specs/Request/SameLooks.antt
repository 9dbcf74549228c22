-- Two ways to look up labels that tell the same of a request's labels.
use Rattle.std.specs.Prelude.{◌≡◌, ℕ, List, All, IfSome}
use Rattle.kms_model.specs.declared.scripts.Assign.{Assign}
use Rattle.kms_model.specs.declared.scripts.Value.{Value}
use Rattle.kms_model.specs.declared.worlds.Look.{Look}
use Rattle.kms_model.specs.Request.Lookups.{label_of}

-- of the label that a value names, if it names one
abbrev pub TellsLabel : (ℕ → Look) → (ℕ → Look) → Value → Type 0
TellsLabel f g v = IfSome (label_of v) (λ label. f label ≡ g label)

-- of each label that assignments name
abbrev pub TellsLabels : (ℕ → Look) → (ℕ → Look) → List Assign → Type 0
TellsLabels f g assigns = All (λ a. TellsLabel f g a.value) assigns
