-- What the answers of the calls say.
use Rattle.std.specs.Prelude.{◌≡◌, ℕ, Option, Some, None, option_map}
use Rattle.kms_model.specs.declared.replies.Refusal.{Refusal}
use Rattle.kms_request.specs.declared.errors.RequestError.{RequestError}
use Rattle.kms_request.specs.declared.errors.RequestError.TheVariants.{Of, NoMemory}

-- the number of a refusal
abbrev pub refusal_number : Option Refusal → Option ℕ
refusal_number refusal = option_map (λ r. r.0) refusal

-- An error comes from a first refusal, or from none: the refusal, or want of memory where there is none.
abbrev pub ComesFrom : Option ℕ → RequestError → Type 0
ComesFrom first (Of refusal) = first ≡ Some refusal.0
ComesFrom first NoMemory = first ≡ None
