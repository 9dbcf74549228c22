-- A look-up that is not empty has something.
use Rattle.std.proofs.Common.{◌≡◌, Option, Some, None, refl}
use Rattle.std.specs.Prelude.{IsSome}

pub found_some : {T : Type 0} (o : Option T) → (None ≡ o → ⊥) → IsSome o
found_some None never = absurd (never refl)
found_some (Some x) never = refl
