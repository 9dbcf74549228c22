-- An input that was read, and what was written of its answer.
use Rattle.std.proofs.Common.{ℕ, List, Option}
use Rattle.std.specs.Io.KnownBytes.{Consumes}
use Rattle.kms_io.specs.Bytes.{Moved}
use Rattle.kms_run.specs.Outcome.{Wrote}

pub moved_on : (left left' written written' : Option (List ℕ)) (input : List ℕ) (P : List ℕ → List ℕ → Type 0)
    → Consumes left left' input → Wrote written written' (P input) → Moved left left' written written' P
moved_on left left' written written' input P taken wrote =
    record { took = input; put = wrote.put; taken = taken; added = wrote.added; holds = wrote.holds }
