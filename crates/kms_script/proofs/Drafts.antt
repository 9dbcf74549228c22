-- Lines of an input, one after the other, and what follows them.
use Rattle.std.proofs.Common.{◌≡◌, ℕ, ◌+◌, Bool, true, false, List, ◌∷◌, Ok, Err, refl}
use Rattle.std.specs.Prelude.{Result, not}
use Rattle.std.proofs.lemmas.Bool.{and_parts}
use Rattle.kms_model.specs.declared.scripts.Part.{Part}
use Rattle.kms_model.specs.declared.scripts.Part.TheVariants as part
use Rattle.kms_model.specs.Script.InputLines.{Row}
use Rattle.kms_model.specs.Script.Schedules.{ends_script, parts_after}
use Rattle.kms_model.specs.Script.WholeInput.{Draft, is_nil, line_after}
use Rattle.kms_script.specs.declared.faults.ParseError.{ParseError}
use Rattle.kms_script.specs.declared.inputs.Parsed.{Parsed}

-- what was read of an input, or an error
abbrev Answer : Type 0
Answer = Result Parsed ParseError

-- a fault of reading an input
abbrev pub failed : ParseError → Answer
failed e = Err e

pub next_line : (p : Part) (size : ℕ) (d next : Draft) (n : ℕ) (row : Row) (rows : List Row) → ends_script p d row ≡ false
    → line_after d row ≡ Ok next → parts_after p size d n (row ∷ rows) ≡ parts_after p size next (n + 1) rows
unfolding parts_after
next_line p size d next n row rows more e = rw (more, e) refl

not_off : (t : Bool) → not t ≡ true → t ≡ false
not_off false e = refl
not_off true e = absurd cc

-- the line that ends the script comes behind a connector
pub last_is_late : (p : Part) (d : Draft) (row : Row) → ends_script p d row ≡ true → is_nil d.conns ≡ false
last_is_late part.Script d row e = absurd cc
last_is_late part.Schedule d row e = not_off (is_nil d.conns) ((and_parts _ _ ((and_parts row.is_ended _ e).1)).1)
last_is_late part.Report d row e = not_off (is_nil d.conns) ((and_parts _ _ ((and_parts row.is_ended _ e).1)).1)
