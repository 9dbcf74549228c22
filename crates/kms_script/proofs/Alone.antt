-- What was read of an input, and of one that has a script alone.
use Rattle.std.proofs.Common.{◌≡◌, ℕ, ◌+◌, Bool, true, false, List, [], ◌∷◌, cond, Ok, Err, refl, sym, ◌∙◌, subst}
use Rattle.std.specs.Prelude.{IfOk, Result, length, nat_lt}
use Rattle.kms_model.specs.declared.scripts.Part.{Part}
use Rattle.kms_model.specs.declared.scripts.Part.TheVariants as part
use Rattle.kms_model.specs.declared.scripts.Script.{Script}
use Rattle.kms_model.specs.declared.scripts.Why.TheVariants.{Limit}
use Rattle.kms_model.specs.Script.InputLines.{Fault, Row, input_limit, rows_of}
use Rattle.kms_model.specs.Script.Schedules.{Parts, input_of, parts_after}
use Rattle.kms_model.specs.Script.Spelling.{Spells, spelling}
use Rattle.kms_model.specs.Script.WellFormed.{IsWellFormed}
use Rattle.kms_model.specs.Script.WholeInput.{Draft, Lined, blank_draft, drafted, input, is_nil, line_after, lines_after, missing_line}
use Rattle.kms_model.specs.Script.WholeInput.{or_fault}
use Rattle.kms_script.specs.declared.faults.ParseError.{ParseError}
use Rattle.kms_script.specs.declared.faults.ParseError.TheVariants as errors
use Rattle.kms_script.specs.declared.inputs.Parsed.{Parsed}
use Rattle.kms_words.specs.Fitting.{KeepsLimits}
use Rattle.kms_script.specs.Stated.{Gives, parts_in, parts_of}
use Rattle.kms_script.proofs.Formed.{well_formed}
use Rattle.kms_script.proofs.Fronts.{front_spells}
use Rattle.kms_script.proofs.OneSpelling.{spelt_where_read}

abbrev Answer : Type 0
Answer = Result Parsed ParseError

-- what was read within the limits is a well-formed script
pub read_well : (p : Part) (bytes : List ℕ) (r : Answer) → Gives parts_in r (input_of p bytes) → IfOk r (λ x. KeepsLimits x.script)
    → IfOk r (λ x. IsWellFormed x.script)
read_well p bytes (Ok x) value limits = well_formed (spelling x.script) x.script limits (front_spells p bytes (parts_in x) value)
read_well p bytes (Err e) value limits = tt

-- a script alone, with nothing behind it
abbrev pub alone : ℕ → Result Script Fault → Result Parts Fault
alone size (Ok s) = Ok (parts_of s [] size)
alone size (Err fault) = Err fault

pub end_alone : (none : Bool) (size n : ℕ) (d : Draft) → cond none (Err (missing_line n)) (alone size (drafted (Ok d))) ≡ alone size
    (drafted (cond none (Err (missing_line n)) (Ok d)))
end_alone true size n d = refl
end_alone false size n d = refl

pub line_alone : (size n : ℕ) (r : Lined) (f : Draft → Result Parts Fault) (g : Draft → Result Draft Fault)
    → ((d : Draft) → f d ≡ alone size (drafted (g d))) → or_fault n r f ≡ alone size (drafted (or_fault n r g))
line_alone size n (Ok d) f g same = same d
line_alone size n (Err why) f g same = refl

lines_alone : (size n : ℕ) (d : Draft) (rows : List Row)
    → parts_after part.Script size d n rows ≡ alone size (drafted (lines_after d n rows))
unfolding parts_after lines_after
lines_alone size n d [] = end_alone (is_nil d.conns) size n d
lines_alone size n d (row ∷ rows) = line_alone size n (line_after d row) _ _ (λ next. lines_alone size (n + 1) next rows)

pub sized_alone : (long : Bool) (fault : Fault) (size : ℕ) (r : Result Script Fault) (p : Result Parts Fault) → p ≡ alone size r
    → cond long (Err fault) p ≡ alone size (cond long (Err fault) r)
sized_alone true fault size r p same = refl
sized_alone false fault size r p same = same

input_alone : (bytes : List ℕ) → input_of part.Script bytes ≡ alone (length bytes) (input bytes)
unfolding input_of input
input_alone bytes = sized_alone (nat_lt input_limit (length bytes)) (record { line = 0; why = Limit }) (length bytes) _ _
    (lines_alone (length bytes) 1 blank_draft (rows_of bytes))

pub given_alone : (size : ℕ) (r : Result Script Fault) (x : Parts) → alone size r ≡ Ok x → r ≡ Ok x.script
given_alone size (Ok s) x e = cc
given_alone size (Err fault) x e = absurd cc

pub fault_alone : (size : ℕ) (r : Result Script Fault) (fault : Fault) → alone size r ≡ Err fault → r ≡ Err fault
fault_alone size (Ok s) fault e = absurd cc
fault_alone size (Err other) fault e = cc

script_given : (bytes : List ℕ) (r : Answer) → Gives parts_in r (input_of part.Script bytes) → Gives (λ x. x.script) r (input bytes)
script_given bytes (Ok x) e = given_alone (length bytes) (input bytes) (parts_in x) (sym (input_alone bytes) ∙ e)
script_given bytes (Err (errors.Fault line why)) e =
    fault_alone (length bytes) (input bytes) (record { line = line; why = why }) (sym (input_alone bytes) ∙ e)
script_given bytes (Err errors.NoMemory) e = tt

-- what is read of an input that has a script alone is the input's script
pub read_alone : (p : Part) (bytes : List ℕ) (r : Answer) → Gives parts_in r (input_of p bytes) → p ≡ part.Script
    → Gives (λ x. x.script) r (input bytes)
read_alone p bytes r e is = script_given bytes r (subst (λ (q : Part). Gives parts_in r (input_of q bytes)) is e)

script_spells : (bytes : List ℕ) (r : Answer) → Gives (λ x. x.script) r (input bytes) → IfOk r (λ x. Spells bytes x.script)
script_spells bytes (Ok x) e = spelt_where_read bytes x.script e
script_spells bytes (Err e) is = tt

pub spells_alone : (p : Part) (bytes : List ℕ) (r : Answer) → Gives parts_in r (input_of p bytes) → p ≡ part.Script
    → IfOk r (λ x. Spells bytes x.script)
spells_alone p bytes r e is = script_spells bytes r (read_alone p bytes r e is)
