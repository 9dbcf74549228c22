-- Each script has one spelling, and bytes within the limit spell what is read of them.
use Rattle.std.proofs.Common.{◌≡◌, ℕ, ◌≤◌, Bool, true, false, List, length, cond, Some, Ok, Err, refl, sym, ap, ◌∙◌, arith}
use Rattle.std.specs.Prelude.{Result, nat_lt}
use Rattle.std.proofs.lemmas.Bool.{le-ltb}
use Rattle.kms_model.specs.declared.scripts.Script.{Script}
use Rattle.kms_model.specs.Script.InputLines.{Fault, rows_of, input_limit}
use Rattle.kms_model.specs.Script.WholeInput.{Draft, blank_draft, drafted, input, lines_after, script_in, script_limit}
use Rattle.kms_model.specs.Script.Spelling.{Spells, spelling, spelt_lines}
use Rattle.kms_script.proofs.Inverted.{map_some}
use Rattle.kms_script.proofs.RowsSpelt.{rows_are_text}
use Rattle.kms_script.proofs.SpelledRows.{rows_spell}
use Rattle.kms_script.proofs.WithinLimit.{bytes_in, read_is_spelt, spelt_is_read}

-- bytes that spell a script are its spelling
pub one_spelling : (bytes : List ℕ) (s : Script) → Spells bytes s → spelling s ≡ bytes
one_spelling bytes s e =
    let d = map_some script_in (spelt_lines blank_draft (rows_of bytes)) s e in
    let text = rows_are_text d.value (rows_of bytes) d.given in
    ap spelling (sym d.makes) ∙ sym text.1 ∙ rows_spell bytes text.0

-- the last draft of a script that was read
record Drafted (r : Result Draft Fault) (s : Script) : Type 0 where
  last : Draft
  is : r ≡ Ok last
  makes : script_in last ≡ s

-- a script that was read has a last draft
is_drafted : (r : Result Draft Fault) (s : Script) → drafted r ≡ Ok s → Drafted r s
is_drafted (Ok d) s e = record { last = d; is = refl; makes = cc }
is_drafted (Err fault) s e = absurd cc

-- an input that was read is not too long
short : (long : Bool) (fault : Fault) (r : Result Script Fault) (s : Script) → cond long (Err fault) r ≡ Ok s → r ≡ Ok s
short true fault r s e = absurd cc
short false fault r s e = e

-- bytes of which a script is read spell it
pub spelt_where_read : (bytes : List ℕ) (s : Script) → input bytes ≡ Ok s → Spells bytes s
unfolding input
spelt_where_read bytes s e =
    let d = is_drafted (lines_after blank_draft 1 (rows_of bytes)) s (short (nat_lt input_limit (length bytes)) _ _ s e) in
    rw (read_is_spelt 0 1 blank_draft d.last (rows_of bytes) d.is) (ap Some d.makes)

-- bytes that spell a script, and are no more than a script may have, are read as it
pub read_where_spelt : (bytes : List ℕ) (s : Script) → Spells bytes s → length bytes ≤ script_limit → input bytes ≡ Ok s
unfolding input
read_where_spelt bytes s e le =
    let d = map_some script_in (spelt_lines blank_draft (rows_of bytes)) s e in
    let ended = (rows_are_text d.value (rows_of bytes) d.given).0 in
    let all : bytes_in (rows_of bytes) ≡ length bytes = ap length (rows_spell bytes ended) in
    let read = spelt_is_read 0 1 blank_draft d.value (rows_of bytes) d.given (omega (arith, all, le)) in
    rw (le-ltb input_limit (length bytes) (omega (arith, le)), read, d.makes) refl

-- the text of a script that bytes spell is read as it, where it is no more than a script may have
pub read_where_printed : (text bytes : List ℕ) (s : Script) → text ≡ spelling s → Spells bytes s → length text ≤ script_limit
    → input text ≡ Ok s
read_where_printed text bytes s is spells le =
    let same : text ≡ bytes = is ∙ one_spelling bytes s spells in
    rw same (read_where_spelt bytes s spells (rw same at le))
