-- The lines of an input, put together again, are its bytes.
use Rattle.std.proofs.Common.{◌≡◌, ℕ, Bool, true, false, List, [], ◌∷◌, ◌++◌, cond, refl, sym, ap, ◌∙◌}
use Rattle.std.specs.Prelude.{◌==◌}
use Rattle.std.specs.List.{flat_map, list_all}
use Rattle.std.proofs.lemmas.Bool.{eqb-true}
use Rattle.kms_model.specs.Script.InputLines.{Row, before_rows, rows_of}

-- a line and its line feed
abbrev pub ended_text : Row → List ℕ
ended_text r = r.text ++ 10 ∷ []

-- whether a line feed ends each line
abbrev pub all_ended : List Row → Bool
all_ended rows = list_all (λ r. r.is_ended) rows

-- a byte before the first line, or before none
before_none : (b : ℕ) (rows : List Row) → all_ended (before_rows b rows) ≡ true
    → flat_map ended_text (before_rows b rows) ≡ b ∷ flat_map ended_text rows
before_none b [] e = absurd cc
before_none b (r ∷ rs) e = refl

-- lines behind a first byte that all end, end without it
ended_tail : (b : ℕ) (rows : List Row) → all_ended (before_rows b rows) ≡ true → all_ended rows ≡ true
ended_tail b [] e = refl
ended_tail b (r ∷ rs) e = e

-- a byte more in front, which is a line feed or not
step : (t : Bool) (b : ℕ) (bs : List ℕ) → (b == 10) ≡ t → (all_ended (rows_of bs) ≡ true → flat_map ended_text (rows_of bs) ≡ bs)
    → all_ended (cond t (record { text = []; is_ended = true } ∷ rows_of bs) (before_rows b (rows_of bs))) ≡ true
    → flat_map ended_text (cond t (record { text = []; is_ended = true } ∷ rows_of bs) (before_rows b (rows_of bs))) ≡ b ∷ bs
step true b bs e ih ended = rw (ih ended) (ap (λ x. x ∷ bs) (sym (eqb-true b 10 e)))
step false b bs e ih ended = before_none b (rows_of bs) ended ∙ ap (λ xs. b ∷ xs) (ih (ended_tail b (rows_of bs) ended))

-- the lines, each with a line feed behind it, are the bytes
pub rows_spell : (bytes : List ℕ) → all_ended (rows_of bytes) ≡ true → flat_map ended_text (rows_of bytes) ≡ bytes
unfolding rows_of
rows_spell [] e = refl
rows_spell (b ∷ bs) e = step (b == 10) b bs refl (rows_spell bs) e
