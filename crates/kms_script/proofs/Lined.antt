-- Lines of an input, one after the other.
use Rattle.std.proofs.Common.{◌≡◌, ℕ, ◌-◌, ◌<◌, ◌≤◌, Bool, true, false, List, [], ◌∷◌, length, take, drop, cond, refl, sym, ap, ◌∙◌, arith}
use Rattle.std.specs.Prelude.{◌==◌}
use Rattle.std.proofs.lemmas.List.{nil_from_length}
use Rattle.std.proofs.Math.Seq.{take-length}
use Rattle.kms_model.specs.Script.Words.{until, from}
use Rattle.kms_model.specs.Script.InputLines.{Row, before_rows, rows_of}
use Rattle.kms_model.proofs.Facts.{tail-of}

abbrev row : List ℕ → Bool → Row
row text ended = record { text = text; is_ended = ended }

split_step : (t : Bool) (b c : ℕ) (bs cs : List ℕ) → (from 10 bs ≡ c ∷ cs → rows_of bs ≡ row (until 10 bs) true ∷ rows_of cs)
    → cond t (b ∷ bs) (from 10 bs) ≡ c ∷ cs
    → cond t (row [] true ∷ rows_of bs) (before_rows b (rows_of bs)) ≡ row (cond t [] (b ∷ until 10 bs)) true ∷ rows_of cs
split_step true b c bs cs ih e = ap (λ (xs : List ℕ). row [] true ∷ rows_of xs) (tail-of b c bs cs e)
split_step false b c bs cs ih e = rw (ih e) refl

pub rows-split : (bs : List ℕ) (c : ℕ) (cs : List ℕ) → from 10 bs ≡ c ∷ cs → rows_of bs ≡ row (until 10 bs) true ∷ rows_of cs
unfolding rows_of
rows-split [] c cs e = absurd cc
rows-split (b ∷ bs) c cs e = split_step (b == 10) b c bs cs (rows-split bs c cs) e

not_ten : (t : Bool) (b : ℕ) (bs : List ℕ) → cond t (b ∷ bs) (from 10 bs) ≡ [] → (t ≡ false) × (from 10 bs ≡ [])
not_ten true b bs e = absurd cc
not_ten false b bs e = (refl, e)

pub rows-cut : (b : ℕ) (bs : List ℕ) → from 10 (b ∷ bs) ≡ [] → rows_of (b ∷ bs) ≡ row (b ∷ bs) false ∷ []
unfolding rows_of
rows-cut b [] e = let n = not_ten (b == 10) b [] e in rw n.0 refl
rows-cut b (c ∷ cs) e = let n = not_ten (b == 10) b (c ∷ cs) e in rw (n.0, rows-cut c cs n.1) refl

split_at : (bs xs : List ℕ) → from 10 bs ≡ xs → 1 ≤ length xs
    → rows_of bs ≡ row (until 10 bs) true ∷ rows_of (take (length xs - 1) (drop 1 xs))
split_at bs [] e long = absurd (omega arith)
split_at bs (c ∷ cs) e long =
    let k : length (c ∷ cs) - 1 ≡ length cs = omega arith in
    rw (k, take-length cs) (rows-split bs c cs e)

pub split_after : (bs text after : List ℕ) → text ≡ until 10 bs → after ≡ from 10 bs → 1 ≤ length after
    → rows_of bs ≡ row text true ∷ rows_of (take (length after - 1) (drop 1 after))
split_after bs text after t e long = rw (t, e) (split_at bs (from 10 bs) refl (rw e at long))

pub cut_all : (bs after : List ℕ) → 0 < length bs → after ≡ from 10 bs → length after < 1 → rows_of bs ≡ row bs false ∷ []
cut_all [] after some e short = absurd (omega arith)
cut_all (b ∷ bs) after some e short = rows-cut b bs (sym e ∙ nil_from_length after (omega arith))

no_rows : (after : List ℕ) → length after < 1 → rows_of after ≡ []
unfolding rows_of
no_rows [] short = refl
no_rows (b ∷ bs) short = absurd (omega arith)

-- a last line without a line feed, and no line behind it
pub cut_row_alone : (bs after : List ℕ) → 0 < length bs → after ≡ from 10 bs → length after < 1 → rows_of bs ≡ row bs false ∷ rows_of after
cut_row_alone bs after some e short = rw (no_rows after short) (cut_all bs after some e short)
