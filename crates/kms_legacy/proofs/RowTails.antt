-- The bytes behind a line of an input.
use Rattle.std.proofs.Common.{◌≡◌, ℕ, Bool, true, false, List, [], ◌∷◌, ◌++◌, cond, refl, ap, subst, ◌∙◌}
use Rattle.std.specs.Prelude.{◌==◌, drop, length}
use Rattle.std.proofs.lemmas.Bool.{eqb-true, false≢true}
use Rattle.kms_model.specs.Script.InputLines.{Row, before_rows, rows_of}

-- a line that a line feed ends
abbrev ended_row : List ℕ → Row
ended_row text = record { text = text; is_ended = true }

-- a line with a byte more in front
abbrev longer : ℕ → Row → Row
longer b r = record { text = b ∷ r.text; is_ended = r.is_ended }

-- lines behind the first one are those of the bytes behind it
pub record HasTail (xs : List ℕ) (row : Row) (rows : List Row) : Type 0 where
  pub tail : List ℕ
  pub text : xs ≡ row.text ++ 10 ∷ tail
  pub others : rows ≡ rows_of tail

before_step : (b : ℕ) (bs : List ℕ) (found : List Row) (row : Row) (rows : List Row) → rows_of bs ≡ found
    → ((r : Row) (rs : List Row) → rows_of bs ≡ r ∷ rs → r.is_ended ≡ true → HasTail bs r rs)
    → before_rows b found ≡ row ∷ rows → row.is_ended ≡ true → HasTail (b ∷ bs) row rows
before_step b bs [] row rows is ih e ended =
    let cut : record { text = b ∷ []; is_ended = false } ≡ row = cc in
    absurd (false≢true (ap (λ (r : Row). r.is_ended) cut ∙ ended))
before_step b bs (r ∷ rs) row rows is ih e ended =
    let head : longer b r ≡ row = cc in
    let tail : rs ≡ rows = cc in
    let h = ih r rs is (ap (λ (x : Row). x.is_ended) head ∙ ended) in
    subst (λ (x : Row). HasTail (b ∷ bs) x rows) head
    (subst (λ (xs : List Row). HasTail (b ∷ bs) (longer b r) xs) tail
    (record { tail = h.tail; text = ap (λ (xs : List ℕ). b ∷ xs) h.text; others = h.others }))

feed_step : (t : Bool) (b : ℕ) (bs : List ℕ) (row : Row) (rows : List Row) → (t ≡ true → b ≡ 10)
    → ((r : Row) (rs : List Row) → rows_of bs ≡ r ∷ rs → r.is_ended ≡ true → HasTail bs r rs)
    → cond t (ended_row [] ∷ rows_of bs) (before_rows b (rows_of bs)) ≡ row ∷ rows → row.is_ended ≡ true → HasTail (b ∷ bs) row rows
feed_step true b bs row rows feed ih e ended =
    let head : ended_row [] ≡ row = cc in
    let tail : rows_of bs ≡ rows = cc in
    subst (λ (x : Row). HasTail (b ∷ bs) x rows) head
    (subst (λ (xs : List Row). HasTail (b ∷ bs) (ended_row []) xs) tail
    (record { tail = bs; text = ap (λ (k : ℕ). k ∷ bs) (feed refl); others = refl }))
feed_step false b bs row rows feed ih e ended = before_step b bs (rows_of bs) row rows refl ih e ended

pub rows_tail : (xs : List ℕ) (row : Row) (rows : List Row) → rows_of xs ≡ row ∷ rows → row.is_ended ≡ true → HasTail xs row rows
unfolding rows_of
rows_tail [] row rows e ended = absurd cc
rows_tail (b ∷ bs) row rows e ended = feed_step (b == 10) b bs row rows (eqb-true b 10) (rows_tail bs) e ended

-- what is left behind a front
pub drop_front : (front rest : List ℕ) → drop (length front) (front ++ rest) ≡ rest
drop_front [] rest = refl
drop_front (b ∷ bs) rest = drop_front bs rest
