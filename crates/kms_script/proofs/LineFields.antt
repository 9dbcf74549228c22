-- The fields of a line as the words that they are read of.
use Rattle.std.proofs.Common.{◌≡◌, ℕ, Bool, true, false, cond, List, [], ◌∷◌, ◌++◌, append_assoc, Some, None, refl, sym, ap, ◌∙◌}
use Rattle.std.specs.Prelude.{◌==◌}
use Rattle.std.specs.List.{onto_first}
use Rattle.std.proofs.lemmas.Bool.{eqb-true}
use Rattle.kms_model.specs.Script.Grammar.{parted, field_words}
use Rattle.kms_model.specs.Report.TextLines.{line}
use Rattle.kms_model.specs.Script.Words.{until, from, strip, field_at, end_at}
use Rattle.kms_model.proofs.Facts.{tail-of}
use Rattle.kms_script.proofs.Inverted.{if_some, some_same}
use Rattle.kms_words.proofs.Parts.{later_parts, first_part}

-- words with a blank before each, and what follows them
abbrev pub fields_to : List (List ℕ) → List ℕ → List ℕ
fields_to [] after = after
fields_to (w ∷ ws) after = 32 ∷ (w ++ fields_to ws after)

-- a line is its first word and the fields of the others
pub line_fields : (k : List ℕ) (ws : List (List ℕ)) → line (k ∷ ws) ≡ k ++ fields_to ws (10 ∷ [])
line_fields k [] = refl
line_fields k (w ∷ ws) = ap (λ (bs : List ℕ). k ++ (32 ∷ bs)) (line_fields w ws)

-- what follows fields
pub fields_end : (ws : List (List ℕ)) (after more : List ℕ) → fields_to ws after ++ more ≡ fields_to ws (after ++ more)
fields_end [] after more = refl
fields_end (w ∷ ws) after more =
    ap (λ (bs : List ℕ). 32 ∷ bs) (append_assoc w (fields_to ws after) more ∙ ap (λ (bs : List ℕ). w ++ bs) (fields_end ws after more))

-- one field more in front
pub then_fields : (w : List ℕ) (ws : List (List ℕ)) (after rest bytes : List ℕ) → 32 ∷ (w ++ rest) ≡ bytes → fields_to ws after ≡ rest
    → fields_to (w ∷ ws) after ≡ bytes
then_fields w ws after rest bytes first more = rw (← first, more) refl

split_step : (t : Bool) (c b : ℕ) (bs : List ℕ) → until c bs ++ from c bs ≡ bs
    → cond t [] (b ∷ until c bs) ++ cond t (b ∷ bs) (from c bs) ≡ b ∷ bs
split_step true c b bs ih = refl
split_step false c b bs ih = ap (λ (xs : List ℕ). b ∷ xs) ih

-- the bytes before the first separator and from it on are all
pub until_from : (c : ℕ) (bs : List ℕ) → until c bs ++ from c bs ≡ bs
until_from c [] = refl
until_from c (b ∷ bs) = split_step (b == c) c b bs (until_from c bs)

-- a field that was read, with its blank, and what follows it
pub field_spelt : (bytes : List ℕ) (f : List ℕ × List ℕ) → field_at bytes ≡ Some f → 32 ∷ (f.0 ++ f.1) ≡ bytes
unfolding field_at
field_spelt [] f e = absurd cc
field_spelt (b ∷ bs) f e =
    let read = if_some (b == 32) (Some (until 32 bs, from 32 bs)) f e in
    let blank : b ≡ 32 = eqb-true b 32 read.0 in
    let same : (until 32 bs, from 32 bs) ≡ f = some_same (until 32 bs, from 32 bs) f read.1 in
    rw (← same, blank, until_from 32 bs) refl

strip_step : (t : Bool) (p b : ℕ) (ps bs rest : List ℕ) → (t ≡ true → p ≡ b) → (strip ps bs ≡ Some rest → ps ++ rest ≡ bs)
    → cond t (strip ps bs) None ≡ Some rest → p ∷ (ps ++ rest) ≡ b ∷ bs
strip_step true p b ps bs rest same ih e = rw (same refl, ih e) refl
strip_step false p b ps bs rest same ih e = absurd cc

-- a front that was taken away
pub strip_spelt : (front bytes rest : List ℕ) → strip front bytes ≡ Some rest → front ++ rest ≡ bytes
strip_spelt [] bytes rest e = sym (some_same bytes rest e)
strip_spelt (p ∷ ps) [] rest e = absurd cc
strip_spelt (p ∷ ps) (b ∷ bs) rest e = strip_step (p == b) p b ps bs rest (eqb-true p b) (strip_spelt ps bs rest) e

-- nothing is left at the end
pub end_spelt : (bytes : List ℕ) (u : Unit {0}) → end_at bytes ≡ Some u → [] ≡ bytes
end_spelt [] u e = refl
end_spelt (b ∷ bs) u e = absurd cc

-- one byte more at the front of the first word
onto_fields : (b : ℕ) (w : List ℕ) (ws : List (List ℕ)) (bs : List ℕ) → w ++ fields_to ws [] ≡ bs
    → fields_to (onto_first b (w ∷ ws)) [] ≡ 32 ∷ b ∷ bs
onto_fields b w ws bs e = ap (λ (xs : List ℕ). 32 ∷ b ∷ xs) e

parted_step : (t : Bool) (b : ℕ) (bs : List ℕ) → (t ≡ true → b ≡ 32) → fields_to (parted 32 bs) [] ≡ 32 ∷ bs
    → fields_to (cond t ([] ∷ parted 32 bs) (onto_first b (parted 32 bs))) [] ≡ 32 ∷ b ∷ bs
parted_step true b bs same ih = rw (same refl, ih) refl
parted_step false b bs same ih =
    let first : fields_to (until 32 bs ∷ later_parts 32 (from 32 bs)) [] ≡ 32 ∷ bs = rw first_part at ih in
    rw (first_part 32 bs) (onto_fields b (until 32 bs) (later_parts 32 (from 32 bs)) bs (tail-of 32 32 _ _ first))

-- the parts between blanks, with a blank before each, are the bytes
parted_fields : (bs : List ℕ) → fields_to (parted 32 bs) [] ≡ 32 ∷ bs
parted_fields [] = refl
parted_fields (b ∷ bs) = parted_step (b == 32) b bs (eqb-true b 32) (parted_fields bs)

-- all words up to the end of a line
pub words_spelt : (bytes : List ℕ) (ws : List (List ℕ)) → field_words bytes ≡ Some ws → fields_to ws [] ≡ bytes
words_spelt [] ws e = rw (← some_same [] ws e) refl
words_spelt (b ∷ bs) ws e =
    let read = if_some (b == 32) (Some (parted 32 bs)) ws e in
    let blank : b ≡ 32 = eqb-true b 32 read.0 in
    rw (← some_same (parted 32 bs) ws read.1, blank) (parted_fields bs)
