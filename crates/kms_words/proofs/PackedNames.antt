-- The numbers of names that lines make, one name after the other.
use Rattle.std.proofs.Common.{◌≡◌, ℕ, ◌+◌, Bool, true, false, zero, suc, List, [], ◌∷◌, ◌++◌, length, take, cond, Some, append-nil}
use Rattle.std.proofs.Common.{append_assoc, refl, sym, ap, ◌∙◌, arith}
use Rattle.std.specs.Prelude.{slice_get}
use Rattle.kms_model.specs.Script.CommandLines.{Name}
use Rattle.kms_words.specs.Named.{is_in_numbers, marked_names}
use Rattle.kms_words.specs.Packed.{made_words, packed_all, packed_alone}

abbrev numbers_of : List Name → List ℕ
numbers_of names = packed_all (made_words names)

-- the number of one name, where a line makes it
abbrev pub number_where : Bool → List ℕ → List ℕ
number_where made word = cond made (packed_alone word) []

first_number : (b : Bool) (w : List ℕ) (ns : List Name)
    → numbers_of (record { word = w; is_made = b } ∷ ns) ≡ number_where b w ++ numbers_of ns
first_number true w ns = refl
first_number false w ns = refl

pub number_after : (f : ℕ → Bool) (k : ℕ) (ws : List (List ℕ)) (i : ℕ) (w : List ℕ) → slice_get ws i ≡ Some w
    → packed_all (made_words (marked_names f k (take (i + 1) ws))) ≡ packed_all (made_words (marked_names f k (take i ws)))
    ++ number_where (f (k + i)) w
number_after f k [] i w e = absurd cc
number_after f k (v ∷ ws) zero w e =
    let same : v ≡ w = cc in
    let at : k + 0 ≡ k = omega arith in
    rw (same, at) (first_number (f k) w [] ∙ append-nil (number_where (f k) w))
number_after f k (v ∷ ws) (suc i) w e =
    let more : suc i + 1 ≡ suc (i + 1) = omega arith in
    let at : k + suc i ≡ k + 1 + i = omega arith in
    rw (more, at)
    (first_number (f k) v (marked_names f (k + 1) (take (i + 1) ws))
    ∙ (ap (λ (ns : List ℕ). number_where (f k) v ++ ns) (number_after f (k + 1) ws i w e)
    ∙ (sym (append_assoc (number_where (f k) v) (numbers_of (marked_names f (k + 1) (take i ws))) (number_where (f (k + 1 + i)) w))
    ∙ ap (λ (ns : List ℕ). ns ++ number_where (f (k + 1 + i)) w) (sym (first_number (f k) v (marked_names f (k + 1) (take i ws)))))))

pub no_items : (xs : List ℕ) → length xs ≡ 0 → xs ≡ []
no_items [] none = refl
no_items (x ∷ xs) none = absurd (omega (arith, none))

-- where no line makes a name
pub none_made : (k : ℕ) (ws : List (List ℕ)) → made_words (marked_names (is_in_numbers []) k ws) ≡ []
none_made k [] = refl
none_made k (w ∷ ws) = none_made (k + 1) ws
