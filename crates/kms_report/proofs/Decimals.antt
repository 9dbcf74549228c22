-- The digits of a byte, and lines of numbers.
use Rattle.std.proofs.Common.{◌≡◌, ◌<◌, ◌≤◌, ℕ, ◌+◌, ◌/◌, ◌%◌, List, [], ◌∷◌, ◌++◌, cond, nat_lt, get_or, refl, ap, sym, ◌∙◌, append_assoc}
use Rattle.std.proofs.Common.{arith}
use Rattle.std.specs.Prelude.{map}
use Rattle.std.specs.Fmt.{decimal, digits}
use Rattle.std.specs.List.{flat_map, range_with_len}
use Rattle.std.proofs.lemmas.Bool.{le-ltb, lt-ltb}
use Rattle.std.proofs.lemmas.List.FromFn.{get_or-map-range_with_len}
use Rattle.kms_model.specs.Report.TextLines.{line}

-- one, two or three digits
abbrev short : ℕ → List ℕ
short n = cond (nat_lt n 10) ((48 + n % 10) ∷ [])
    (cond (nat_lt n 100) ((48 + n / 10 % 10) ∷ (48 + n % 10) ∷ []) ((48 + n / 100) ∷ (48 + n / 10 % 10) ∷ (48 + n % 10) ∷ []))

all_short : map decimal (range_with_len 0 256) ≡ map short (range_with_len 0 256)
unfolding digits
all_short = refl

decimal_is : (n : ℕ) → n < 256 → decimal n ≡ short n
decimal_is n h =
    sym (get_or-map-range_with_len decimal 0 256 n n [] h (omega arith))
    ∙ ap (λ (texts : List (List ℕ)). get_or texts n []) all_short
    ∙ get_or-map-range_with_len short 0 256 n n [] h (omega arith)

-- the digits and a mark behind them, added to a text
module _ (old : List ℕ) (n mark : ℕ) where
  added : (ds : List ℕ) → decimal n ≡ ds → old ++ (ds ++ mark ∷ []) ≡ old ++ decimal n ++ mark ∷ []
  added ds e = ap (λ (ds : List ℕ). old ++ (ds ++ mark ∷ [])) (sym e) ∙ sym (append_assoc old (decimal n) (mark ∷ []))

  pub one_digit : n < 10 → old ++ ((48 + n % 10) ∷ mark ∷ []) ≡ old ++ decimal n ++ mark ∷ []
  one_digit h =
      let small = lt-ltb n 10 h in added ((48 + n % 10) ∷ []) (decimal_is n (omega arith) ∙ rw small refl)

  pub two_digits : 10 ≤ n → n < 100 → old ++ ((48 + n / 10 % 10) ∷ (48 + n % 10) ∷ mark ∷ []) ≡ old ++ decimal n ++ mark ∷ []
  two_digits l h =
      let large = le-ltb n 10 l in
      let small = lt-ltb n 100 h in added ((48 + n / 10 % 10) ∷ (48 + n % 10) ∷ []) (decimal_is n (omega arith) ∙ rw (large, small) refl)

  pub three_digits : 100 ≤ n → n < 256 → old ++ ((48 + n / 100) ∷ (48 + n / 10 % 10) ∷ (48 + n % 10) ∷ mark ∷ []) ≡ old ++ decimal n ++ mark
      ∷ []
  three_digits l h =
      let large = le-ltb n 10 (omega arith) in
      let larger = le-ltb n 100 l in added ((48 + n / 100) ∷ (48 + n / 10 % 10) ∷ (48 + n % 10) ∷ [])
      (decimal_is n h ∙ rw (large, larger) refl)

-- numbers with a blank behind each
abbrev pub spaced : List ℕ → List ℕ
spaced ns = flat_map (λ n. decimal n ++ 32 ∷ []) ns

pub line-push : (ns : List ℕ) (n : ℕ) → line (map decimal (ns ++ n ∷ [])) ≡ spaced ns ++ (decimal n ++ 10 ∷ [])
line-push [] n = refl
line-push (m ∷ []) n = simp append_assoc
line-push (m ∷ k ∷ ks) n = ap (λ (xs : List ℕ). decimal m ++ 32 ∷ xs) (line-push (k ∷ ks) n) ∙ simp append_assoc
