-- Which names of a script's lines are made, by their numbers.
use Rattle.std.proofs.Common.{◌≡◌, ℕ, zero, suc, Bool, false, List, [], ◌∷◌, inl, inr, refl, sym, ap, ◌∙◌, if◌then◌else◌, arith}
use Rattle.std.specs.Prelude.{◌==◌, ◌||◌}
use Rattle.std.specs.Str.{bytes_eq}
use Rattle.std.proofs.lemmas.Bool.{cases_Bool, cases_eq, eq-eqb, ne_eqb}
use Rattle.kms_model.specs.Script.CommandLines.{Name, made, said, was_made}

-- whether the name with a number is made
abbrev pub is_made_at : List Name → ℕ → Bool
is_made_at [] k = false
is_made_at (n ∷ ns) zero = n.is_made
is_made_at (n ∷ ns) (suc k) = is_made_at ns k

-- the number of a word among names, or of the next name
abbrev pub number_of : List ℕ → List Name → ℕ
number_of word [] = 0
number_of word (n ∷ ns) = if bytes_eq word n.word then 0 else suc (number_of word ns)

-- a name that is said makes nothing
pub said_marks : (word : List ℕ) (ns : List Name) (k : ℕ) → is_made_at (said word ns) k ≡ is_made_at ns k
said_marks word [] zero = refl
said_marks word [] (suc k) = refl
said_marks word (n ∷ ns) zero = elim (cases_Bool (bytes_eq word n.word)) [ inl here ↦ rw here refl | inr away ↦ rw away refl ]
said_marks word (n ∷ ns) (suc k) = elim (cases_Bool (bytes_eq word n.word))
    [ inl here ↦ rw here refl | inr away ↦ rw away (said_marks word ns k) ]

zero_apart : (k : ℕ) → (0 == suc k) ≡ false
zero_apart k = ne_eqb 0 (suc k) (λ e. absurd (omega (arith, e)))

suc_same : (p k : ℕ) → (suc p == suc k) ≡ (p == k)
suc_same p k =
    elim (cases_eq p k) [
      | inl same ↦ eq-eqb (suc p) (suc k) (ap (λ n. suc n) same) ∙ sym (eq-eqb p k same)
      | inr apart ↦ ne_eqb (suc p) (suc k) (λ e. apart (omega (arith, e))) ∙ sym (ne_eqb p k apart)
    ]

suc_apart : (p : ℕ) → (suc p == 0) ≡ false
suc_apart p = ne_eqb (suc p) 0 (λ e. absurd (omega (arith, e)))

-- a label that is made is made, and what was made stays so
pub made_marks : (word : List ℕ) (ns : List Name) (k : ℕ) → is_made_at (made word ns) k ≡ ((number_of word ns == k) || is_made_at ns k)
made_marks word [] zero = refl
made_marks word [] (suc k) = rw (zero_apart k) refl
made_marks word (n ∷ ns) zero = elim (cases_Bool (bytes_eq word n.word))
    [ inl here ↦ rw here refl | inr away ↦ rw (away, suc_apart (number_of word ns)) refl ]
made_marks word (n ∷ ns) (suc k) =
    elim (cases_Bool (bytes_eq word n.word)) [
      | inl here ↦ rw (here, zero_apart k) refl
      | inr away ↦ rw (away, suc_same (number_of word ns) k) (made_marks word ns k)
    ]

-- whether a word was made, by its number
pub was_marks : (word : List ℕ) (ns : List Name) → was_made word ns ≡ is_made_at ns (number_of word ns)
was_marks word [] = refl
was_marks word (n ∷ ns) = elim (cases_Bool (bytes_eq word n.word)) [ inl here ↦ rw here refl | inr away ↦ rw away (was_marks word ns) ]
