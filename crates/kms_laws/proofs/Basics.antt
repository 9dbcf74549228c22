-- Tests on lists, marks and tables.
use Rattle.std.proofs.Common.{◌≡◌, ℕ, List, [], ◌∷◌, ◌++◌, Bool, true, false, ◌&&◌, ◌==◌, refl, sym, ◌∙◌, inl, inr, ◌⊎◌, ⊎_elim}
use Rattle.std.proofs.lemmas.Bool.{and_parts, or_cases, and_from, or_left, or_right, eqb-true, eq-eqb, ne_eqb, cond-true, cond-false}
use Rattle.std.proofs.lemmas.Bool.{false≢true}
use Rattle.kms_model.specs.Machine.Commits.{has_number, has_pair}
use Rattle.kms_model.specs.Machine.Registers.{read}
use Rattle.kms_model.proofs.Items.{IsIn}

pub both_bools : (b : Bool) → b ≡ true → b ≡ false → ⊥
both_bools b t f = false≢true (sym f ∙ t)

pub in_left : {A : Type 0} (xs ys : List A) (o : A) → IsIn o xs → IsIn o (xs ++ ys)
in_left [] ys o is = absurd is
in_left (x ∷ xs) ys o (inl same) = inl same
in_left (x ∷ xs) ys o (inr rest) = inr (in_left xs ys o rest)

pub in_right : {A : Type 0} (xs ys : List A) (o : A) → IsIn o ys → IsIn o (xs ++ ys)
in_right [] ys o is = is
in_right (x ∷ xs) ys o is = inr (in_right xs ys o is)

pub in_either : {A : Type 0} (xs ys : List A) (o : A) → IsIn o (xs ++ ys) → IsIn o xs ⊎ IsIn o ys
in_either [] ys o is = inr is
in_either (x ∷ xs) ys o (inl same) = inl (inl same)
in_either (x ∷ xs) ys o (inr rest) = ⊎_elim (λ l. inl (inr l)) (λ r. inr r) (in_either xs ys o rest)

-- Tables

pub read_same : {A : Type 0} (d : A) (m : List (ℕ × A)) (o : ℕ) (v : A) → read d ((o, v) ∷ m) o ≡ v
unfolding read
read_same d m o v = cond-true (o == o) v (read d m o) (eq-eqb o o refl)

pub read_other : {A : Type 0} (d : A) (m : List (ℕ × A)) (o q : ℕ) (v : A) → (o ≡ q → ⊥) → read d ((o, v) ∷ m) q ≡ read d m q
unfolding read
read_other d m o q v ne = cond-false (o == q) v (read d m q) (ne_eqb o q ne)

-- Marks

pub number_cases : (x : ℕ) (xs : List ℕ) (k : ℕ) → has_number (x ∷ xs) k ≡ true → (x ≡ k) ⊎ (has_number xs k ≡ true)
number_cases x xs k h = ⊎_elim (λ e. inl (eqb-true x k e)) (λ e. inr e) (or_cases (x == k) (has_number xs k) h)

pub number_more : (x : ℕ) (xs : List ℕ) (k : ℕ) → has_number xs k ≡ true → has_number (x ∷ xs) k ≡ true
number_more x xs k h = or_right (x == k) (has_number xs k) h

pub number_now : (x : ℕ) (xs : List ℕ) → has_number (x ∷ xs) x ≡ true
number_now x xs = or_left (x == x) (has_number xs x) (eq-eqb x x refl)

pub pair_cases : (x y : ℕ) (xs : List (ℕ × ℕ)) (k o : ℕ) → has_pair ((x, y) ∷ xs) k o ≡ true → ((x ≡ k) × (y ≡ o))
    ⊎ (has_pair xs k o ≡ true)
pair_cases x y xs k o h =
    ⊎_elim (λ e. let p = and_parts (x == k) (y == o) e in inl (eqb-true x k p.0, eqb-true y o p.1)) (λ e. inr e)
    (or_cases ((x == k) && (y == o)) (has_pair xs k o) h)

pub pair_more : (x y : ℕ) (xs : List (ℕ × ℕ)) (k o : ℕ) → has_pair xs k o ≡ true → has_pair ((x, y) ∷ xs) k o ≡ true
pair_more x y xs k o h = or_right ((x == k) && (y == o)) (has_pair xs k o) h

pub pair_now : (x y : ℕ) (xs : List (ℕ × ℕ)) → has_pair ((x, y) ∷ xs) x y ≡ true
pair_now x y xs = or_left ((x == x) && (y == y)) (has_pair xs x y) (and_from (x == x) (y == y) (eq-eqb x x refl) (eq-eqb y y refl))
