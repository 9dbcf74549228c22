-- Lists of what is delivered and counts of what is awaited.
use Rattle.std.proofs.Common.{◌≡◌, ℕ, zero, suc, ◌+◌, ◌<◌, ◌≤◌, List, [], ◌∷◌, ◌++◌, length, map, Bool, true, false, Option, Some, None}
use Rattle.std.proofs.Common.{refl, sym, ap, ◌∙◌, arith, inl, inr, ⊎_elim, add-one, length-append}
use Rattle.std.specs.Prelude.{if◌then◌else◌, filter, reverse}
use Rattle.std.specs.List.{filter_map, flat_map, range_with_len}
use Rattle.std.proofs.lemmas.Bool.{cases_eq, cases_lt}
use Rattle.std.proofs.lemmas.List.Elements.{filter_map-append}
use Rattle.kms_model.proofs.Items.{IsIn}
use Rattle.kms_model.proofs.Spans.{flat_map-range_more}
use Rattle.kms_laws.proofs.Present.{reverse_more}

abbrev pub option_list : {A : Type 0} → Option A → List A
option_list None = []
option_list (Some x) = x ∷ []

fm-one : {A B : Type 0} (f : A → Option B) (x : A) (o : Option B) → f x ≡ o → filter_map f (x ∷ []) ≡ option_list o
fm-one f x None e = rw e refl
fm-one f x (Some y) e = rw e refl

-- one item more, the newest first
pub told-more : {A B : Type 0} (f : A → Option B) (x : A) (xs : List A) → filter_map f (reverse (x ∷ xs)) ≡ filter_map f (reverse xs)
    ++ option_list (f x)
told-more f x xs =
    ap (filter_map f) (reverse_more x xs) ∙ filter_map-append f (reverse xs) (x ∷ []) ∙ ap (λ z. filter_map f (reverse xs) ++ z)
    (fm-one f x (f x) refl)

pub told-same : {A B : Type 0} (f g : A → Option B) (xs : List A) → ((x : A) → IsIn x xs → f x ≡ g x) → filter_map f (reverse xs)
    ≡ filter_map g (reverse xs)
told-same f g [] h = refl
told-same f g (x ∷ xs) h =
    told-more f x xs
    ∙ (λ i. told-same f g xs (λ y is. h y (inr is)) i ++ option_list (h x (inl refl) i))
    ∙ sym (told-more g x xs)

-- Counts over a range

length-flat : {A : Type 0} (f : ℕ → List A) (from n : ℕ) → length (flat_map f (range_with_len from (suc n))) ≡ length (f from)
    + length (flat_map f (range_with_len (from + 1) n))
length-flat f from n = length-append (f from) (flat_map f (range_with_len (from + 1) n))

pub counts-same : {A : Type 0} (f g : ℕ → List A) (from n : ℕ) → ((k : ℕ) → from ≤ k → k < from + n → length (f k) ≡ length (g k))
    → length (flat_map f (range_with_len from n)) ≡ length (flat_map g (range_with_len from n))
counts-same f g from zero h = refl
counts-same f g from (suc n) h =
    length-flat f from n
    ∙ (λ i. h from (omega arith) (omega arith) i + counts-same f g (from + 1) n (λ k l m. h k (omega arith) (omega arith)) i)
    ∙ sym (length-flat g from n)

-- one of them is one less
pub counts-less : {A : Type 0} (f g : ℕ → List A) (from n k : ℕ) → from ≤ k → k < from + n → length (f k) ≡ length (g k) + 1
    → ((j : ℕ) → (j ≡ k → ⊥) → length (f j) ≡ length (g j))
    → length (flat_map f (range_with_len from n)) ≡ length (flat_map g (range_with_len from n)) + 1
counts-less f g from zero k l m one same = absurd (omega arith)
counts-less f g from (suc n) k l m one same =
    ⊎_elim
    (λ (e : from ≡ k).
    let first : length (f from) ≡ length (g from) + 1 = ap (λ z. length (f z)) e ∙ one ∙ ap (λ z. length (g z) + 1) (sym e) in
    let rest = counts-same f g (from + 1) n (λ j a b. same j (λ jk. absurd (omega arith))) in
    let a = length-flat f from n in
    let b = length-flat g from n in
    omega (arith, first, rest, a, b))
    (λ ne.
    let first = same from ne in
    let rest = counts-less f g (from + 1) n k (let x : from ≡ k → ⊥ = ne
    in ⊎_elim (λ (lt : from < k). omega arith) (λ (ge : k ≤ from). absurd (ne (omega arith))) (cases_lt from k)) (omega arith) one same
    in
    let a = length-flat f from n in
    let b = length-flat g from n in
    omega (arith, first, rest, a, b))
    (cases_eq from k)

-- and one more at the end
pub counts-more : {A : Type 0} (f : ℕ → List A) (n : ℕ) → length (flat_map f (range_with_len 0 (suc n)))
    ≡ length (flat_map f (range_with_len 0 n)) + length (f n)
counts-more f n = ap (λ z. length (flat_map f (range_with_len 0 z))) (sym (add-one n)) ∙ ap length
    (flat_map-range_more f 0 n n (omega arith)) ∙ length-append (flat_map f (range_with_len 0 n)) (f n)

-- A filtered list without one item of it

filter-none : (p q : ℕ → Bool) (f : ℕ → ℕ) (c from n : ℕ) → ((a b : ℕ) → f a ≡ f b → a ≡ b) → ((j : ℕ) → (f j ≡ c → ⊥) → p (f j) ≡ q (f j))
    → ((j : ℕ) → from ≤ j → (f j ≡ c → ⊥)) → length (filter p (map f (range_with_len from n)))
    ≡ length (filter q (map f (range_with_len from n)))
filter-none p q f c from zero inj same off = refl
filter-none p q f c from (suc n) inj same off = by_test (p (f from)) (q (f from)) (same from (off from (omega arith)))
    (filter-none p q f c (from + 1) n inj same (λ j l. off j (omega arith)))
  where
    by_test : (a b : Bool) → a ≡ b → length (filter p (map f (range_with_len (from + 1) n)))
        ≡ length (filter q (map f (range_with_len (from + 1) n)))
        → length (if a then f from ∷ filter p (map f (range_with_len (from + 1) n)) else filter p (map f (range_with_len (from + 1) n)))
        ≡ length (if b then f from ∷ filter q (map f (range_with_len (from + 1) n)) else filter q (map f (range_with_len (from + 1) n)))
    by_test true true e ih = ap suc ih
    by_test false false e ih = ih
    by_test true false e ih = absurd cc
    by_test false true e ih = absurd cc

-- ids of a range, of which one passes one test and not the other
pub filter-less : (p q : ℕ → Bool) (f : ℕ → ℕ) (i from n : ℕ) → ((a b : ℕ) → f a ≡ f b → a ≡ b) → from ≤ i → i < from + n → p (f i) ≡ true
    → q (f i) ≡ false → ((j : ℕ) → (f j ≡ f i → ⊥) → p (f j) ≡ q (f j))
    → length (filter p (map f (range_with_len from n))) ≡ length (filter q (map f (range_with_len from n))) + 1
filter-less p q f i from zero inj l m pi qi same = absurd (omega arith)
filter-less p q f i from (suc n) inj l m pi qi same =
    ⊎_elim
    (λ (e : from ≡ i).
    here (p (f from)) (q (f from)) (ap (λ z. p (f z)) e ∙ pi) (ap (λ z. q (f z)) e ∙ qi)
    (filter-none p q f (f i) (from + 1) n inj same (λ j lj fj. absurd (let ji : j ≡ i = inj j i fj in omega arith))))
    (λ (ne : from ≡ i → ⊥).
    there (p (f from)) (q (f from)) (same from (λ e. ne (inj from i e)))
    (filter-less p q f i (from + 1) n inj (⊎_elim (λ (lt : from < i). omega arith) (λ (ge : i ≤ from). absurd (ne (omega arith)))
    (cases_lt from i)) (omega arith) pi qi same))
    (cases_eq from i)
  where
    here : (a b : Bool) → a ≡ true → b ≡ false → length (filter p (map f (range_with_len (from + 1) n)))
        ≡ length (filter q (map f (range_with_len (from + 1) n)))
        → length (if a then f from ∷ filter p (map f (range_with_len (from + 1) n)) else filter p (map f (range_with_len (from + 1) n)))
        ≡ length (if b then f from ∷ filter q (map f (range_with_len (from + 1) n)) else filter q (map f (range_with_len (from + 1) n)))
        + 1
    here true false e g ih = ap suc ih ∙ omega arith
    here true true e g ih = absurd cc
    here false b e g ih = absurd cc

    there : (a b : Bool) → a ≡ b → length (filter p (map f (range_with_len (from + 1) n)))
        ≡ length (filter q (map f (range_with_len (from + 1) n))) + 1
        → length (if a then f from ∷ filter p (map f (range_with_len (from + 1) n)) else filter p (map f (range_with_len (from + 1) n)))
        ≡ length (if b then f from ∷ filter q (map f (range_with_len (from + 1) n)) else filter q (map f (range_with_len (from + 1) n)))
        + 1
    there true true e ih = ap suc ih ∙ omega arith
    there false false e ih = ih
    there true false e ih = absurd cc
    there false true e ih = absurd cc
