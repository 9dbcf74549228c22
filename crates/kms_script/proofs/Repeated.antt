-- Numbers in order, and labels as numbers: whether one of them comes twice.
use Rattle.std.proofs.Common.{◌≡◌, ℕ, ◌+◌, ◌*◌, ◌<◌, ◌≤◌, suc, Bool, true, false, List, [], ◌∷◌, ◌++◌, length, cond, append_assoc}
use Rattle.std.proofs.Common.{append-nil, refl, sym, ap, subst, ◌∙◌, arith}
use Rattle.std.specs.Prelude.{◌||◌, ◌&&◌, ◌==◌, nat_le}
use Rattle.std.specs.Bool.{Decides, nat_eq}
use Rattle.std.specs.Cmp.{nat_eq_equiv}
use Rattle.std.specs.Cmp.Lexicographic.{nat_list_eq_equiv}
use Rattle.std.specs.List.{AllByRecursion, IsDistinct, list_all, list_any}
use Rattle.std.specs.List.Sorted.{IsPermutation, IsSorted}
use Rattle.std.specs.Ordering.{is_lt, nat_cmp}
use Rattle.std.specs.Str.{bytes_eq}
use Rattle.std.proofs.lemmas.Bool.{true≢false, and_parts}
use Rattle.std.proofs.lemmas.Bool.Decides.{nat_tests}
use Rattle.std.proofs.lemmas.List.Sorted.{IsPermutation-sym}
use Rattle.std.proofs.lemmas.Map.Keys.{IsDistinct-IsPermutation}
use Rattle.std.proofs.lemmas.Slice.Eq.{bytes_eq-Decides}
use Rattle.kms_model.specs.Script.Words.{is_label, is_label_rest, is_letter}
use Rattle.kms_model.proofs.Facts.{neither}
use Rattle.kms_words.specs.Packed.{packed, packed_all, packed_alone}
use Rattle.kms_script.specs.Overlong.{begins_with, are_rising}
use Rattle.kms_script.proofs.LabelsMade.{twice_in}

-- Numbers in order

abbrev SortedList : List ℕ → Type 0
SortedList ns = IsSorted nat_cmp ns

sorted_tail : (n : ℕ) (ns : List ℕ) → SortedList (n ∷ ns) → SortedList ns
sorted_tail n ns s = λ k d low high. rw (plus k) at (s (suc k) d (omega arith) (omega (arith, high)))
  where
    plus : (k : ℕ) → suc k + 1 ≡ suc (k + 1)
    plus k = omega arith

sorted_head : (n m : ℕ) (ns : List ℕ) → SortedList (n ∷ m ∷ ns) → n ≤ m
sorted_head n m ns s = let at : is_lt (nat_cmp m n) ≡ false = s 0 0 (omega arith) (omega arith) in grind (arith, nat_tests)

-- all numbers are above one
abbrev Above : ℕ → List ℕ → Type 0
Above n ns = AllByRecursion (λ m. n < m) ns

above_less : (n m : ℕ) (ns : List ℕ) → n ≤ m → Above m ns → Above n ns
above_less n m [] le all = tt
above_less n m (x ∷ ns) le all = (omega (arith, le, all.0), above_less n m ns le all.1)

apart_above : (n : ℕ) (ns : List ℕ) → Above n ns → AllByRecursion (λ m. nat_eq n m ≡ false) ns
apart_above n [] all = tt
apart_above n (m ∷ ns) all = (differ n m all.0, apart_above n ns all.1)
  where
    differ : (n m : ℕ) → n < m → nat_eq n m ≡ false
    differ n m lt = grind (arith, nat_tests)

rise_step : (t : Bool) (rest : Bool) → cond t false rest ≡ true → (t ≡ false) × (rest ≡ true)
rise_step true rest e = absurd cc
rise_step false rest e = (refl, e)

rising_above : (n : ℕ) (ns : List ℕ) → SortedList (n ∷ ns) → are_rising (n ∷ ns) ≡ true → Above n ns
rising_above n [] s e = tt
rising_above n (m ∷ ns) s e =
    let head : ((n == m) ≡ false) × (are_rising (m ∷ ns) ≡ true) = rise_step (n == m) (are_rising (m ∷ ns)) e in
    let le : n ≤ m = sorted_head n m ns s in
    let lt : n < m = less n m le head.0 in
    (lt, above_less n m ns le (rising_above m ns (sorted_tail n (m ∷ ns) s) head.1))
  where
    less : (n m : ℕ) → n ≤ m → (n == m) ≡ false → n < m
    less n m le apart = grind (arith, nat_tests)

rising_differ : (ns : List ℕ) → SortedList ns → are_rising ns ≡ true → IsDistinct nat_eq ns
unfolding IsDistinct
rising_differ [] s e = tt
rising_differ (n ∷ ns) s e =
    let head : (begins_with n ns ≡ false) × (are_rising ns ≡ true) = rise_step (begins_with n ns) (are_rising ns) e in
    (apart_above n ns (rising_above n ns s e), rising_differ ns (sorted_tail n ns s) head.1)

differ_rising : (ns : List ℕ) → IsDistinct nat_eq ns → are_rising ns ≡ true
unfolding IsDistinct
differ_rising [] d = refl
differ_rising (n ∷ []) d = refl
differ_rising (n ∷ m ∷ ns) d = rw (d.0.0, differ_rising (m ∷ ns) d.1) refl

-- numbers differ exactly where, in order, each differs from the next
pub rising_decides : (ns sorted : List ℕ) → IsPermutation ns sorted → SortedList sorted → Decides (are_rising sorted) (IsDistinct nat_eq ns)
rising_decides ns sorted moved s = (
  λ e. IsDistinct-IsPermutation nat_eq symmetric sorted ns (IsPermutation-sym ns sorted moved) (rising_differ sorted s e),
  λ d. differ_rising sorted (IsDistinct-IsPermutation nat_eq symmetric ns sorted moved d),
)
  where
    symmetric : (x y : ℕ) → nat_eq x y ≡ nat_eq y x
    symmetric x y = nat_eq_equiv.symm x y

-- Labels as numbers

-- bytes that are digits to the base 256, and none of them 0
abbrev AreDigits : List ℕ → Type 0
AreDigits bs = AllByRecursion (λ b. (1 ≤ b) × (b < 256)) bs

label_byte : (b : ℕ) → is_label_rest b ≡ true → (1 ≤ b) × (b < 256)
label_byte b e = (grind (arith, nat_tests), grind (arith, nat_tests))

label_bytes : (bs : List ℕ) → list_all is_label_rest bs ≡ true → AreDigits bs
label_bytes [] e = tt
label_bytes (b ∷ bs) e = let p = and_parts (is_label_rest b) (list_all is_label_rest bs) e in (label_byte b p.0, label_bytes bs p.1)

letter_byte : (b : ℕ) → is_letter b ≡ true → (1 ≤ b) × (b < 256)
letter_byte b e = (grind (arith, nat_tests), grind (arith, nat_tests))

label_digits : (w : List ℕ) → is_label w ≡ true → AreDigits w
unfolding is_label
label_digits [] e = absurd cc
label_digits (b ∷ bs) e =
    let p = and_parts (is_letter b) (nat_le (length bs) 15 && list_all is_label_rest bs) e in
    let q = and_parts (nat_le (length bs) 15) (list_all is_label_rest bs) p.1 in
    (letter_byte b p.0, label_bytes bs q.1)

first_digit : (b c m n : ℕ) → b < 256 → c < 256 → b + 256 * m ≡ c + 256 * n → (b ≡ c) × (m ≡ n)
first_digit b c m n lb lc e = (omega (arith, lb, lc, e), omega (arith, lb, lc, e))

two : (b c : ℕ) (bs cs : List ℕ) → b ≡ c → bs ≡ cs → b ∷ bs ≡ c ∷ cs
two b c bs cs e f = rw (e, f) refl

packed_same : (v w : List ℕ) → AreDigits v → AreDigits w → packed v ≡ packed w → v ≡ w
packed_same [] [] dv dw e = refl
packed_same [] (c ∷ cs) dv dw e = absurd (omega (arith, dw.0.0, e))
packed_same (b ∷ bs) [] dv dw e = absurd (omega (arith, dv.0.0, e))
packed_same (b ∷ bs) (c ∷ cs) dv dw e =
    let d = first_digit b c (packed bs) (packed cs) dv.0.1 dw.0.1 e in
    two b c bs cs d.0 (packed_same bs cs dv.1 dw.1 d.1)

-- labels that differ have numbers that differ
packed_apart : (v w : List ℕ) → is_label v ≡ true → is_label w ≡ true → bytes_eq v w ≡ false → nat_eq (packed v) (packed w) ≡ false
packed_apart v w lv lw apart = step (nat_eq (packed v) (packed w)) refl
  where
    step : (t : Bool) → nat_eq (packed v) (packed w) ≡ t → nat_eq (packed v) (packed w) ≡ false
    step false e = e
    step true e =
        let same : packed v ≡ packed w = grind (arith, nat_tests) in
        let equal : bytes_eq v w ≡ true = (bytes_eq-Decides v w).1 (packed_same v w (label_digits v lv) (label_digits w lw) same) in
        absurd (true≢false (sym equal ∙ apart))

-- the number of one more word
abbrev numbers_with : Bool → List ℕ → List ℕ → List ℕ
numbers_with t w ns = cond t (packed w ∷ []) [] ++ ns

all_apart_step : (t : Bool) (v w : List ℕ) (ns : List ℕ) → is_label w ≡ t → is_label v ≡ true → bytes_eq v w ≡ false
    → AllByRecursion (λ m. nat_eq (packed v) m ≡ false) ns → AllByRecursion (λ m. nat_eq (packed v) m ≡ false) (numbers_with t w ns)
all_apart_step true v w ns e label apart all = (packed_apart v w label e apart, all)
all_apart_step false v w ns e label apart all = all

all_apart : (v : List ℕ) (ws : List (List ℕ)) → is_label v ≡ true → AllByRecursion (λ w. bytes_eq v w ≡ false) ws
    → AllByRecursion (λ m. nat_eq (packed v) m ≡ false) (packed_all ws)
all_apart v [] label all = tt
all_apart v (w ∷ ws) label all = all_apart_step (is_label w) v w (packed_all ws) refl label all.0 (all_apart v ws label all.1)

distinct_step : (t : Bool) (w : List ℕ) (ws : List (List ℕ)) → is_label w ≡ t → AllByRecursion (λ v. bytes_eq w v ≡ false) ws
    → IsDistinct nat_eq (packed_all ws) → IsDistinct nat_eq (numbers_with t w (packed_all ws))
unfolding IsDistinct
distinct_step true w ws e all d = (all_apart w ws e all, d)
distinct_step false w ws e all d = d

packed_distinct : (ws : List (List ℕ)) → IsDistinct bytes_eq ws → IsDistinct nat_eq (packed_all ws)
unfolding IsDistinct
packed_distinct [] d = tt
packed_distinct (w ∷ ws) d = distinct_step (is_label w) w ws refl d.0 (packed_distinct ws d.1)

same_apart : (n : ℕ) (ms rest : List ℕ) → AllByRecursion (λ m. nat_eq n m ≡ false) (ms ++ n ∷ rest) → ⊥
same_apart n [] rest all = clash all.0
  where
    clash : nat_eq n n ≡ false → ⊥
    clash e = grind (arith, nat_tests)
same_apart n (m ∷ ms) rest all = same_apart n ms rest all.1

tail_distinct : (ms ns : List ℕ) → IsDistinct nat_eq (ms ++ ns) → IsDistinct nat_eq ns
unfolding IsDistinct
tail_distinct [] ns d = d
tail_distinct (m ∷ ms) ns d = tail_distinct ms ns d.1

-- a label among words comes twice where it comes once more
clash_step : (t : Bool) (l w : List ℕ) (ws : List (List ℕ)) (rest : List ℕ) → bytes_eq l w ≡ t → is_label l ≡ true
    → (list_any (bytes_eq l) ws ≡ true → IsDistinct nat_eq (packed_all ws ++ packed l ∷ rest) → ⊥)
    → (t || list_any (bytes_eq l) ws) ≡ true → IsDistinct nat_eq (packed_alone w ++ packed_all ws ++ packed l ∷ rest) → ⊥
unfolding IsDistinct
clash_step true l w ws rest e label ih any d =
    let same : l ≡ w = (bytes_eq-Decides l w).0 e in
    let alone : packed_alone w ≡ packed l ∷ [] = rw (← same, label) refl in
    let d' : IsDistinct nat_eq (packed l ∷ (packed_all ws ++ packed l ∷ rest)) = subst
    (λ (ns : List ℕ). IsDistinct nat_eq (ns ++ packed_all ws ++ packed l ∷ rest)) alone d in
    same_apart (packed l) (packed_all ws) rest d'.0
clash_step false l w ws rest e label ih any d =
    ih any (tail_distinct (packed_alone w) (packed_all ws ++ packed l ∷ rest)
    (subst (λ (ns : List ℕ). IsDistinct nat_eq ns) (append_assoc (packed_alone w) (packed_all ws) (packed l ∷ rest)) d))

clash : (l : List ℕ) (ws : List (List ℕ)) (rest : List ℕ) → is_label l ≡ true → list_any (bytes_eq l) ws ≡ true
    → IsDistinct nat_eq (packed_all ws ++ packed l ∷ rest) → ⊥
clash l [] rest label any d = absurd (none any)
  where
    none : false ≡ true → ⊥
    none e = cc
clash l (w ∷ ws) rest label any d = clash_step (bytes_eq l w) l w ws rest refl label (λ more. clash l ws rest label more) any d

pub numbers_append : (vs ws : List (List ℕ)) → packed_all (vs ++ ws) ≡ packed_all vs ++ packed_all ws
numbers_append [] ws = refl
numbers_append (v ∷ vs) ws =
    ap (λ (ns : List ℕ). packed_alone v ++ ns) (numbers_append vs ws) ∙ sym (append_assoc (packed_alone v) (packed_all vs) (packed_all ws))

all_last : (v l : List ℕ) (ws : List (List ℕ)) → AllByRecursion (λ w. bytes_eq v w ≡ false) ws → bytes_eq v l ≡ false
    → AllByRecursion (λ w. bytes_eq v w ≡ false) (ws ++ l ∷ [])
all_last v l [] all e = (e, tt)
all_last v l (w ∷ ws) all e = (all.0, all_last v l ws all.1 e)

distinct_last : (l : List ℕ) (ws : List (List ℕ)) → list_any (bytes_eq l) ws ≡ false → IsDistinct bytes_eq ws
    → IsDistinct bytes_eq (ws ++ l ∷ [])
unfolding IsDistinct
distinct_last l [] none d = (tt, tt)
distinct_last l (w ∷ ws) none d =
    let p = neither (bytes_eq l w) (list_any (bytes_eq l) ws) none in
    (all_last w l ws d.0 (nat_list_eq_equiv.symm w l ∙ p.0), distinct_last l ws p.1 d.1)

-- labels that are made once, or one of them twice
abbrev pub OnceOrTwice : Bool → List ℕ → Type 0
OnceOrTwice true ns = IsDistinct nat_eq ns → ⊥
OnceOrTwice false ns = IsDistinct nat_eq ns

once_step : (t : Bool) (seen : List (List ℕ)) (label : List ℕ) (labels : List (List ℕ)) → list_any (bytes_eq label) seen ≡ t
    → IsDistinct bytes_eq seen → is_label label ≡ true
    → (IsDistinct bytes_eq (seen ++ label ∷ []) → OnceOrTwice (twice_in (seen ++ label ∷ []) labels)
    (packed_all (seen ++ label ∷ []) ++ packed_all labels))
    → OnceOrTwice (t || twice_in (seen ++ label ∷ []) labels) (packed_all seen ++ (packed label ∷ packed_all labels))
once_step true seen label labels e d is ih = clash label seen (packed_all labels) is e
once_step false seen label labels e d is ih =
    let alone : packed_alone label ≡ packed label ∷ [] = rw is refl in
    let whole : packed_all (seen ++ label ∷ []) ++ packed_all labels ≡ packed_all seen ++ (packed label ∷ packed_all labels) =
    ap (λ (ns : List ℕ). ns ++ packed_all labels)
    (numbers_append seen (label ∷ []) ∙ ap (λ (ns : List ℕ). packed_all seen ++ (ns ++ [])) alone) ∙ append_assoc (packed_all seen)
    (packed label ∷ []) (packed_all labels) in
    subst (λ (ns : List ℕ). OnceOrTwice (twice_in (seen ++ label ∷ []) labels) ns) whole (ih (distinct_last label seen e d))

pub once_or_twice : (labels seen : List (List ℕ)) → IsDistinct bytes_eq seen → AllByRecursion (λ l. is_label l ≡ true) labels
    → OnceOrTwice (twice_in seen labels) (packed_all seen ++ packed_all labels)
once_or_twice [] seen d all = subst (λ (ns : List ℕ). IsDistinct nat_eq ns) (sym (nothing (packed_all seen))) (packed_distinct seen d)
  where
    nothing : (ns : List ℕ) → ns ++ [] ≡ ns
    nothing ns = append-nil ns
once_or_twice (label ∷ labels) seen d all =
    let alone : packed_alone label ≡ packed label ∷ [] = rw all.0 refl in
    rw alone (once_step (list_any (bytes_eq label) seen) seen label labels refl d all.0
    (λ d'. once_or_twice labels (seen ++ label ∷ []) d' all.1))
