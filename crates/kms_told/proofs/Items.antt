-- Items of lists: the first that fails a test of those before it, places, last items, and lists in order of time.
use Rattle.std.proofs.Common.{◌≡◌, ℕ, suc, ◌+◌, ◌<◌, Bool, true, false, cond, not, List, [], ◌∷◌, ◌++◌, length, Option, Some, None, refl}
use Rattle.std.proofs.Common.{sym, ap, ◌∙◌, subst, arith, inl, inr, ⊎_elim, append_assoc, append-nil}
use Rattle.std.specs.Prelude.{filter, nat_lt, option_map, reverse, if◌then◌else◌, ⊤}
use Rattle.std.specs.List.{flat_map, last_or, position, prefix_len}
use Rattle.std.proofs.lemmas.Bool.{cases_Bool, cond-false, cond-true, lt-ltb}
use Rattle.std.proofs.lemmas.Bool.Decides.{nat_tests}
use Rattle.std.proofs.lemmas.List.Quantifiers.{position-Some}
use Rattle.kms_model.specs.Report.RightAnswers.{first_off}
use Rattle.kms_model.proofs.Items.{IsIn}
use Rattle.kms_laws.proofs.Basics.{in_either, in_left, in_right}
use Rattle.kms_laws.proofs.Present.{reverse_more}

-- The first that fails

-- each item passes a test of those before it and of itself
abbrev pub AllPass : {A : Type 0} → (List A → A → Bool) → List A → List A → Type 0
AllPass test before [] = ⊤
AllPass test before (x ∷ xs) = (test before x ≡ true) × AllPass test (before ++ x ∷ []) xs

none-told : (b : Bool) (o : Option ℕ) → b ≡ true → o ≡ None → (if b then option_map (λ place. place + 1) o else Some 0) ≡ None
none-told true None t e = refl
none-told true (Some p) t e = absurd cc
none-told false o t e = absurd cc

pub none-off : {A : Type 0} (test : List A → A → Bool) (before xs : List A) → AllPass test before xs → first_off test before xs ≡ None
unfolding first_off
none-off test before [] all = refl
none-off test before (x ∷ xs) all =
    none-told (test before x) (first_off test (before ++ x ∷ []) xs) all.0 (none-off test (before ++ x ∷ []) xs all.1)

pub pass-append : {A : Type 0} (test : List A → A → Bool) (before xs ys : List A) → AllPass test before xs → AllPass test (before ++ xs) ys
    → AllPass test before (xs ++ ys)
pass-append test before [] ys first second = subst (λ b. AllPass test b ys) (append-nil before) second
pass-append test before (x ∷ xs) ys first second = (
  first.0,
  pass-append test (before ++ x ∷ []) xs ys first.1
      (subst (λ b. AllPass test b ys) (sym (append_assoc before (x ∷ []) xs)) second),
)

-- Places

at_cons : (b : Bool) (m n : ℕ) → cond (nat_lt (cond {A = ℕ} (not b) (1 + m) 0) (suc n)) (Some (cond {A = ℕ} (not b) (1 + m) 0)) None
    ≡ cond b (Some 0) (option_map (λ place. place + 1) (cond (nat_lt m n) (Some m) None))
at_cons true m n = first (nat_lt 0 (suc n)) (lt-ltb 0 (suc n) (omega arith)) where
  first : (c : Bool) → c ≡ true → cond {A = Option ℕ} c (Some 0) None ≡ Some 0
  first true e = refl
  first false e = absurd cc
at_cons false m n = later (nat_lt (1 + m) (suc n)) (nat_lt m n) (grind (arith, nat_tests)) where
  later : (c d : Bool) → c ≡ d → cond {A = Option ℕ} c (Some (1 + m)) None
      ≡ option_map (λ place. place + 1) (cond {A = Option ℕ} d (Some m) None)
  later true true e = ap Some (omega arith)
  later false false e = refl
  later true false e = absurd cc
  later false true e = absurd cc

pub position-cons : {A : Type 0} (p : A → Bool) (x : A) (xs : List A)
    → position p (x ∷ xs) ≡ cond (p x) (Some 0) (option_map (λ place. place + 1) (position p xs))
position-cons p x xs = at_cons (p x) (prefix_len (λ y. not (p y)) xs) (length xs)

abbrev pub or_place : Option ℕ → Option ℕ → Option ℕ
or_place None b = b
or_place (Some a) b = Some a

abbrev pub place_if : Bool → ℕ → Option ℕ
place_if b n = cond b (Some n) None

pushed_one : (b : Bool) → cond b (Some 0) (option_map (λ place. place + 1) None) ≡ place_if b 0
pushed_one true = refl
pushed_one false = refl

pushed_more : (b c : Bool) (o : Option ℕ) (n : ℕ)
    → cond b (Some 0) (option_map (λ place. place + 1) (or_place o (place_if c n)))
    ≡ or_place (cond b (Some 0) (option_map (λ place. place + 1) o)) (place_if c (suc n))
pushed_more true c o n = refl
pushed_more false c (Some m) n = refl
pushed_more false true None n = ap Some (omega arith)
pushed_more false false None n = refl

pub position-push : {A : Type 0} (p : A → Bool) (xs : List A) (y : A)
    → position p (xs ++ y ∷ []) ≡ or_place (position p xs) (place_if (p y) (length xs))
position-push p [] y = position-cons p y [] ∙ pushed_one (p y)
position-push p (x ∷ xs) y =
    position-cons p x (xs ++ y ∷ [])
    ∙ (ap (λ o. cond (p x) (Some 0) (option_map (λ place. place + 1) o)) (position-push p xs y)
    ∙ (pushed_more (p x) (p y) (position p xs) (length xs)
    ∙ ap (λ o. or_place o (place_if (p y) (suc (length xs)))) (sym (position-cons p x xs))))

module _ {A : Type 0} (p : A → Bool) where
  pub position-none : (xs : List A) → ((x : A) → IsIn x xs → p x ≡ false) → position p xs ≡ None
  position-none [] fails = refl
  position-none (x ∷ xs) fails =
      position-cons p x xs
      ∙ (λ i. cond (fails x (inl refl) i) (Some 0) (option_map (λ place. place + 1) (position-none xs (λ y is. fails y (inr is)) i)))

  -- one item more
  pub position-stays : (xs : List A) (y : A) (k : ℕ) → position p xs ≡ Some k → position p (xs ++ y ∷ []) ≡ Some k
  position-stays xs y k e = position-push p xs y ∙ ap (λ o. or_place o (place_if (p y) (length xs))) e

  pub position-missed : (xs : List A) (y : A) → position p xs ≡ None → p y ≡ false → position p (xs ++ y ∷ []) ≡ None
  position-missed xs y e off = position-push p xs y ∙ (λ i. or_place (e i) (place_if (off i) (length xs)))

  pub position-last : (xs : List A) (y : A) → position p xs ≡ None → p y ≡ true → position p (xs ++ y ∷ []) ≡ Some (length xs)
  position-last xs y e on = position-push p xs y ∙ (λ i. or_place (e i) (place_if (on i) (length xs)))

  pub position-within : (xs : List A) (k : ℕ) (d : A) → position p xs ≡ Some k → k < length xs
  position-within xs k d e = (position-Some p xs k d e).0

-- Lists turned round

pub in-reverse : {A : Type 0} (xs : List A) (x : A) → IsIn x (reverse xs) → IsIn x xs
in-reverse [] x is = is
in-reverse (y ∷ ys) x is =
    ⊎_elim
    (λ (l : IsIn x (reverse ys)). inr (in-reverse ys x l))
    (λ (r : IsIn x (y ∷ [])). ⊎_elim (λ (e : y ≡ x). inl e) (λ never. absurd never) r)
    (in_either (reverse ys) (y ∷ []) x (subst (IsIn x) (reverse_more y ys) is))

pub reverse-in : {A : Type 0} (xs : List A) (x : A) → IsIn x xs → IsIn x (reverse xs)
reverse-in [] x is = is
reverse-in (y ∷ ys) x is =
    subst (IsIn x) (sym (reverse_more y ys))
    (⊎_elim (λ (e : y ≡ x). in_right (reverse ys) (y ∷ []) x (inl e)) (λ l. in_left (reverse ys) (y ∷ []) x (reverse-in ys x l)) is)

-- a relation of each item to those behind it
abbrev pub Forward : {A : Type 0} → (A → A → Type 0) → List A → Type 0
Forward R [] = ⊤
Forward {A} R (x ∷ xs) = ((y : A) → IsIn y xs → R x y) × Forward R xs

-- and of those behind it to each
abbrev pub Backward : {A : Type 0} → (A → A → Type 0) → List A → Type 0
Backward R [] = ⊤
Backward {A} R (x ∷ xs) = ((y : A) → IsIn y xs → R y x) × Backward R xs

forward-push : {A : Type 0} (R : A → A → Type 0) (xs : List A) (x : A) → Forward R xs → ((y : A) → IsIn y xs → R y x)
    → Forward R (xs ++ x ∷ [])
forward-push R [] x all last = (λ y never. absurd never, tt)
forward-push {A} R (z ∷ zs) x all last = (
  λ y is.
      ⊎_elim (λ (l : IsIn y zs). all.0 y l) (λ (r : IsIn y (x ∷ [])). ⊎_elim (λ (e : x ≡ y). subst (R z) e (last z (inl refl)))
      (λ never. absurd never) r)
      (in_either zs (x ∷ []) y is),
  forward-push R zs x all.1 (λ y is. last y (inr is)),
)

pub forward-reverse : {A : Type 0} (R : A → A → Type 0) (xs : List A) → Backward R xs → Forward R (reverse xs)
forward-reverse R [] all = tt
forward-reverse R (x ∷ xs) all =
    subst (Forward R) (sym (reverse_more x xs)) (forward-push R (reverse xs) x (forward-reverse R xs all.1)
    (λ y is. all.0 y (in-reverse xs y is)))

-- Filters

module _ {A : Type 0} (p : A → Bool) where
  pub filter-from : (xs : List A) (x : A) → IsIn x (filter p xs) → IsIn x xs × (p x ≡ true)
  filter-from [] x is = absurd is
  filter-from (y ∷ ys) x is =
      ⊎_elim
      (λ (on : p y ≡ true).
      ⊎_elim (λ (e : y ≡ x). (inl e, subst (λ z. p z ≡ true) e on)) (λ l. let r = filter-from ys x l in (inr r.0, r.1))
      (subst (IsIn x) (cond-true (p y) (y ∷ filter p ys) (filter p ys) on) is))
      (λ off. let r = filter-from ys x (subst (IsIn x) (cond-false (p y) (y ∷ filter p ys) (filter p ys) off) is) in (inr r.0, r.1))
      (cases_Bool (p y))

  pub filter-has : (xs : List A) (x : A) → IsIn x xs → p x ≡ true → IsIn x (filter p xs)
  filter-has [] x is on = absurd is
  filter-has (y ∷ ys) x is on =
      ⊎_elim
      (λ (here : p y ≡ true).
      subst (IsIn x) (sym (cond-true (p y) (y ∷ filter p ys) (filter p ys) here))
      (⊎_elim (λ (e : y ≡ x). inl e) (λ l. inr (filter-has ys x l on)) is))
      (λ off.
      subst (IsIn x) (sym (cond-false (p y) (y ∷ filter p ys) (filter p ys) off))
      (⊎_elim (λ (e : y ≡ x). absurd (let g = sym off ∙ (ap p e ∙ on) in cc)) (λ l. filter-has ys x l on) is))
      (cases_Bool (p y))

  pub forward-filter : (R : A → A → Type 0) (xs : List A) → Forward R xs → Forward R (filter p xs)
  forward-filter R [] all = tt
  forward-filter R (x ∷ xs) all = go (p x) (forward-filter R xs all.1) where
    go : (b : Bool) → Forward R (filter p xs) → Forward R (cond b (x ∷ filter p xs) (filter p xs))
    go true rest = (λ y is. all.0 y (filter-from xs y is).0, rest)
    go false rest = rest

pub flat_map-has : {A B : Type 0} (f : A → List B) (xs : List A) (x : A) (y : B) → IsIn x xs → IsIn y (f x) → IsIn y (flat_map f xs)
flat_map-has f [] x y is at = absurd is
flat_map-has f (z ∷ zs) x y is at =
    ⊎_elim
    (λ (e : z ≡ x). in_left (f z) (flat_map f zs) y (subst (λ w. IsIn y (f w)) (sym e) at))
    (λ l. in_right (f z) (flat_map f zs) y (flat_map-has f zs x y l at))
    is

-- Last items

pub last-append : {A : Type 0} (o : Option A) (xs ys : List A) → last_or o (xs ++ ys) ≡ last_or (last_or o xs) ys
last-append o [] ys = refl
last-append o (x ∷ xs) ys = last-append (Some x) xs ys

pub last-push : {A : Type 0} (o : Option A) (xs : List A) (x : A) → last_or o (xs ++ x ∷ []) ≡ Some x
last-push o xs x = last-append o xs (x ∷ [])
