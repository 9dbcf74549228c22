-- The place of the first item that fails a test: on the way through a list, of the front of a list, and of two tests at once.
use Rattle.std.proofs.Common.{◌≡◌, ℕ, zero, suc, ◌+◌, ◌<◌, ◌≤◌, Bool, true, false, List, [], ◌∷◌, ◌++◌, length, get_or, take, drop, Option}
use Rattle.std.proofs.Common.{Some, None, refl, sym, ap, ◌∙◌, subst, arith, append_assoc, add-one}
use Rattle.std.proofs.lemmas.Bool.{le-leb, lt-leb}
use Rattle.std.proofs.lemmas.Bool.Decides.{nat_tests}
use Rattle.std.proofs.lemmas.List.{append-nil, drop_all, drop_more, get_or-map, length-map, length-take-le, take-append-drop, take_more}
use Rattle.std.specs.Prelude.{◌&&◌, map, nat_le, option_map, slice_get, if◌then◌else◌}
use Rattle.kms_audit.specs.Sections.{earliest}
use Rattle.kms_model.specs.Report.Right.{number_at}
use Rattle.kms_model.specs.Report.RightAnswers.{first_off}

-- The lower of two places

pub 0-earliest : (o : Option ℕ) → earliest (Some 0) o ≡ Some 0
0-earliest None = refl
0-earliest (Some n) = picked (nat_le 0 n) (le-leb 0 n (omega arith)) where
  picked : (b : Bool) → b ≡ true → (if b then Some 0 else Some n) ≡ Some 0
  picked true e = refl
  picked false e = absurd cc

earliest-0 : (o : Option ℕ) → earliest (option_map (λ place. place + 1) o) (Some 0) ≡ Some 0
earliest-0 None = refl
earliest-0 (Some n) = picked (nat_le (n + 1) 0) (lt-leb (n + 1) 0 (omega arith)) where
  picked : (b : Bool) → b ≡ false → (if b then Some (n + 1) else Some 0) ≡ Some 0
  picked false e = refl
  picked true e = absurd cc

earliest-next : (a b : Option ℕ) → option_map (λ place. place + 1) (earliest a b)
    ≡ earliest (option_map (λ place. place + 1) a) (option_map (λ place. place + 1) b)
earliest-next None b = refl
earliest-next (Some m) None = refl
earliest-next (Some m) (Some n) = picked (nat_le m n) (nat_le (m + 1) (n + 1)) (grind (arith, nat_tests)) where
  picked : (b c : Bool) → c ≡ b → option_map (λ place. place + 1)
      (if b then Some m else Some n) ≡ (if c then Some (m + 1) else Some (n + 1))
  picked true true e = refl
  picked false false e = refl
  picked true false e = absurd cc
  picked false true e = absurd cc

pub earliest-none : (o : Option ℕ) → earliest o None ≡ o
earliest-none None = refl
earliest-none (Some n) = refl

pub earliest-swap : (a b : Option ℕ) → earliest a b ≡ earliest b a
earliest-swap None b = sym (earliest-none b)
earliest-swap (Some m) None = refl
earliest-swap (Some m) (Some n) = grind (arith, nat_tests)

pub earliest-assoc : (a b c : Option ℕ) → earliest (earliest a b) c ≡ earliest a (earliest b c)
earliest-assoc None b c = refl
earliest-assoc (Some m) None c = refl
earliest-assoc (Some m) (Some n) None = earliest-none (earliest (Some m) (Some n))
earliest-assoc (Some m) (Some n) (Some k) = grind (arith, nat_tests)

-- the first of three in another order
pub earliest-second : (a b c : Option ℕ) → earliest a (earliest b c) ≡ earliest b (earliest a c)
earliest-second a b c = sym (earliest-assoc a b c) ∙ (ap (λ o. earliest o c) (earliest-swap a b) ∙ earliest-assoc b a c)

-- Places counted from a later item

pub at-next : (n : ℕ) (o : Option ℕ) → number_at (n + 1) o ≡ number_at n (option_map (λ place. place + 1) o)
at-next n None = refl
at-next n (Some p) = ap Some (omega arith)

pub at-0 : (o : Option ℕ) → number_at 0 o ≡ o
at-0 None = refl
at-0 (Some p) = ap Some (omega arith)

-- One item

-- what one item and the rest come to
abbrev told : Bool → Option ℕ → Option ℕ
told b rest = if b then option_map (λ place. place + 1) rest else Some 0

passed : (b : Bool) (n : ℕ) (rest : Option ℕ) → b ≡ true → number_at (n + 1) rest ≡ number_at n (told b rest)
passed true n rest e = at-next n rest
passed false n rest e = absurd cc

failed : (b : Bool) (n : ℕ) (rest : Option ℕ) → b ≡ false → number_at n (told b rest) ≡ Some n
failed false n rest e = ap Some (omega arith)
failed true n rest e = absurd cc

told-none : (b : Bool) (rest : Option ℕ) → told b rest ≡ None → (b ≡ true) × (rest ≡ None)
told-none true None e = (refl, refl)
told-none true (Some p) e = absurd cc
told-none false rest e = absurd cc

none-told : (b : Bool) (rest : Option ℕ) → b ≡ true → rest ≡ None → told b rest ≡ None
none-told true None t e = refl
none-told true (Some p) t e = absurd cc
none-told false rest t e = absurd cc

told-same : (p q : Bool) (a b : Option ℕ) → p ≡ q → a ≡ b → told p a ≡ told q b
told-same p q a b e f = rw (e, f) refl

pub off-pass : {A : Type 0} (test : List A → A → Bool) (before : List A) (x : A) (xs : List A) (n : ℕ) → test before x ≡ true
    → number_at (n + 1) (first_off test (before ++ x ∷ []) xs) ≡ number_at n (first_off test before (x ∷ xs))
unfolding first_off
off-pass test before x xs n e = passed (test before x) n (first_off test (before ++ x ∷ []) xs) e

pub off-fail : {A : Type 0} (test : List A → A → Bool) (before : List A) (x : A) (xs : List A) (n : ℕ) → test before x ≡ false
    → number_at n (first_off test before (x ∷ xs)) ≡ Some n
unfolding first_off
off-fail test before x xs n e = failed (test before x) n (first_off test (before ++ x ∷ []) xs) e

pub off-rest : {A : Type 0} (test : List A → A → Bool) (before : List A) (x : A) (xs : List A) → first_off test before (x ∷ xs) ≡ None
    → first_off test (before ++ x ∷ []) xs ≡ None
unfolding first_off
off-rest test before x xs e = (told-none (test before x) (first_off test (before ++ x ∷ []) xs) e).1

-- Loops: the rest of a list, by the place of its first item

pub off-step : {A : Type 0} (test : List A → A → Bool) (xs : List A) (i : ℕ) (d : A) → i < length xs
    → test (take i xs) (get_or xs i d) ≡ true
    → number_at (i + 1) (first_off test (take (i + 1) xs) (drop (i + 1) xs)) ≡ number_at i (first_off test (take i xs) (drop i xs))
off-step test xs i d within e =
    rw (drop_more xs i d within, take_more xs i d within) (off-pass test (take i xs) (get_or xs i d) (drop (i + 1) xs) i e)

pub off-here : {A : Type 0} (test : List A → A → Bool) (xs : List A) (i : ℕ) (d : A) → i < length xs
    → test (take i xs) (get_or xs i d) ≡ false
    → number_at i (first_off test (take i xs) (drop i xs)) ≡ Some i
off-here test xs i d within e = rw (drop_more xs i d within) (off-fail test (take i xs) (get_or xs i d) (drop (i + 1) xs) i e)

pub off-done : {A : Type 0} (test : List A → A → Bool) (xs : List A) (i : ℕ) → length xs ≤ i
    → number_at i (first_off test (take i xs) (drop i xs)) ≡ None
unfolding first_off
off-done test xs i past = rw (drop_all i xs past) refl

-- the same of what items are made of
module _ {X A : Type 0} (f : X → A) (test : List A → A → Bool) (xs : List X) (i : ℕ) (d : X) (within : i < length xs) where
  pub off-step-map : test (take i (map f xs)) (f (get_or xs i d)) ≡ true
      → number_at (i + 1) (first_off test (take (i + 1) (map f xs)) (drop (i + 1) (map f xs)))
      ≡ number_at i (first_off test (take i (map f xs)) (drop i (map f xs)))
  off-step-map e = off-step test (map f xs) i (f d) (rw (length-map xs f) within) (rw (get_or-map f xs i d (f d) within) e)

  pub off-here-map : test (take i (map f xs)) (f (get_or xs i d)) ≡ false
      → number_at i (first_off test (take i (map f xs)) (drop i (map f xs))) ≡ Some i
  off-here-map e = off-here test (map f xs) i (f d) (rw (length-map xs f) within) (rw (get_or-map f xs i d (f d) within) e)

-- Where nothing fails

pub off-each : {A : Type 0} (test : List A → A → Bool) (before xs : List A) (k : ℕ) (x : A) → first_off test before xs ≡ None
    → slice_get xs k ≡ Some x
    → test (before ++ take k xs) x ≡ true
unfolding first_off
off-each test before [] k x e g = absurd cc
off-each test before (y ∷ ys) zero x e g =
    let p = told-none (test before y) (first_off test (before ++ y ∷ []) ys) e in
    let same : y ≡ x = cc in
    rw (append-nil before, ← same) p.0
off-each test before (y ∷ ys) (suc k) x e g =
    let p = told-none (test before y) (first_off test (before ++ y ∷ []) ys) e in
    rw (append_assoc before (y ∷ []) (take k ys)) at (off-each test (before ++ y ∷ []) ys k x p.1 g)

-- one item more
pub off-push : {A : Type 0} (test : List A → A → Bool) (before xs : List A) (x : A) → first_off test before xs ≡ None
    → test (before ++ xs) x ≡ true
    → first_off test before (xs ++ x ∷ []) ≡ None
unfolding first_off
off-push test before [] x e t = none-told (test before x) None (rw (append-nil before) at t) refl
off-push test before (y ∷ ys) x e t =
    let p = told-none (test before y) (first_off test (before ++ y ∷ []) ys) e in
    none-told (test before y) (first_off test (before ++ y ∷ []) (ys ++ x ∷ [])) p.0
    (off-push test (before ++ y ∷ []) ys x p.1 (rw (append_assoc before (y ∷ []) ys) t))

-- Two tests

pub off-same : {A : Type 0} (f g : List A → A → Bool) → ((b : List A) (x : A) → f b x ≡ g b x) → (before xs : List A)
    → first_off f before xs ≡ first_off g before xs
unfolding first_off
off-same f g same before [] = refl
off-same f g same before (x ∷ xs) =
    told-same (f before x) (g before x) (first_off f (before ++ x ∷ []) xs) (first_off g (before ++ x ∷ []) xs) (same before x)
    (off-same f g same (before ++ x ∷ []) xs)

both : (p q : Bool) (c a b : Option ℕ) → c ≡ earliest a b → told (p && q) c ≡ earliest (told p a) (told q b)
both true true c a b e = ap (option_map (λ place. place + 1)) e ∙ earliest-next a b
both true false c a b e = sym (earliest-0 a)
both false q c a b e = sym (0-earliest (told q b))

pub off-both : {A : Type 0} (f g : List A → A → Bool) (before xs : List A)
    → first_off (λ b x. f b x && g b x) before xs ≡ earliest (first_off f before xs) (first_off g before xs)
unfolding first_off
off-both f g before [] = refl
off-both f g before (x ∷ xs) =
    both (f before x) (g before x) (first_off (λ b y. f b y && g b y) (before ++ x ∷ []) xs)
    (first_off f (before ++ x ∷ []) xs) (first_off g (before ++ x ∷ []) xs) (off-both f g (before ++ x ∷ []) xs)

-- The front of a list alone, where its length is told anyway

cut_if : (b : Bool) (c : ℕ) (x y : Option ℕ) → earliest (Some c) x ≡ earliest (Some c) y → earliest (Some (c + 1)) (told b x) ≡ earliest
    (Some (c + 1)) (told b y)
cut_if true c x y e = sym (earliest-next (Some c) x) ∙ (ap (option_map (λ place. place + 1)) e ∙ earliest-next (Some c) y)
cut_if false c x y e = refl

pub off-take : {A : Type 0} (test : List A → A → Bool) (before xs : List A) (c : ℕ)
    → earliest (Some c) (first_off test before xs) ≡ earliest (Some c) (first_off test before (take c xs))
unfolding first_off
off-take test before xs zero = 0-earliest (first_off test before xs)
off-take test before [] (suc c) = refl
off-take test before (x ∷ xs) (suc c) =
    let front = first_off test (before ++ x ∷ []) (take c xs) in let rest = first_off test (before ++ x ∷ []) xs in
    subst (λ n. earliest (Some n) (told (test before x) rest) ≡ earliest (Some n) (told (test before x) front)) (add-one c)
    (cut_if (test before x) c rest front (off-take test (before ++ x ∷ []) xs c))

-- Behind items of which none fails

shifted : (n : ℕ) (o : Option ℕ) → option_map (λ place. place + 1) (number_at n o) ≡ number_at (suc n) o
shifted n None = refl
shifted n (Some p) = ap Some (omega arith)

told-true : (b : Bool) (rest : Option ℕ) → b ≡ true → told b rest ≡ option_map (λ place. place + 1) rest
told-true true rest e = refl
told-true false rest e = absurd cc

pub off-behind : {A : Type 0} (test : List A → A → Bool) (before xs ys : List A) → first_off test before xs ≡ None
    → first_off test before (xs ++ ys) ≡ number_at (length xs) (first_off test (before ++ xs) ys)
unfolding first_off
off-behind test before [] ys e = sym (at-0 (first_off test (before ++ []) ys) ∙ ap (λ b. first_off test b ys) (append-nil before))
off-behind test before (x ∷ xs) ys e =
    let p = told-none (test before x) (first_off test (before ++ x ∷ []) xs) e in
    told-true (test before x) (first_off test (before ++ x ∷ []) (xs ++ ys)) p.0
    ∙ (ap (option_map (λ place. place + 1)) (off-behind test (before ++ x ∷ []) xs ys p.1)
    ∙ (ap (λ b. option_map (λ place. place + 1) (number_at (length xs) (first_off test b ys))) (append_assoc before (x ∷ []) xs)
    ∙ shifted (length xs) (first_off test (before ++ x ∷ xs) ys)))

-- the first that fails, where those before it do not
pub off-at : {A : Type 0} (test : List A → A → Bool) (xs : List A) (i : ℕ) (d : A) → i < length xs → first_off test [] (take i xs) ≡ None
    → test (take i xs) (get_or xs i d) ≡ false → first_off test [] xs ≡ Some i
off-at test xs i d within right wrong =
    let size : length (take i xs) ≡ i = length-take-le i xs (omega arith) in
    ap (first_off test []) (sym (take-append-drop i xs))
    ∙ (off-behind test [] (take i xs) (drop i xs) right
    ∙ (ap (λ n. number_at n (first_off test (take i xs) (drop i xs))) size ∙ off-here test xs i d within wrong))
