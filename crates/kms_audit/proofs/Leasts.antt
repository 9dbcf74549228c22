-- The first item that fails a test of itself alone; and lists up to an item.
use Rattle.std.proofs.Common.{◌≡◌, ℕ, zero, suc, ◌+◌, ◌<◌, ◌≤◌, Bool, true, false, List, [], ◌∷◌, ◌++◌, length, take, Option, Some, None}
use Rattle.std.proofs.Common.{refl, sym, ap, ◌∙◌, subst, arith, inl, inr}
use Rattle.std.proofs.lemmas.Bool.{cases_lt}
use Rattle.std.proofs.lemmas.Option.{same_Some}
use Rattle.std.specs.Prelude.{option_map, slice_get, if◌then◌else◌}
use Rattle.std.specs.List.{last_or}
use Rattle.std.specs.Option.{option_map_or}
use Rattle.kms_audit.proofs.Firsts.{off-each}
use Rattle.kms_model.specs.Report.RightAnswers.{first_off}
use Rattle.kms_told.proofs.Items.{last-push}

-- The front of a list, up to an item

pub take-next : {A : Type 0} (xs : List A) (k : ℕ) (x : A) → slice_get xs k ≡ Some x → take (suc k) xs ≡ take k xs ++ x ∷ []
take-next [] k x g = absurd cc
take-next (y ∷ ys) zero x g = let same : y ≡ x = cc in rw same refl
take-next (y ∷ ys) (suc k) x g = ap (λ zs. y ∷ zs) (take-next ys k x g)

pub last-take : {A : Type 0} (xs : List A) (k : ℕ) (x : A) → slice_get xs k ≡ Some x → last_or None (take (suc k) xs) ≡ Some x
last-take xs k x g = rw (take-next xs k x g) (last-push None (take k xs) x)

pub get-before : {A : Type 0} (xs : List A) (j : ℕ) (x : A) → slice_get xs (suc j) ≡ Some x → (y : A) × (slice_get xs j ≡ Some y)
get-before [] j x g = absurd cc
get-before (y ∷ ys) zero x g = (y, refl)
get-before (y ∷ ys) (suc j) x g = get-before ys j x g

-- an item of a list with one more is the last one, or one of those before
pub get-push : {A : Type 0} (xs : List A) (x y : A) (k : ℕ) → slice_get (xs ++ x ∷ []) k ≡ Some y → k < length xs → slice_get xs k ≡ Some y
get-push [] x y k g l = absurd (omega arith)
get-push (z ∷ zs) x y zero g l = g
get-push (z ∷ zs) x y (suc k) g l = get-push zs x y k g (omega arith)

pub get-last : {A : Type 0} (xs : List A) (x y : A) (k : ℕ) → slice_get (xs ++ x ∷ []) k ≡ Some y → length xs ≤ k
    → (k ≡ length xs) × (y ≡ x)
get-last [] x y zero g l = (refl, sym (same_Some x y g))
get-last [] x y (suc k) g l = absurd cc
get-last (z ∷ zs) x y zero g l = absurd (omega arith)
get-last (z ∷ zs) x y (suc k) g l =
    let rest = get-last zs x y k g (omega arith) in (omega (arith, rest.0), rest.1)

pub get-within : {A : Type 0} (xs : List A) (k : ℕ) (y : A) → slice_get xs k ≡ Some y → k < length xs
get-within [] k y g = absurd cc
get-within (z ∷ zs) zero y g = omega arith
get-within (z ∷ zs) (suc k) y g = omega (arith, get-within zs k y g)

pub get-more : {A : Type 0} (xs ys : List A) (k : ℕ) (y : A) → slice_get xs k ≡ Some y → slice_get (xs ++ ys) k ≡ Some y
get-more [] ys k y g = absurd cc
get-more (z ∷ zs) ys zero y g = g
get-more (z ∷ zs) ys (suc k) y g = get-more zs ys k y g

-- The first that fails

pub record IsLeast {A : Type 0} (test : A → Bool) (xs : List A) (m : ℕ) : Type 0 where
  pub failing : A
  pub is_item : slice_get xs m ≡ Some failing
  pub fails : test failing ≡ false
  pub earlier : (i : ℕ) (y : A) → i < m → slice_get xs i ≡ Some y → test y ≡ true

earlier-cons : {A : Type 0} (test : A → Bool) (x : A) (xs : List A) (n : ℕ) → test x ≡ true
    → ((i : ℕ) (y : A) → i < n → slice_get xs i ≡ Some y → test y ≡ true)
    → (i : ℕ) (y : A) → i < suc n → slice_get (x ∷ xs) i ≡ Some y → test y ≡ true
earlier-cons test x xs n t h zero y l g = rw (← same_Some x y g) t
earlier-cons test x xs n t h (suc i) y l g = h i y (omega arith) g

least-cons : {A : Type 0} (test : A → Bool) (x : A) (xs : List A) (b : Bool) (rest : Option ℕ) (m : ℕ) → test x ≡ b
    → (if b then option_map (λ place. place + 1) rest else Some 0) ≡ Some m → ((n : ℕ) → rest ≡ Some n → IsLeast test xs n)
    → IsLeast test (x ∷ xs) m
least-cons test x xs false rest m t e ih =
    let first : m ≡ 0 = cc in
    subst (IsLeast test (x ∷ xs)) (sym first) (record { failing = x; is_item = refl; fails = t; earlier = λ i y l g. absurd (omega arith) })
least-cons test x xs true None m t e ih = absurd cc
least-cons test x xs true (Some n) m t e ih =
    let l = ih n refl in
    let next : n + 1 ≡ m = cc in
    let same : suc n ≡ m = omega arith in
    subst (IsLeast test (x ∷ xs)) same
    (record { failing = l.failing; is_item = l.is_item; fails = l.fails; earlier = earlier-cons test x xs n t l.earlier })

pub off-least : {A : Type 0} (test : A → Bool) (before xs : List A) (m : ℕ)
    → first_off (λ b x. test x) before xs ≡ Some m → IsLeast test xs m
unfolding first_off
off-least test before [] m e = absurd cc
off-least test before (x ∷ xs) m e =
    least-cons test x xs (test x) (first_off (λ b y. test y) (before ++ x ∷ []) xs) m refl e
    (λ n f. off-least test (before ++ x ∷ []) xs n f)

-- A place that is told is that of the first item that fails, where what stands there fails and none before it does.
module _ {A : Type 0} (test : A → Bool) (before xs : List A) (o : Option ℕ)
    (found : (k : ℕ) → o ≡ Some k → (x : A) × ((slice_get xs k ≡ Some x) × (test x ≡ false)))
    (wrong : (at : ℕ) (x : A) → slice_get xs at ≡ Some x → test x ≡ false → (k : ℕ) × ((o ≡ Some k) × (k ≤ at))) where
  none_found : (p : Option ℕ) → o ≡ p → first_off (λ b x. test x) before xs ≡ None → p ≡ None
  none_found None e f = refl
  none_found (Some k) e f =
      let it = found k e in
      let right = off-each (λ b x. test x) before xs k it.0 f it.1.0 in
      absurd cc

  by_result : (f : Option ℕ) → first_off (λ b x. test x) before xs ≡ f → o ≡ f
  by_result None e = none_found o refl e
  by_result (Some m) e =
      let least = off-least test before xs m e in
      let told = wrong m least.failing least.is_item least.fails in
      let it = found told.0 told.1.0 in
      elim (cases_lt told.0 m) [
        | inl below ↦ (let right = least.earlier told.0 it.0 below it.1.0 in absurd cc)
        | inr above ↦ (let same : told.0 ≡ m = omega arith in told.1.0 ∙ ap Some same)
      ]

  pub found-first : o ≡ first_off (λ b x. test x) before xs
  found-first = by_result (first_off (λ b x. test x) before xs) refl

-- The front up to the first that fails

front-cons : {A : Type 0} (test : List A → A → Bool) (before : List A) (x : A) (xs : List A) (b : Bool) (rest : Option ℕ)
    (c : ℕ) → test before x ≡ b
    → (if b then option_map (λ place. place + 1) rest else Some 0) ≡ Some c
    → ((n : ℕ) → rest ≡ Some n → first_off test (before ++ x ∷ []) (take n xs) ≡ None)
    → first_off test before (take c (x ∷ xs)) ≡ None
unfolding first_off
front-cons test before x xs false rest c t e ih =
    let first : c ≡ 0 = cc in rw first refl
front-cons test before x xs true None c t e ih = absurd cc
front-cons test before x xs true (Some n) c t e ih =
    let next : n + 1 ≡ c = cc in
    let same : suc n ≡ c = omega arith in
    subst (λ k. first_off test before (take k (x ∷ xs)) ≡ None) same (rw (t, ih n refl) refl)

pub off-front : {A : Type 0} (test : List A → A → Bool) (before xs : List A) (c : ℕ) → first_off test before xs ≡ Some c
    → first_off test before (take c xs) ≡ None
unfolding first_off
off-front test before [] c e = absurd cc
off-front test before (x ∷ xs) c e =
    front-cons test before x xs (test before x) (first_off test (before ++ x ∷ []) xs) c refl e
    (λ n f. off-front test (before ++ x ∷ []) xs n f)

pub front-right : {A : Type 0} (test : List A → A → Bool) (xs : List A) (cut : Option ℕ) → cut ≡ first_off test [] xs
    → first_off test [] (option_map_or (λ c. take c xs) cut xs) ≡ None
front-right test xs None e = sym e
front-right test xs (Some c) e = off-front test [] xs c (sym e)
