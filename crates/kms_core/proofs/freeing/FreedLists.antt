-- Things that pass a test, by their ids in order.
use Rattle.std.proofs.Common.{◌≡◌, ℕ, suc, ◌+◌, ◌<◌, ◌≤◌, List, [], ◌∷◌, ◌++◌, length, map, Bool, true, false, not, ◌&&◌, ◌==◌, Option}
use Rattle.std.proofs.Common.{Some, None, refl, sym, ap, ◌∙◌, subst, arith, rules, inl, inr, ◌⊎◌}
use Rattle.std.specs.Prelude.{if◌then◌else◌, nat_le, nat_lt, filter}
use Rattle.std.specs.List.{flat_map}
use Rattle.std.proofs.lemmas.Bool.{and_from, and_parts, cases_Bool, cases_eq, cases_lt, cond-false, eq-eqb, eqb-true, lt-ltb, le-ltb}
use Rattle.std.proofs.lemmas.Bool.{false_from_ne_true, ne_eqb}
use Rattle.kms_model.specs.declared.worlds.Thing.{Thing}
use Rattle.kms_model.specs.Device.Sound.{AreNumbered}
use Rattle.kms_model.specs.Device.World.{thing_with_id}
use Rattle.kms_model.proofs.Items.{IsIn, filter-same}
use Rattle.kms_model.proofs.ThingLemmas.{ids-numbered}
use Rattle.kms_core.specs.Freeing.{AreRising, put_id, put_ids}

-- a test of what may be there
abbrev pub passes : (Thing → Bool) → Option Thing → Bool
passes p None = false
passes p (Some x) = p x

-- what passes it, as a list
abbrev pub entries : (Thing → Bool) → Option Thing → List Thing
entries p None = []
entries p (Some x) = if p x then x ∷ [] else []

-- Things by their ids

pub with_id_before : (n : ℕ) (things : List Thing) (id : ℕ) → AreNumbered n things → id < n → thing_with_id things id ≡ None
with_id_before n [] id numbered low = refl
with_id_before n (u ∷ us) id numbered low =
    cond-false (u.id == id) (Some u) (thing_with_id us id) (ne_eqb u.id id (λ e. let at = numbered.0 in omega (arith, e, at, low)))
    ∙ with_id_before (n + 1) us id numbered.1 (omega (arith, low))

-- Filters

pub filter-filter : {A : Type 0} (p q : A → Bool) (xs : List A) → filter q (filter p xs) ≡ filter (λ x. p x && q x) xs
filter-filter p q [] = refl
filter-filter p q (x ∷ xs) =
    elim (cases_Bool (p x)) [
      | inl yes_p ↦ rw yes_p (ap (λ rest. if q x then x ∷ rest else rest) (filter-filter p q xs))
      | inr no_p ↦ rw no_p (filter-filter p q xs)
    ]

pub filter-none : {A : Type 0} (p : A → Bool) (xs : List A) → ((x : A) → IsIn x xs → p x ≡ false) → filter p xs ≡ []
filter-none p [] each = refl
filter-none p (x ∷ xs) each = rw (each x (inl refl)) (filter-none p xs (λ y is. each y (inr is)))

pub length-fewer : {A : Type 0} (p q : A → Bool) (xs : List A) → ((x : A) → IsIn x xs → q x ≡ true → p x ≡ true) → length (filter q xs)
    ≤ length (filter p xs)
length-fewer p q [] more = omega arith
length-fewer p q (x ∷ xs) more =
    let rest = length-fewer p q xs (λ y is. more y (inr is)) in
    elim (cases_Bool (q x)) [
      | inl yes_q ↦ rw (yes_q, more x (inl refl) yes_q) (omega (arith, rest))
      | inr no_q ↦ elim (cases_Bool (p x)) [
        | inl yes_p ↦ rw (no_q, yes_p) (omega (arith, rest))
        | inr no_p ↦ rw (no_q, no_p) rest
      ]
    ]

pub length-parts : {A : Type 0} (p q : A → Bool) (xs : List A) → length (filter (λ x. p x && q x) xs)
    + length (filter (λ x. p x && not (q x)) xs) ≡ length (filter p xs)
length-parts p q [] = refl
length-parts p q (x ∷ xs) =
    let rest = length-parts p q xs in
    elim (cases_Bool (p x)) [
      | inr no_p ↦ rw no_p rest
      | inl yes_p ↦ elim (cases_Bool (q x)) [
        | inl yes_q ↦ rw (yes_p, yes_q) (omega (arith, rest))
        | inr no_q ↦ rw (yes_p, no_q) (omega (arith, rest))
      ]
    ]

-- Those from an id on

le_true : (a b : ℕ) → a ≤ b → nat_le a b ≡ true
le_true a b l = search (rules, l)

le_false : (a b : ℕ) → b < a → nat_le a b ≡ false
le_false a b l = search (rules, l)

true_le : (a b : ℕ) → nat_le a b ≡ true → a ≤ b
true_le a b e = search (rules, e)

module _ (n : ℕ) (F : Thing → Bool) where
  -- the tests of an id
  abbrev from_on : ℕ → Thing → Bool
  from_on c x = F x && nat_le c x.id

  -- no thing of a list has this id
  same_from : (m : ℕ) (things : List Thing) (c : ℕ) → AreNumbered m things → c < m → filter (from_on c) things
      ≡ filter (from_on (c + 1)) things
  same_from m things c numbered low = filter-same (from_on c) (from_on (c + 1)) things (λ x is.
      let at = ids-numbered m things x numbered is in
      ap (λ b. F x && b) (le_true c x.id (omega (arith, low, at.low)) ∙ sym (le_true (c + 1) x.id (omega (arith, low, at.low)))))

  split : (m : ℕ) (things : List Thing) (c : ℕ) → AreNumbered m things → filter (from_on c) things ≡ entries F (thing_with_id things c)
      ++ filter (from_on (c + 1)) things
  split m [] c numbered = refl
  split m (u ∷ us) c numbered =
      elim (cases_eq u.id c) [
        | inl here ↦
            let own = numbered.0 in
            rw (eq-eqb u.id c here, le_true c u.id (omega (arith, here)), le_false (c + 1) u.id (omega (arith, here)))
            (by_head (F u) (same_from (m + 1) us c numbered.1 (omega (arith, own, here))))
        | inr away ↦
            let own = numbered.0 in
            rw (ne_eqb u.id c away)
            (elim (cases_lt c u.id) [
              | inl low ↦ rw (
                le_true c u.id (omega (arith, low)),
                le_true (c + 1) u.id (omega (arith, low)),
                with_id_before (m + 1) us c numbered.1 (omega (arith, low, own)),
              )
                  (ap (λ rest. if F u && true then u ∷ rest else rest) (same_from (m + 1) us c numbered.1 (omega (arith, low, own))))
              | inr high ↦ rw (le_false c u.id (omega (arith, high, away)), le_false (c + 1) u.id (omega (arith, high)))
                  (by_none (F u) (split (m + 1) us c numbered.1))
            ])
      ]
    where
      by_head : (b : Bool) → filter (from_on c) us ≡ filter (from_on (c + 1)) us
          → (if b && true then u ∷ filter (from_on c) us else filter (from_on c) us) ≡ (if b then u ∷ [] else [])
          ++ (if b && false then u ∷ filter (from_on (c + 1)) us else filter (from_on (c + 1)) us)
      by_head true same = ap (λ rest. u ∷ rest) same
      by_head false same = same

      by_none : (b : Bool) → filter (from_on c) us ≡ entries F (thing_with_id us c) ++ filter (from_on (c + 1)) us
          → (if b && false then u ∷ filter (from_on c) us else filter (from_on c) us) ≡ entries F (thing_with_id us c)
          ++ (if b && false then u ∷ filter (from_on (c + 1)) us else filter (from_on (c + 1)) us)
      by_none true same = same
      by_none false same = same

-- ids that rise from one on are not below it
pub rising_low : (from : ℕ) (ids : List ℕ) (id : ℕ) → AreRising from ids → IsIn id ids → from ≤ id
rising_low from [] id rising is = absurd is
rising_low from (c ∷ cs) id rising (inl same) = (let l = rising.0 in omega (arith, l, same))
rising_low from (c ∷ cs) id rising (inr rest) =
    (let l = rising.0 in let low = rising_low (c + 1) cs id rising.1 rest in omega (arith, l, low))

-- the things that pass a test, where all their ids are among those that rise
pub listed_from : (n : ℕ) (F : Thing → Bool) (things : List Thing) (from : ℕ) (ids : List ℕ) → AreNumbered n things → AreRising from ids
    → ((x : Thing) → IsIn x things → F x ≡ true → from ≤ x.id → IsIn x.id ids)
    → filter (λ x. F x && nat_le from x.id) things ≡ flat_map (λ id. entries F (thing_with_id things id)) ids
listed_from n F things from [] numbered rising covers =
    filter-none _ things (λ x is. false_from_ne_true _
    (λ e. let both = and_parts (F x) (nat_le from x.id) e in covers x is both.0 (true_le from x.id both.1)))
listed_from n F things from (c ∷ cs) numbered rising covers =
    filter-same _ _ things same
    ∙ split n F n things c numbered
    ∙ ap (λ rest. entries F (thing_with_id things c) ++ rest) (listed_from n F things (c + 1) cs numbered rising.1 later)
  where
    later : (x : Thing) → IsIn x things → F x ≡ true → c + 1 ≤ x.id → IsIn x.id cs
    later x is f low = elim (covers x is f (let l = rising.0 in omega (arith, l, low)))
        [ inl same ↦ absurd (omega (arith, same, low)) | inr rest ↦ rest ]

    same : (x : Thing) → IsIn x things → (F x && nat_le from x.id) ≡ (F x && nat_le c x.id)
    same x is = elim (cases_Bool (F x)) [
      | inr no_f ↦ rw no_f refl
      | inl yes_f ↦ rw yes_f (elim (cases_lt x.id c) [
        | inl low ↦ le_false_or (nat_le from x.id) refl yes_f low ∙ sym (le_false c x.id low)
        | inr high ↦ (let l = rising.0 in le_true from x.id (omega (arith, l, high)) ∙ sym (le_true c x.id high))
      ])
    ] where
      le_false_or : (b : Bool) → nat_le from x.id ≡ b → F x ≡ true → x.id < c → b ≡ false
      le_false_or false e f low = refl
      le_false_or true e f low = absurd (let at = rising_low c (c ∷ cs) x.id (omega arith, rising.1) (covers x is f (true_le from x.id e))
          in omega (arith, at, low))

pub listed : (n : ℕ) (F : Thing → Bool) (things : List Thing) (ids : List ℕ) → AreNumbered n things → AreRising 0 ids
    → ((x : Thing) → IsIn x things → F x ≡ true → IsIn x.id ids)
    → filter F things ≡ flat_map (λ id. entries F (thing_with_id things id)) ids
listed n F things ids numbered rising covers =
    filter-same F (λ x. F x && nat_le 0 x.id) things (λ x is. by_test (F x) ∙ ap (λ b. F x && b) (sym (le_true 0 x.id (omega arith))))
    ∙ listed_from n F things 0 ids numbered rising (λ x is f low. covers x is f)
  where
    by_test : (b : Bool) → b ≡ (b && true)
    by_test true = refl
    by_test false = refl

-- as many things pass a test as there are ids of such things
pub as_many_from : (n : ℕ) (F : Thing → Bool) (things : List Thing) (from : ℕ) (ids : List ℕ) → AreNumbered n things → AreRising from ids
    → ((id : ℕ) → IsIn id ids → passes F (thing_with_id things id) ≡ true) → length ids
    ≤ length (filter (λ x. F x && nat_le from x.id) things)
as_many_from n F things from [] numbered rising each = omega arith
as_many_from n F things from (c ∷ cs) numbered rising each =
    let rest = as_many_from n F things (c + 1) cs numbered rising.1 (λ id is. each id (inr is)) in
    let more = length-fewer (λ x. F x && nat_le from x.id) (λ x. F x && nat_le c x.id) things (λ x is e.
    let both = and_parts (F x) (nat_le c x.id) e in
    let high = true_le c x.id both.1 in
    let l = rising.0 in
    and_from (F x) _ both.0 (le_true from x.id (omega (arith, l, high)))) in
    let here = ap length (split n F n things c numbered) in
    at (thing_with_id things c) (each c (inl refl)) rest more here
  where
    at : (o : Option Thing) → passes F o ≡ true → length cs ≤ length (filter (λ x. F x && nat_le (c + 1) x.id) things)
        → length (filter (λ x. F x && nat_le c x.id) things) ≤ length (filter (λ x. F x && nat_le from x.id) things)
        → length (filter (λ x. F x && nat_le c x.id) things) ≡ length (entries F o ++ filter (λ x. F x && nat_le (c + 1) x.id) things)
        → length (c ∷ cs) ≤ length (filter (λ x. F x && nat_le from x.id) things)
    at None e rest more here = absurd cc
    at (Some x) e rest more here =
        let one : length (filter (λ x. F x && nat_le c x.id) things)
        ≡ suc (length (filter (λ x. F x && nat_le (c + 1) x.id) things)) = here ∙ rw e refl in
        omega (arith, rest, more, one)

pub as_many : (n : ℕ) (F : Thing → Bool) (things : List Thing) (from : ℕ) (ids : List ℕ) → AreNumbered n things → AreRising from ids
    → ((id : ℕ) → IsIn id ids → passes F (thing_with_id things id) ≡ true) → length ids ≤ length (filter F things)
as_many n F things from ids numbered rising each =
    let some = as_many_from n F things from ids numbered rising each in
    let more = length-fewer F (λ x. F x && nat_le from x.id) things (λ x is e. (and_parts (F x) _ e).0) in
    omega (arith, some, more)

-- the ids of things that pass a test rise
pub ids_rise : (n : ℕ) (p : Thing → Bool) (things : List Thing) → AreNumbered n things
    → AreRising n (map (λ (x : Thing). x.id) (filter p things))
ids_rise n p [] numbered = tt
ids_rise n p (u ∷ us) numbered = by_test (p u) (ids_rise (n + 1) p us numbered.1) where
  by_test : (b : Bool) → AreRising (n + 1) (map (λ (x : Thing). x.id) (filter p us))
      → AreRising n (map (λ (x : Thing). x.id) (if b then u ∷ filter p us else filter p us))
  by_test true rest = (let own = numbered.0 in (
    omega (arith, own),
    subst (λ m. AreRising m (map (λ (x : Thing). x.id) (filter p us))) (omega (arith, own)) rest,
  ))
  by_test false rest = weaker n (n + 1) _ (omega arith) rest where
    weaker : (a b : ℕ) (ids : List ℕ) → a ≤ b → AreRising b ids → AreRising a ids
    weaker a b [] l rising = tt
    weaker a b (c ∷ cs) l rising = (let low = rising.0 in (omega (arith, l, low), rising.1))

-- Ids at their places

pub rising_weaker : (a b : ℕ) (ids : List ℕ) → a ≤ b → AreRising b ids → AreRising a ids
rising_weaker a b [] l rising = tt
rising_weaker a b (c ∷ cs) l rising = (let low = rising.0 in (omega (arith, l, low), rising.1))

pub rising_filter : (from : ℕ) (p : ℕ → Bool) (ids : List ℕ) → AreRising from ids → AreRising from (filter p ids)
rising_filter from p [] rising = tt
rising_filter from p (c ∷ cs) rising =
    elim (cases_Bool (p c)) [
      | inl yes_p ↦ rw yes_p (rising.0, rising_filter (c + 1) p cs rising.1)
      | inr no_p ↦ rw no_p (rising_weaker from (c + 1) (filter p cs) (let low = rising.0 in omega (arith, low))
          (rising_filter (c + 1) p cs rising.1))
    ]

pub put_rising : (from id : ℕ) (ids : List ℕ) → from ≤ id → AreRising from ids → AreRising from (put_id id ids)
put_rising from id [] low rising = (low, tt)
put_rising from id (c ∷ cs) low rising =
    elim (cases_lt c id) [
      | inl under ↦ rw (lt-ltb c id under) (rising.0, put_rising (c + 1) id cs (omega (arith, under)) rising.1)
      | inr over ↦ rw (le-ltb c id over) (elim (cases_eq c id) [
        | inl same ↦ rw (eq-eqb c id same) rising
        | inr other ↦ rw (ne_eqb c id other) (low, (omega (arith, over, other), rising.1))
      ])
    ]

pub put_in : (id : ℕ) (ids : List ℕ) (x : ℕ) → IsIn x (put_id id ids) → (x ≡ id) ⊎ IsIn x ids
put_in id [] x (inl same) = inl (sym same)
put_in id [] x (inr rest) = absurd rest
put_in id (c ∷ cs) x is = by_order (put_in id cs x) (nat_lt c id) (c == id) is where
  by_order : (IsIn x (put_id id cs) → (x ≡ id) ⊎ IsIn x cs) → (b e : Bool)
      → IsIn x (if b then c ∷ put_id id cs else (if e then c ∷ cs else id ∷ c ∷ cs)) → (x ≡ id) ⊎ IsIn x (c ∷ cs)
  by_order later true e (inl same) = inr (inl same)
  by_order later true e (inr rest) = elim (later rest) [ inl here ↦ inl here | inr there ↦ inr (inr there) ]
  by_order later false true is = inr is
  by_order later false false (inl same) = inl (sym same)
  by_order later false false (inr rest) = inr rest

pub put_has : (id : ℕ) (ids : List ℕ) → IsIn id (put_id id ids)
put_has id [] = inl refl
put_has id (c ∷ cs) =
    elim (cases_Bool (nat_lt c id)) [
      | inl under ↦ rw under (inr (put_has id cs))
      | inr over ↦ rw over (elim (cases_Bool (c == id)) [
        | inl same ↦ rw same (inl (eqb-true c id same))
        | inr other ↦ rw other (inl refl)
      ])
    ]

pub put_keeps : (id : ℕ) (ids : List ℕ) (x : ℕ) → IsIn x ids → IsIn x (put_id id ids)
put_keeps id [] x is = absurd is
put_keeps id (c ∷ cs) x is = by_order (put_keeps id cs x) (nat_lt c id) (c == id) is where
  by_order : (IsIn x cs → IsIn x (put_id id cs)) → (b e : Bool) → IsIn x (c ∷ cs)
      → IsIn x (if b then c ∷ put_id id cs else (if e then c ∷ cs else id ∷ c ∷ cs))
  by_order later true e (inl same) = inl same
  by_order later true e (inr rest) = inr (later rest)
  by_order later false true is = is
  by_order later false false is = inr is

pub all_rising : (more ids : List ℕ) → AreRising 0 ids → AreRising 0 (put_ids more ids)
all_rising [] ids rising = rising
all_rising (id ∷ more) ids rising = all_rising more (put_id id ids) (put_rising 0 id ids (omega arith) rising)

pub all_in : (more ids : List ℕ) (x : ℕ) → IsIn x (put_ids more ids) → IsIn x more ⊎ IsIn x ids
all_in [] ids x is = inr is
all_in (id ∷ more) ids x is = elim (all_in more (put_id id ids) x is) [
  | inl later ↦ inl (inr later)
  | inr put ↦ elim (put_in id ids x put) [ inl same ↦ inl (inl (sym same)) | inr old ↦ inr old ]
]

pub all_keep : (more ids : List ℕ) (x : ℕ) → IsIn x ids → IsIn x (put_ids more ids)
all_keep [] ids x is = is
all_keep (id ∷ more) ids x is = all_keep more (put_id id ids) x (put_keeps id ids x is)

pub all_have : (more ids : List ℕ) (x : ℕ) → IsIn x more → IsIn x (put_ids more ids)
all_have [] ids x is = absurd is
all_have (id ∷ more) ids x (inl same) = all_keep more (put_id id ids) x (subst (λ z. IsIn z (put_id id ids)) same (put_has id ids))
all_have (id ∷ more) ids x (inr rest) = all_have more (put_id id ids) x rest
