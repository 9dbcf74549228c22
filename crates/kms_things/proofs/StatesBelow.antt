-- The device before the first command.
use Rattle.std.proofs.Common.{◌≡◌, ◌≢◌, ℕ, zero, suc, ◌+◌, ◌<◌, ◌≤◌, true, cond, Option, Some, None, set, refl, sym, ap, ◌∙◌, arith}
use Rattle.std.specs.Prelude.{map, nat_lt}
use Rattle.std.specs.List.{range_with_len}
use Rattle.std.proofs.lemmas.Bool.Decides.{nat_tests}
use Rattle.kms_model.specs.Device.Places.{alike}
use Rattle.kms_model.specs.declared.states.Both.{Both}
use Rattle.kms_things.specs.Starting.{states_below}

map-range_same : {X : Type 0} (g h : ℕ → X) (a n : ℕ) → ((k : ℕ) → a ≤ k → g k ≡ h k)
    → map g (range_with_len a n) ≡ map h (range_with_len a n)
map-range_same g h a zero same = refl
map-range_same {X} g h a (suc n) same = rw (same a (omega arith), map-range_same g h (a + 1) n (λ k le. same k (omega arith))) refl

-- one place of a list by a function of its places
map-range_set : {X : Type 0} (g h : ℕ → X) (a n i : ℕ) (x : X) → i < n → x ≡ h (a + i) → ((k : ℕ) → k ≢ a + i → g k ≡ h k)
    → set (map g (range_with_len a n)) i x ≡ map h (range_with_len a n)
map-range_set g h a zero i x lt is same = absurd (omega arith)
map-range_set {X} g h a (suc n) zero x lt is same =
    let z : a + zero ≡ a = omega arith in
    let head : x ≡ h a = is ∙ ap h z in
    rw (head, map-range_same g h (a + 1) n (λ k le. same k (λ e. absurd (omega (arith, e, le, z))))) refl
map-range_set {X} g h a (suc n) (suc i) x lt is same =
    let z : a + suc i ≡ a + 1 + i = omega arith in
    rw (
      same a (λ e. absurd (omega (arith, e))),
      map-range_set g h (a + 1) n i x (omega arith) (is ∙ ap h z)
          (λ k ne. same k (λ e. ne (e ∙ z))),
    ) refl

one_more : {S : Type 0} (f : ℕ → S) (i k : ℕ) → k ≢ i
    → cond (nat_lt k i) (Some (alike (f k))) None ≡ cond (nat_lt k (i + 1)) (Some (alike (f k))) None
one_more f i k ne = let e : nat_lt k i ≡ nat_lt k (i + 1) = grind (arith, nat_tests) in rw e refl

-- the state of one object more
pub below_more : {S : Type 0} (room : ℕ) (f : ℕ → S) (i : ℕ) (x : Option (Both S)) → i < room → x ≡ Some (alike (f i))
    → set (states_below room f i) i x ≡ states_below room f (i + 1)
below_more {S} room f i x lt is =
    let last : nat_lt i (i + 1) ≡ true = grind (arith, nat_tests) in
    let z : 0 + i ≡ i = omega arith in
    map-range_set (λ index. cond (nat_lt index i) (Some (alike (f index))) None)
    (λ index. cond (nat_lt index (i + 1)) (Some (alike (f index))) None) 0 room i x lt
    (rw (z, last) is)
    (λ k ne. one_more f i k (λ e. ne (e ∙ sym z)))
