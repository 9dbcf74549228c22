-- Loops over places: the first value, and a test of all.
use Rattle.std.proofs.Common.{◌≡◌, ℕ, zero, suc, ◌+◌, ◌<◌, Bool, true, false, Some, None, arith, refl, add-one, zero-add, suc-add, ◌-◌}
use Rattle.std.specs.Prelude.{Option}
use Rattle.kms_model.specs.declared.objects.ObjId.{ObjId}
use Rattle.kms_track.specs.Places.{all_below, first_below}
use Rattle.kms_track.specs.Tracking.{with_object}

pub none_more : {A : Type 0} (f : ℕ → Option A) (i : ℕ) → first_below f i ≡ None → f i ≡ None → first_below f (i + 1) ≡ None
unfolding first_below
none_more f i before here = rw (add-one i, before, here) refl

-- the first value stays the first
found_still : {A : Type 0} (f : ℕ → Option A) (n more : ℕ) (x : A) → first_below f n ≡ Some x → first_below f (more + n) ≡ Some x
unfolding first_below
found_still f n zero x found = rw zero-add found
found_still f n (suc more) x found = rw (suc-add, found_still f n more x found) refl

pub first_found : {A : Type 0} (f : ℕ → Option A) (i n : ℕ) (x : A) → first_below f i ≡ None → f i ≡ Some x → i < n → first_below f n
    ≡ Some x
unfolding first_below
first_found f i n x before here within =
    let at : first_below f (suc i) ≡ Some x = rw (before, here) refl in
    let all : n ≡ (n - suc i) + suc i = omega arith in
    rw all (found_still f (suc i) (n - suc i) x at)

pub all_more : (test : ℕ → Bool) (i : ℕ) → all_below test i ≡ true → test i ≡ true → all_below test (i + 1) ≡ true
unfolding all_below
all_more test i before here = rw (add-one i, before, here) refl

fails_still : (test : ℕ → Bool) (n more : ℕ) → all_below test n ≡ false → all_below test (more + n) ≡ false
unfolding all_below
fails_still test n zero fails = rw zero-add fails
fails_still test n (suc more) fails = rw (suc-add, fails_still test n more fails) refl

pub all_fails : (test : ℕ → Bool) (i n : ℕ) → all_below test i ≡ true → test i ≡ false → i < n → all_below test n ≡ false
unfolding all_below
all_fails test i n before here within =
    let at : all_below test (suc i) ≡ false = rw (before, here) refl in
    let all : n ≡ (n - suc i) + suc i = omega arith in
    rw all (fails_still test (suc i) (n - suc i) at)

-- equal functions below a number have equal first values, and equal tests agree
pub first_same : {A : Type 0} (f g : ℕ → Option A) (n : ℕ) → ((p : ℕ) → p < n → f p ≡ g p) → first_below f n ≡ first_below g n
unfolding first_below
first_same f g zero same = refl
first_same f g (suc n) same = rw (first_same f g n (λ p within. same p (omega arith)), same n (omega arith)) refl

pub all_same : (f g : ℕ → Bool) (n : ℕ) → ((p : ℕ) → p < n → f p ≡ g p) → all_below f n ≡ all_below g n
unfolding all_below
all_same f g zero same = refl
all_same f g (suc n) same = rw (all_same f g n (λ p within. same p (omega arith)), same n (omega arith)) refl

-- an object with its commit
pub object_here : (object k : ℕ) (o : Option ℕ) (id : ObjId) → Some k ≡ o → id.0 ≡ object → with_object object o ≡ Some (id, k)
object_here object k o id is at = rw (← is, ← at) refl
