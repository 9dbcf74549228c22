-- The objects of a device, by their places and by their ids.
use Rattle.std.proofs.Common.{◌≡◌, ℕ, zero, suc, ◌+◌, ◌-◌, ◌<◌, ◌≤◌, List, [], ◌∷◌, ◌++◌, map, Bool, true, false, Some, None, arith, refl}
use Rattle.std.proofs.Common.{sym, ap, ◌∙◌, add-one, add-zero, zero-add}
use Rattle.std.specs.Prelude.{◌&&◌, is_none, nat_lt, Option}
use Rattle.std.specs.List.{list_all, range_with_len}
use borrow.Author.Tests.{le-ltb, lt-ltb}
use Rattle.kms_model.specs.declared.objects.Kind.TheVariants.{Crtc, Plane, Conn}
use Rattle.kms_model.specs.declared.objects.Topology.{Topology}
use Rattle.kms_model.specs.Firsts.{or_else, first_some}
use Rattle.kms_model.specs.Device.Objects.{object_id, ids_of, count_of}
use Rattle.kms_model.specs.Machine.Commits.{lockable}
use Rattle.kms_model.proofs.Facts.{or_else-none, or_else-assoc}
use Rattle.kms_track.specs.Places.{object_at_place, all_below, first_below}
use Rattle.kms_track.specs.InStep.{IsWithinPlaces, is_there}

-- the first of places is the first of objects

first_append : {A : Type 0} (g : ℕ → Option A) (xs ys : List ℕ) → first_some g (xs ++ ys) ≡ or_else (first_some g xs) (first_some g ys)
first_append g [] ys = refl
first_append g (x ∷ xs) ys = ap (λ r. or_else (g x) r) (first_append g xs ys) ∙ sym
    (or_else-assoc (g x) (first_some g xs) (first_some g ys))

one_more : {A : Type 0} (f : ℕ → Option A) (a : ℕ) → first_below f (a + 1) ≡ or_else (first_below f a) (f a)
unfolding first_below
one_more f a = rw (add-one a) refl

none_yet : {A : Type 0} (f : ℕ → Option A) → first_below f 0 ≡ None
unfolding first_below
none_yet f = refl

further : {A : Type 0} (f : ℕ → Option A) (a n : ℕ) → first_below f (n + a) ≡ or_else (first_below f a) (first_some f (range_with_len a n))
further f a zero = rw (zero-add a) (sym (or_else-none (first_below f a)))
further f a (suc n) =
    let moved : suc n + a ≡ n + (a + 1) = omega arith in
    rw moved (
    further f (a + 1) n
    ∙ (ap (λ r. or_else r (first_some f (range_with_len (a + 1) n))) (one_more f a) ∙ or_else-assoc (first_below f a) (f a)
    (first_some f (range_with_len (a + 1) n))))

shift : (a i : ℕ) → (a + 1) + i ≡ a + suc i
shift a i = omega arith

-- the objects of a kind from a place on, of which some are not on the device
of_kind : {A : Type 0} (f g : ℕ → Option A) (h : ℕ → ℕ) (a b n m : ℕ) → n ≤ m → ((i : ℕ) → i < n → f (a + i) ≡ g (h (b + i)))
    → ((i : ℕ) → n ≤ i → i < m → f (a + i) ≡ None)
    → first_some f (range_with_len a m) ≡ first_some g (map h (range_with_len b n))
of_kind f g h a b zero zero few present absent = refl
of_kind f g h a b (suc n) zero few present absent = absurd (omega arith)
of_kind f g h a b zero (suc m) few present absent =
    let here : f a ≡ None = rw (add-zero a) at (absent 0 (omega arith) (omega arith)) in
    rw here (of_kind f g h (a + 1) b zero m (omega arith) (λ i within. absurd (omega arith))
    (λ i low high. rw (shift a i) (absent (suc i) (omega arith) (omega arith))))
of_kind f g h a b (suc n) (suc m) few present absent =
    let here : f a ≡ g (h b) = rw (add-zero a, add-zero b) at (present 0 (omega arith)) in
    rw here (ap (λ r. or_else (g (h b)) r) (of_kind f g h (a + 1) (b + 1) n m (omega arith)
    (λ i within. rw (shift a i, shift b i) (present (suc i) (omega arith)))
    (λ i low high. rw (shift a i) (absent (suc i) (omega arith) (omega arith)))))

-- the first of the CRTCs
pub first_crtc : {A : Type 0} (t : Topology) (f g : ℕ → Option A) → IsWithinPlaces t
    → ((i : ℕ) → i < count_of t Crtc → f i ≡ g (object_id Crtc i)) → ((i : ℕ) → count_of t Crtc ≤ i → i < 4 → f i ≡ None) → first_below f 4
    ≡ first_some g (ids_of t Crtc)
first_crtc t f g limits same off =
    further f 0 4 ∙ ap (λ r. or_else r (first_some f (range_with_len 0 4))) (none_yet f)
    ∙ of_kind f g (object_id Crtc) 0 0 (count_of t Crtc) 4 limits.crtcs (λ i within. rw zero-add (same i within))
    (λ i low high. rw zero-add (off i low high))

pub first_lockable : {A : Type 0} (t : Topology) (f g : ℕ → Option A) → IsWithinPlaces t
    → ((p : ℕ) → p < 28 → is_there t p ≡ true → f p ≡ g (object_at_place p)) → ((p : ℕ) → p < 28 → is_there t p ≡ false → f p ≡ None)
    → first_below f 28 ≡ first_some g (lockable t)
first_lockable {A} t f g limits same off =
    let crtcs : first_some f (range_with_len 0 4) ≡ first_some g (ids_of t Crtc) =
    of_kind f g (object_id Crtc) 0 0 (count_of t Crtc) 4 limits.crtcs (λ i within. rw zero-add (crtc_same i within))
    (λ i low high. rw zero-add (off i (omega arith) (crtc_off i high low))) in
    let planes : first_some f (range_with_len 4 16) ≡ first_some g (ids_of t Plane) =
    of_kind f g (object_id Plane) 4 0 (count_of t Plane) 16 limits.planes plane_same
    (λ i low high. off (4 + i) (omega arith) (plane_off i high low)) in
    let conns : first_some f (range_with_len 20 8) ≡ first_some g (ids_of t Conn) =
    of_kind f g (object_id Conn) 20 0 (count_of t Conn) 8 limits.conns conn_same
    (λ i low high. off (20 + i) (omega arith) (conn_off i high low)) in
    let first : first_below f 28 ≡ or_else (or_else (first_some f (range_with_len 0 4)) (first_some f (range_with_len 4 16)))
    (first_some f (range_with_len 20 8)) =
    further f 20 8 ∙ ap (λ r. or_else r (first_some f (range_with_len 20 8)))
    (further f 4 16 ∙ ap (λ r. or_else r (first_some f (range_with_len 4 16)))
    (further f 0 4 ∙ ap (λ r. or_else r (first_some f (range_with_len 0 4))) (none_yet f))) in
    first
    ∙ (ap (λ r. or_else (or_else r (first_some f (range_with_len 4 16))) (first_some f (range_with_len 20 8))) crtcs
    ∙ (ap (λ r. or_else (or_else (first_some g (ids_of t Crtc)) r) (first_some f (range_with_len 20 8))) planes
    ∙ (ap (λ r. or_else (or_else (first_some g (ids_of t Crtc)) (first_some g (ids_of t Plane))) r) conns
    ∙ (or_else-assoc (first_some g (ids_of t Crtc)) (first_some g (ids_of t Plane)) (first_some g (ids_of t Conn))
    ∙ sym (first_append g (ids_of t Crtc) (ids_of t Plane ++ ids_of t Conn) ∙ ap (λ r. or_else (first_some g (ids_of t Crtc)) r)
    (first_append g (ids_of t Plane) (ids_of t Conn)))))))
  where
    crtc_same : (i : ℕ) → i < count_of t Crtc → f i ≡ g (object_id Crtc i)
    crtc_same i within =
        (let low : nat_lt i 4 ≡ true = lt-ltb i 4 (omega (arith, within, limits.crtcs)) in
        let there : is_there t i ≡ true = rw low (lt-ltb i (count_of t Crtc) within) in
        rw low at (same i (omega (arith, within, limits.crtcs)) there))

    plane_same : (i : ℕ) → i < count_of t Plane → f (4 + i) ≡ g (object_id Plane (0 + i))
    plane_same i within =
        (let e : (4 + i) - 4 ≡ i = omega arith in
        let high : nat_lt (4 + i) 4 ≡ false = le-ltb (4 + i) 4 (omega arith) in
        let low : nat_lt (4 + i) 20 ≡ true = lt-ltb (4 + i) 20 (omega (arith, within, limits.planes)) in
        let there : is_there t (4 + i) ≡ true = rw (high, low, e) (lt-ltb i (count_of t Plane) within) in
        rw (zero-add i) (rw (high, low, e) at (same (4 + i) (omega (arith, within, limits.planes)) there)))

    conn_same : (i : ℕ) → i < count_of t Conn → f (20 + i) ≡ g (object_id Conn (0 + i))
    conn_same i within =
        (let e : (20 + i) - 20 ≡ i = omega arith in
        let high : nat_lt (20 + i) 4 ≡ false = le-ltb (20 + i) 4 (omega arith) in
        let higher : nat_lt (20 + i) 20 ≡ false = le-ltb (20 + i) 20 (omega arith) in
        let there : is_there t (20 + i) ≡ true = rw (high, higher, e) (lt-ltb i (count_of t Conn) within) in
        rw (zero-add i) (rw (high, higher, e) at (same (20 + i) (omega (arith, within, limits.conns)) there)))

    crtc_off : (i : ℕ) → i < 4 → count_of t Crtc ≤ i → is_there t i ≡ false
    crtc_off i within beyond = rw (lt-ltb i 4 within) (le-ltb i (count_of t Crtc) beyond)

    plane_off : (i : ℕ) → i < 16 → count_of t Plane ≤ i → is_there t (4 + i) ≡ false
    plane_off i within beyond = (let e : (4 + i) - 4 ≡ i = omega arith
        in rw (le-ltb (4 + i) 4 (omega arith), lt-ltb (4 + i) 20 (omega arith), e) (le-ltb i (count_of t Plane) beyond))

    conn_off : (i : ℕ) → i < 8 → count_of t Conn ≤ i → is_there t (20 + i) ≡ false
    conn_off i within beyond = (let e : (20 + i) - 20 ≡ i = omega arith
        in rw (le-ltb (20 + i) 4 (omega arith), le-ltb (20 + i) 20 (omega arith), e) (le-ltb i (count_of t Conn) beyond))

-- a test of all places is one of all objects

abbrev pub failing : Bool → Option ℕ
failing true = None
failing false = Some 0

last_fails : (x : Option ℕ) (b : Bool) → (is_none x && b) ≡ is_none (or_else x (failing b))
last_fails None true = refl
last_fails None false = refl
last_fails (Some n) b = refl

all_as_first : (f : ℕ → Bool) (n : ℕ) → all_below f n ≡ is_none (first_below (λ p. failing (f p)) n)
unfolding all_below first_below
all_as_first f zero = refl
all_as_first f (suc n) = ap (λ b. b && f n) (all_as_first f n) ∙ last_fails (first_below (λ p. failing (f p)) n) (f n)

list_as_first : (g : ℕ → Bool) (xs : List ℕ) → list_all g xs ≡ is_none (first_some (λ o. failing (g o)) xs)
list_as_first g [] = refl
list_as_first g (x ∷ xs) =
    elim (g x) as (λ b. (b && list_all g xs) ≡ is_none (or_else (failing b) (first_some (λ o. failing (g o)) xs)))
    [ true ↦ list_as_first g xs | false ↦ refl ]

pub all_lockable : (t : Topology) (f g : ℕ → Bool) → IsWithinPlaces t
    → ((p : ℕ) → p < 28 → is_there t p ≡ true → f p ≡ g (object_at_place p)) → ((p : ℕ) → p < 28 → is_there t p ≡ false → f p ≡ true)
    → all_below f 28 ≡ list_all g (lockable t)
all_lockable t f g limits same off =
    all_as_first f 28
    ∙ (ap (λ (o : Option ℕ). is_none o) (first_lockable t (λ p. failing (f p)) (λ o. failing (g o)) limits
    (λ p within there. ap (λ b. failing b) (same p within there)) (λ p within gone. ap (λ b. failing b) (off p within gone)))
    ∙ sym (list_as_first g (lockable t)))

-- one of the CRTCs of the largest device, of which some are not on the device
pub all_crtcs : (t : Topology) (f g : ℕ → Bool) → count_of t Crtc ≤ 4 → ((i : ℕ) → i < count_of t Crtc → f i ≡ g (object_id Crtc i))
    → ((i : ℕ) → count_of t Crtc ≤ i → i < 4 → f i ≡ true) → list_all f (range_with_len 0 4) ≡ list_all g (ids_of t Crtc)
all_crtcs t f g few same off =
    list_as_first f (range_with_len 0 4)
    ∙ (ap (λ (o : Option ℕ). is_none o) (of_kind (λ i. failing (f i)) (λ o. failing (g o)) (object_id Crtc) 0 0 (count_of t Crtc) 4 few
    (λ i within. rw zero-add (ap (λ b. failing b) (same i within))) (λ i low high. rw zero-add (ap (λ b. failing b) (off i low high))))
    ∙ sym (list_as_first g (ids_of t Crtc)))
