-- How far locks can go on: backoffs of contexts as the digits of a number, the oldest first, and the phases between them. Each
-- step of a context lowers what is left.
use Rattle.std.proofs.Common.{◌≡◌, ℕ, zero, suc, ◌+◌, ◌*◌, ◌<◌, ◌≤◌, List, [], ◌∷◌, ◌++◌, length, length-append, Bool, true, false, not}
use Rattle.std.proofs.Common.{◌&&◌, ◌==◌, Option, Some, None, refl, sym, ap, ◌∙◌, subst, arith, inl, inr, ◌⊎◌, ⊎_elim}
use Rattle.std.specs.Prelude.{if◌then◌else◌, filter, find, is_some, nat_lt}
use Rattle.std.proofs.lemmas.List.FromFn.{length-map-range_with_len, length-range_with_len}
use Rattle.std.proofs.Math.Nat.{mul-le-mul_right}
use Rattle.std.proofs.lemmas.Bool.{and_from, and_parts, cases_eq, cases_lt, eq-eqb, eqb-true, le-ltb, ne_eqb, false≢true}
use Rattle.kms_model.specs.Firsts.{one_if}
use Rattle.kms_model.specs.declared.objects.Kind.TheVariants.{Crtc, Plane, Conn}
use Rattle.kms_model.specs.declared.objects.Topology.{Topology}
use Rattle.kms_model.specs.declared.runs.Doing.{Doing}
use Rattle.kms_model.specs.declared.runs.Doing.TheVariants as doing
use Rattle.kms_model.specs.declared.scripts.Script.{Script}
use Rattle.kms_model.specs.Device.Objects.{ids_of, object_id}
use Rattle.kms_model.specs.Machine.Commits.{lockable}
use Rattle.kms_model.specs.Machine.Histories.{client_numbers}
use Rattle.kms_model.specs.Machine.State.{Contexts, has_value}
use Rattle.kms_model.specs.Machine.Steps.{ticket_of}
use Rattle.kms_model.proofs.Items.{IsIn, filter-same}
use Rattle.kms_model.proofs.TouchedLemmas.{HasFewObjects}
use Rattle.kms_laws.specs.Laws.{has_context}
use Rattle.kms_laws.specs.TailsLeft.{sum}
use Rattle.kms_laws.proofs.Basics.{both_bools}
use Rattle.kms_laws.proofs.Contexts.{LocksStand, doing_in, holder_in}
use Rattle.kms_laws.proofs.Quiet.{find-fails}
use Rattle.kms_laws.proofs.ShorterTails.{filter-most}
use Rattle.kms_laws.proofs.Sizes.{sum-most, sum-one}
use Rattle.kms_model.proofs.ThingLemmas.{find-holds}

pub times-less : (a b base : ℕ) → a + 1 ≤ b → a * base + base ≤ b * base
times-less a b base l = let m = mul-le-mul_right base l in grind (arith, m)

times-more : (a b base : ℕ) → a ≤ b → a * base ≤ b * base
times-more a b base l = mul-le-mul_right base l

-- the power of three, by recursion
abbrev pub three_to : ℕ → ℕ
three_to zero = 1
three_to (suc n) = three_to n * 3

three-more : (a b : ℕ) → a ≤ b → three_to a ≤ three_to b
three-more zero zero l = omega arith
three-more zero (suc b) l = let r = three-more zero b (omega arith) in omega (arith, r)
three-more (suc a) zero l = absurd (omega arith)
three-more (suc a) (suc b) l = let r = three-more a b (omega arith) in omega (arith, r)

-- Contexts

-- the objects with a lock that a client does not hold
abbrev pub unheld : Topology → Contexts → ℕ → ℕ
unheld t x client = length (filter (λ o. not (has_value client (holder_in x o))) (lockable t))

-- an older context holds an object
abbrev pub is_older : Contexts → ℕ → Option ℕ → Bool
is_older x ticket None = false
is_older x ticket (Some holder) = nat_lt (ticket_of (doing_in x holder)) ticket

abbrev pub is_blocked : Contexts → ℕ → ℕ → Bool
is_blocked x ticket object = is_older x ticket (holder_in x object)

-- How many steps a context has left until it decides or an older one lets go of a lock: it takes locks, meets an older
-- one, backs off, and takes the object first as soon as no older one holds it.
abbrev pub phase : Topology → Contexts → ℕ → Doing → ℕ
phase t x client (doing.Taking ticket) = unheld t x client + 2
phase t x client (doing.MustBackOff ticket object) = if is_blocked x ticket.0 object.0 then 1 else length (lockable t) + 4
phase t x client (doing.BackedOff ticket object) = if is_blocked x ticket.0 object.0 then 0 else length (lockable t) + 3
phase t x client doing.Idle = 0
phase t x client (doing.Returning k) = 0

few-lockable : (t : Topology) → HasFewObjects t → length (lockable t) ≤ 28
few-lockable t few =
    let crtcs : length (ids_of t Crtc) ≡ t.crtcs = length-map-range_with_len (object_id Crtc) 0 t.crtcs in
    let planes : length (ids_of t Plane) ≡ length t.planes = length-map-range_with_len (object_id Plane) 0 (length t.planes) in
    let conns : length (ids_of t Conn) ≡ length t.conns = length-map-range_with_len (object_id Conn) 0 (length t.conns) in
    let a = length-append (ids_of t Crtc) (ids_of t Plane ++ ids_of t Conn) in
    let b = length-append (ids_of t Plane) (ids_of t Conn) in
    omega (arith, crtcs, planes, conns, a, b, few.crtcs, few.planes, few.conns)

phase-small : (t : Topology) (x : Contexts) (client : ℕ) (d : Doing) → phase t x client d + 1 ≤ length (lockable t) + 5
phase-small t x client (doing.Taking ticket) = let a = filter-most (λ o. not (has_value client (holder_in x o))) (lockable t)
    in omega (arith, a)
phase-small t x client (doing.MustBackOff ticket object) = by_test (is_blocked x ticket.0 object.0)
  where
    by_test : (b : Bool) → (if b then 1 else length (lockable t) + 4) + 1 ≤ length (lockable t) + 5
    by_test true = omega arith
    by_test false = omega arith
phase-small t x client (doing.BackedOff ticket object) = by_test (is_blocked x ticket.0 object.0)
  where
    by_test : (b : Bool) → (if b then 0 else length (lockable t) + 3) + 1 ≤ length (lockable t) + 5
    by_test true = omega arith
    by_test false = omega arith
phase-small t x client doing.Idle = omega arith
phase-small t x client (doing.Returning k) = omega arith

-- How often a context may back off until it decides or an older one lets go of a lock.
abbrev pub backoffs : Contexts → Doing → ℕ
backoffs x (doing.Taking ticket) = 1
backoffs x (doing.MustBackOff ticket object) = if is_blocked x ticket.0 object.0 then 1 else 2
backoffs x (doing.BackedOff ticket object) = if is_blocked x ticket.0 object.0 then 0 else 1
backoffs x doing.Idle = 0
backoffs x (doing.Returning k) = 0

backoffs-small : (x : Contexts) (d : Doing) → backoffs x d ≤ 2
backoffs-small x (doing.Taking ticket) = omega arith
backoffs-small x (doing.MustBackOff ticket object) = by_test (is_blocked x ticket.0 object.0)
  where
    by_test : (b : Bool) → (if b then 1 else 2) ≤ 2
    by_test true = omega arith
    by_test false = omega arith
backoffs-small x (doing.BackedOff ticket object) = by_test (is_blocked x ticket.0 object.0)
  where
    by_test : (b : Bool) → (if b then 0 else 1) ≤ 2
    by_test true = omega arith
    by_test false = omega arith
backoffs-small x doing.Idle = omega arith
backoffs-small x (doing.Returning k) = omega arith

abbrev pub has_this : Contexts → ℕ → ℕ → Bool
has_this x ticket client = has_context (doing_in x client) && (ticket_of (doing_in x client) == ticket)

-- the client that has a ticket
abbrev pub with_ticket : Script → Contexts → ℕ → Option ℕ
with_ticket s x ticket = find (has_this x ticket) (client_numbers s)

-- The backoffs of the contexts as digits of a number, the oldest context first.
abbrev pub digit_more : Contexts → Option ℕ → ℕ → ℕ
digit_more x None n = n
digit_more x (Some client) n = n * 3 + backoffs x (doing_in x client)

abbrev pub all_backoffs : Script → Contexts → ℕ → ℕ
all_backoffs s x zero = 0
all_backoffs s x (suc ticket) = digit_more x (with_ticket s x ticket) (all_backoffs s x ticket)

-- so many of the first tickets are some client's
abbrev pub active : Script → Contexts → ℕ → ℕ
active s x zero = 0
active s x (suc ticket) = one_if (is_some (with_ticket s x ticket)) + active s x ticket

all_backoffs-below : (s : Script) (x : Contexts) (n : ℕ) → all_backoffs s x n + 1 ≤ three_to (active s x n)
all_backoffs-below s x zero = omega arith
all_backoffs-below s x (suc n) = by_client (with_ticket s x n) (all_backoffs-below s x n)
  where
    none-more : (k : ℕ) → 0 + k ≡ k
    none-more k = omega arith

    one-more : (k : ℕ) → 1 + k ≡ suc k
    one-more k = omega arith

    by_client : (o : Option ℕ) → all_backoffs s x n + 1 ≤ three_to (active s x n) → digit_more x o (all_backoffs s x n) + 1
        ≤ three_to (one_if (is_some o) + active s x n)
    by_client None l = let e : three_to (0 + active s x n) ≡ three_to (active s x n) = ap three_to (none-more (active s x n))
        in omega (arith, l, e)
    by_client (Some client) l =
        let b = backoffs-small x (doing_in x client) in
        let e : three_to (1 + active s x n) ≡ three_to (active s x n) * 3 = ap three_to (one-more (active s x n)) in
        omega (arith, l, b, e)

-- No more tickets are active than there are clients.

abbrev hits : (ℕ → Bool) → ℕ → ℕ
hits p zero = 0
hits p (suc n) = one_if (p n) + hits p n

one_if-most : (b : Bool) → one_if b ≤ 1
one_if-most true = omega arith
one_if-most false = omega arith

hits-none : (t n : ℕ) → n ≤ t → hits (λ k. t == k) n ≡ 0
hits-none t zero l = refl
hits-none t (suc n) l = let a = ap one_if (ne_eqb t n (λ e. absurd (omega (arith, e, l)))) in let b = hits-none t n (omega (arith, l))
    in omega (arith, a, b)

hits-once : (t n : ℕ) → hits (λ k. t == k) n ≤ 1
hits-once t zero = omega arith
hits-once t (suc n) =
    ⊎_elim
    (λ (e : t ≡ n). let a = one_if-most (t == n) in let b = hits-none t n (omega (arith, e)) in omega (arith, a, b))
    (λ ne. let a = ap one_if (ne_eqb t n ne) in let b = hits-once t n in omega (arith, a, b))
    (cases_eq t n)

hits-and : (a : Bool) (p : ℕ → Bool) (n : ℕ) → hits (λ k. a && p k) n ≤ hits p n
hits-and a p zero = omega arith
hits-and a p (suc n) = by_test a (p n) (hits-and a p n)
  where
    by_test : (a b : Bool) → hits (λ k. a && p k) n ≤ hits p n → one_if (a && b) + hits (λ k. a && p k) n ≤ one_if b + hits p n
    by_test true b l = omega (arith, l)
    by_test false b l = omega (arith, l)

hits-or : (p q r : ℕ → Bool) (n : ℕ) → ((k : ℕ) → one_if (r k) ≤ one_if (p k) + one_if (q k)) → hits r n ≤ hits p n + hits q n
hits-or p q r zero h = omega arith
hits-or p q r (suc n) h = let a = h n in let b = hits-or p q r n h in omega (arith, a, b)

hits-found : (x : Contexts) (clients : List ℕ) (n : ℕ) → hits (λ k. is_some (find (has_this x k) clients)) n ≤ length clients
hits-found x [] n = none n
  where
    none : (n : ℕ) → hits (λ k. false) n ≤ 0
    none zero = omega arith
    none (suc n) = let a = none n in omega (arith, a)
hits-found x (c ∷ cs) n =
    let a = hits-or (λ k. has_this x k c) (λ k. is_some (find (has_this x k) cs)) (λ k. is_some (find (has_this x k) (c ∷ cs))) n
    (λ k. by_test (has_this x k c) (find (has_this x k) cs)) in
    let b = hits-and (has_context (doing_in x c)) (λ k. ticket_of (doing_in x c) == k) n in
    let d = hits-once (ticket_of (doing_in x c)) n in
    let e = hits-found x cs n in
    omega (arith, a, b, d, e)
  where
    by_test : (b : Bool) (o : Option ℕ) → one_if (is_some (if b then Some c else o)) ≤ one_if b + one_if (is_some o)
    by_test true o = omega arith
    by_test false o = omega arith

active-hits : (s : Script) (x : Contexts) (n : ℕ) → active s x n ≡ hits (λ k. is_some (with_ticket s x k)) n
active-hits s x zero = refl
active-hits s x (suc n) = ap (λ z. one_if (is_some (with_ticket s x n)) + z) (active-hits s x n)

pub backoffs-below : (s : Script) (x : Contexts) (n : ℕ) → length s.clients ≤ 16 → all_backoffs s x n + 1 ≤ 43046721
backoffs-below s x n few =
    let a = all_backoffs-below s x n in
    let b = active-hits s x n in
    let c = hits-found x (client_numbers s) n in
    let d : length (client_numbers s) ≡ length s.clients = length-range_with_len 1 (length s.clients) in
    let e = three-more (active s x n) 16 (omega (arith, b, c, d, few)) in
    let f : three_to 16 ≡ 43046721 = refl in
    omega (arith, a, e, f)

-- the phases of all contexts
abbrev pub all_phases : Script → Contexts → ℕ
all_phases s x = sum (λ c. phase s.topology x c (doing_in x c)) 1 (length s.clients)

pub phases-below : (s : Script) (x : Contexts) → HasFewObjects s.topology → length s.clients ≤ 16 → all_phases s x ≤ 512
phases-below s x few clients =
    let a = sum-most (λ c. phase s.topology x c (doing_in x c)) 32 1 (length s.clients)
    (λ c. let p = phase-small s.topology x c (doing_in x c) in let l = few-lockable s.topology few in omega (arith, p, l)) in
    omega (arith, a, clients)

-- what is left of all contexts, with at most so many tickets
abbrev pub contexts_left : Script → ℕ → Contexts → ℕ
contexts_left s most x = all_backoffs s x most * 529 + all_phases s x

find-same : {A : Type 0} (p q : A → Bool) (xs : List A) → ((x : A) → p x ≡ q x) → find p xs ≡ find q xs
find-same p q [] h = refl
find-same p q (x ∷ xs) h = (λ i. if h x i then Some x else find-same p q xs h i)

-- an object is free, or a client holds it
abbrev pub IsFreeOr : ℕ → Option ℕ → Type 0
IsFreeOr client o = (o ≡ None) ⊎ (o ≡ Some client)

-- a step of a client's context that lets no lock go
pub record IsTaking (x y : Contexts) (client : ℕ) : Type 0 where
  pub no_more : backoffs y (doing_in y client) ≤ backoffs x (doing_in x client)
  pub taken : (o : ℕ) → (holder_in y o ≡ holder_in x o) ⊎ ((holder_in x o ≡ None) × (holder_in y o ≡ Some client))

-- what a step of one client's context leaves of all contexts
pub record IsOwnStep (s : Script) (x y : Contexts) (client : ℕ) : Type 0 where
  pub ticket : has_context (doing_in x client) ≡ true
  pub still : has_context (doing_in y client) ≡ true
  pub same_ticket : ticket_of (doing_in y client) ≡ ticket_of (doing_in x client)
  pub others : (a : ℕ) → (client ≡ a → ⊥) → doing_in y a ≡ doing_in x a
  pub holders : (o : ℕ) → (holder_in y o ≡ holder_in x o) ⊎ (IsFreeOr client (holder_in x o) × IsFreeOr client (holder_in y o))
  pub less : phase s.topology y client (doing_in y client) + 1 ≤ phase s.topology x client (doing_in x client)
  pub kind : (backoffs y (doing_in y client) + 1 ≤ backoffs x (doing_in x client)) ⊎ IsTaking x y client

module _ (s : Script) (x y : Contexts) (n client : ℕ) (L : LocksStand s x n) (S : IsOwnStep s x y client)
    (is_client : IsIn client (client_numbers s)) where
  all_tickets : (a : ℕ) → ticket_of (doing_in y a) ≡ ticket_of (doing_in x a)
  all_tickets a = ⊎_elim (λ same. subst (λ z. ticket_of (doing_in y z) ≡ ticket_of (doing_in x z)) same S.same_ticket)
      (λ ne. ap ticket_of (S.others a ne)) (cases_eq client a)

  all_have : (a : ℕ) → has_context (doing_in y a) ≡ has_context (doing_in x a)
  all_have a = ⊎_elim (λ same. subst (λ z. has_context (doing_in y z) ≡ has_context (doing_in x z)) same (S.still ∙ sym S.ticket))
      (λ ne. ap has_context (S.others a ne)) (cases_eq client a)

  found_same : (ticket : ℕ) → find (has_this y ticket) (client_numbers s) ≡ find (has_this x ticket) (client_numbers s)
  found_same ticket = find-same (has_this y ticket) (has_this x ticket) (client_numbers s)
      (λ a. (λ i. all_have a i && (all_tickets a i == ticket)))

  -- another client holds what it held
  held_same : (a o : ℕ) → (client ≡ a → ⊥) → has_value a (holder_in y o) ≡ has_value a (holder_in x o)
  held_same a o ne =
      ⊎_elim
      (λ same. ap (has_value a) same)
      (λ both. none (holder_in y o) both.1 ∙ sym (none (holder_in x o) both.0))
      (S.holders o)
    where
      none : (h : Option ℕ) → IsFreeOr client h → has_value a h ≡ false
      none h (inl e) = ap (has_value a) e
      none h (inr e) = ap (has_value a) e ∙ ne_eqb client a ne

  -- what blocks an older context blocks it still
  blocked_same : (a o : ℕ) → ticket_of (doing_in x a) < ticket_of (doing_in x client) → is_blocked y (ticket_of (doing_in x a)) o
      ≡ is_blocked x (ticket_of (doing_in x a)) o
  blocked_same a o older =
      ⊎_elim
      (λ same. ap (is_older y (ticket_of (doing_in x a))) same ∙ by_holder (holder_in x o))
      (λ both. none (holder_in y o) y both.1 (all_tickets client) ∙ sym (none (holder_in x o) x both.0 refl))
      (S.holders o)
    where
      by_holder : (h : Option ℕ) → is_older y (ticket_of (doing_in x a)) h ≡ is_older x (ticket_of (doing_in x a)) h
      by_holder None = refl
      by_holder (Some holder) = ap (λ z. nat_lt z (ticket_of (doing_in x a))) (all_tickets holder)

      none : (h : Option ℕ) (z : Contexts) → IsFreeOr client h → ticket_of (doing_in z client) ≡ ticket_of (doing_in x client)
          → is_older z (ticket_of (doing_in x a)) h ≡ false
      none h z (inl e) same = ap (is_older z (ticket_of (doing_in x a))) e
      none h z (inr e) same = ap (is_older z (ticket_of (doing_in x a))) e ∙ le-ltb (ticket_of (doing_in z client))
          (ticket_of (doing_in x a)) (omega (arith, older, same))

  -- so an older context may back off as often
  backoffs_same : (a : ℕ) (d : Doing) → doing_in x a ≡ d → ticket_of (doing_in x a) < ticket_of (doing_in x client) → backoffs y d
      ≡ backoffs x d
  backoffs_same a (doing.Taking ticket) e older = refl
  backoffs_same a (doing.MustBackOff ticket object) e older = ap (λ b. if b then 1 else 2)
      (subst (λ z. is_blocked y z object.0 ≡ is_blocked x z object.0) (ap ticket_of e) (blocked_same a object.0 older))
  backoffs_same a (doing.BackedOff ticket object) e older = ap (λ b. if b then 0 else 1)
      (subst (λ z. is_blocked y z object.0 ≡ is_blocked x z object.0) (ap ticket_of e) (blocked_same a object.0 older))
  backoffs_same a doing.Idle e older = refl
  backoffs_same a (doing.Returning k) e older = refl

  digit_same : (ticket n : ℕ) → ticket < ticket_of (doing_in x client) → digit_more y (with_ticket s y ticket) n
      ≡ digit_more x (with_ticket s x ticket) n
  digit_same ticket n older = ap (λ o. digit_more y o n) (found_same ticket) ∙ go (with_ticket s x ticket) refl
    where
      go : (o : Option ℕ) → with_ticket s x ticket ≡ o → digit_more y o n ≡ digit_more x o n
      go None e = refl
      go (Some a) e =
          let has = find-holds (has_this x ticket) (client_numbers s) a e in
          let is : ticket_of (doing_in x a) ≡ ticket = eqb-true (ticket_of (doing_in x a)) ticket
          (and_parts (has_context (doing_in x a)) _ has).1 in
          let ne : client ≡ a → ⊥ = (λ same. let z = ap (λ b. ticket_of (doing_in x b)) same in absurd (omega (arith, z, is, older))) in
          ap (λ z. n * 3 + z) (ap (backoffs y) (S.others a ne) ∙ backoffs_same a (doing_in x a) refl (omega (arith, is, older)))

  found_client : find (has_this x (ticket_of (doing_in x client))) (client_numbers s) ≡ Some client
  found_client = go (find (has_this x (ticket_of (doing_in x client))) (client_numbers s)) refl
    where
      own : has_this x (ticket_of (doing_in x client)) client ≡ true
      own = and_from _ _ S.ticket (eq-eqb (ticket_of (doing_in x client)) (ticket_of (doing_in x client)) refl)

      go : (o : Option ℕ) → find (has_this x (ticket_of (doing_in x client))) (client_numbers s) ≡ o → o ≡ Some client
      go None e = absurd (both_bools _ own (find-fails (has_this x (ticket_of (doing_in x client))) (client_numbers s) client e is_client))
      go (Some a) e =
          let has = and_parts (has_context (doing_in x a)) _
          (find-holds (has_this x (ticket_of (doing_in x client))) (client_numbers s) a e) in
          ap Some (L.unique a client has.0 S.ticket (eqb-true (ticket_of (doing_in x a)) (ticket_of (doing_in x client)) has.1))

  -- A backoff: the client's digit is less, those of older ones are the same.
  back_same : (n : ℕ) → n ≤ ticket_of (doing_in x client) → all_backoffs s y n ≡ all_backoffs s x n
  back_same zero l = refl
  back_same (suc n) l = digit_same n (all_backoffs s y n) (omega (arith, l)) ∙ ap (digit_more x (with_ticket s x n))
      (back_same n (omega (arith, l)))

  back_less : backoffs y (doing_in y client) + 1 ≤ backoffs x (doing_in x client) → (n : ℕ) → ticket_of (doing_in x client) < n
      → all_backoffs s y n + 1 ≤ all_backoffs s x n
  back_less own zero l = absurd (omega arith)
  back_less own (suc n) l =
      ⊎_elim
      (λ (lt : ticket_of (doing_in x client) < n). later (with_ticket s x n) (found_same n) (back_less own n lt))
      (λ (ge : n ≤ ticket_of (doing_in x client)).
      let same : ticket_of (doing_in x client) ≡ n = omega (arith, l, ge) in
      let here : with_ticket s x n ≡ Some client = ap (with_ticket s x) (sym same) ∙ found_client in
      let a = ap (λ o. digit_more y o (all_backoffs s y n)) (found_same n ∙ here) in
      let b = ap (λ o. digit_more x o (all_backoffs s x n)) here in
      let c = back_same n ge in
      omega (arith, a, b, c, own))
      (cases_lt (ticket_of (doing_in x client)) n)
    where
      later : (o : Option ℕ) → with_ticket s y n ≡ o → all_backoffs s y n + 1 ≤ all_backoffs s x n
          → digit_more y (with_ticket s y n) (all_backoffs s y n) + 1 ≤ digit_more x o (all_backoffs s x n)
      later None e l = let a = ap (λ o. digit_more y o (all_backoffs s y n)) e in omega (arith, a, l)
      later (Some c) e l = let a = ap (λ o. digit_more y o (all_backoffs s y n)) e in let b = backoffs-small y (doing_in y c)
          in omega (arith, a, b, l)

  -- Otherwise: no context has more left.
  module _ (T : IsTaking x y client) where
    blocked_more : (ticket o : ℕ) → is_blocked x ticket o ≡ true → is_blocked y ticket o ≡ true
    blocked_more ticket o h =
        ⊎_elim
        (λ same. ap (is_older y ticket) same ∙ by_holder (holder_in x o) ∙ h)
        (λ both. absurd (both_bools _ h (ap (is_older x ticket) both.0)))
        (T.taken o)
      where
        by_holder : (h : Option ℕ) → is_older y ticket h ≡ is_older x ticket h
        by_holder None = refl
        by_holder (Some holder) = ap (λ z. nat_lt z ticket) (all_tickets holder)

    if-less : (b c : Bool) (low high : ℕ) → (b ≡ true → c ≡ true) → low ≤ high → (if c then low else high) ≤ (if b then low else high)
    if-less true true low high e l = omega arith
    if-less true false low high e l = absurd (false≢true (e refl))
    if-less false true low high e l = l
    if-less false false low high e l = omega arith

    backoffs_less : (d : Doing) → backoffs y d ≤ backoffs x d
    backoffs_less (doing.Taking ticket) = omega arith
    backoffs_less (doing.MustBackOff ticket object) = if-less (is_blocked x ticket.0 object.0) (is_blocked y ticket.0 object.0) 1 2
        (blocked_more ticket.0 object.0) (omega arith)
    backoffs_less (doing.BackedOff ticket object) = if-less (is_blocked x ticket.0 object.0) (is_blocked y ticket.0 object.0) 0 1
        (blocked_more ticket.0 object.0) (omega arith)
    backoffs_less doing.Idle = omega arith
    backoffs_less (doing.Returning k) = omega arith

    phase_less : (a : ℕ) (d : Doing) → (client ≡ a → ⊥) → phase s.topology y a d ≤ phase s.topology x a d
    phase_less a (doing.Taking ticket) ne =
        let e = ap length (filter-same (λ o. not (has_value a (holder_in y o))) (λ o. not (has_value a (holder_in x o)))
        (lockable s.topology) (λ o is. ap not (held_same a o ne))) in omega (arith, e)
    phase_less a (doing.MustBackOff ticket object) ne = if-less (is_blocked x ticket.0 object.0) (is_blocked y ticket.0 object.0) 1
        (length (lockable s.topology) + 4) (blocked_more ticket.0 object.0) (omega arith)
    phase_less a (doing.BackedOff ticket object) ne = if-less (is_blocked x ticket.0 object.0) (is_blocked y ticket.0 object.0) 0
        (length (lockable s.topology) + 3) (blocked_more ticket.0 object.0) (omega arith)
    phase_less a doing.Idle ne = omega arith
    phase_less a (doing.Returning k) ne = omega arith

    own_less : (a : ℕ) → backoffs y (doing_in y a) ≤ backoffs x (doing_in x a)
    own_less a =
        ⊎_elim
        (λ same. subst (λ z. backoffs y (doing_in y z) ≤ backoffs x (doing_in x z)) same T.no_more)
        (λ ne. let e = ap (backoffs y) (S.others a ne) in let l = backoffs_less (doing_in x a) in omega (arith, e, l))
        (cases_eq client a)

    all_less : (n : ℕ) → all_backoffs s y n ≤ all_backoffs s x n
    all_less zero = omega arith
    all_less (suc n) = by_client (with_ticket s x n) (found_same n) (all_less n)
      where
        by_client : (o : Option ℕ) → with_ticket s y n ≡ o → all_backoffs s y n ≤ all_backoffs s x n
            → digit_more y (with_ticket s y n) (all_backoffs s y n) ≤ digit_more x o (all_backoffs s x n)
        by_client None e l = let a = ap (λ o. digit_more y o (all_backoffs s y n)) e in omega (arith, a, l)
        by_client (Some c) e l = let a = ap (λ o. digit_more y o (all_backoffs s y n)) e in let b = own_less c in omega (arith, a, b, l)

    phases_less : 1 ≤ client → client < 1 + length s.clients → all_phases s y + 1 ≤ all_phases s x
    phases_less low high =
        sum-one (λ c. phase s.topology y c (doing_in y c)) (λ c. phase s.topology x c (doing_in x c)) client 1 (length s.clients)
        (λ a l m.
        ⊎_elim
        (λ same. subst (λ z. phase s.topology y z (doing_in y z) ≤ phase s.topology x z (doing_in x z)) same
        (let z = S.less in omega (arith, z)))
        (λ ne. let e = ap (phase s.topology y a) (S.others a ne) in let z = phase_less a (doing_in x a) ne in omega (arith, e, z))
        (cases_eq client a))
        S.less low high

  pub own_step_less : (most : ℕ) → ticket_of (doing_in x client) < most → HasFewObjects s.topology → length s.clients ≤ 16 → 1 ≤ client
      → client < 1 + length s.clients → contexts_left s most y + 1 ≤ contexts_left s most x
  own_step_less most l few clients low high =
      ⊎_elim
      (λ back.
      let a = times-less (all_backoffs s y most) (all_backoffs s x most) 529 (back_less back most l) in
      let b = phases-below s y few clients in
      omega (arith, a, b))
      (λ T.
      let a = times-more (all_backoffs s y most) (all_backoffs s x most) 529 (all_less T most) in
      let b = phases_less T low high in
      omega (arith, a, b))
      S.kind
