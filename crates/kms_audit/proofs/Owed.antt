-- L lines that are left for events: what the map tells, and that it counts the lines that fit.
use Rattle.std.proofs.Common.{◌≡◌, ℕ, zero, suc, ◌+◌, ◌-◌, ◌<◌, Bool, true, false, List, [], ◌∷◌, ◌++◌, length, Option, Some, None, refl}
use Rattle.std.proofs.Common.{sym, ap, ◌∙◌, subst, arith, inl, inr, Ordering, Less, Equal, Greater}
use Rattle.std.proofs.lemmas.Bool.{and_parts, cases_order, cond-false, cond-true, eq-eqb, eqb-true, ltb-true, ne_eqb}
use Rattle.std.proofs.lemmas.Bool.Decides.{nat_tests}
use Rattle.std.proofs.lemmas.List.{length-append, length-reverse, reverse-append}
use Rattle.std.proofs.lemmas.List.Sums.{length-filter, sum_by-cons, sum_by_push}
use Rattle.std.proofs.lemmas.Option.{slice_get-map, slice_get_past}
use Rattle.std.specs.BTreeMap as tree
use Rattle.std.specs.BTreeMap.{BTreeMap, is_at}
use Rattle.std.specs.List.{count_by}
use Rattle.std.specs.Option.{option_map_or}
use Rattle.std.specs.Ordering.{is_eq, nat_cmp, ordering_then}
use Rattle.std.specs.Prelude.{◌%◌, ◌&&◌, ◌==◌, ◌^◌, ◌⊎◌, cond, filter, map, nat_lt, option_map, reverse, slice_get, if◌then◌else◌}
use Rattle.kms_audit.proofs.Indices.{same_number, swapped}
use Rattle.kms_audit.specs.declared.owners.Owner.{Owner}
use Rattle.kms_audit.specs.Eventing.{AreLeft, AreOwed, EventFields, EventKey, IsTaken, is_owed, key_cmp, key_of, owed_at, owed_by}
use Rattle.kms_audit.specs.Eventing.{owed_from, same_key}
use Rattle.kms_audit.specs.Latching.{LatchFields}
use Rattle.kms_audit.specs.Owned.{AreOwners, owner_of}
use Rattle.kms_model.specs.declared.objects.Kind.TheVariants.{Crtc}
use Rattle.kms_model.specs.declared.objects.Topology.{Topology}
use Rattle.kms_model.specs.declared.reports.Report.{Report}
use Rattle.kms_model.specs.declared.scripts.Script.{Script}
use Rattle.kms_model.specs.Device.Objects.{object_id}
use Rattle.kms_model.specs.Firsts.{one_if}
use Rattle.kms_model.specs.Machine.Commits.{commit_at, no_commit}
use Rattle.kms_model.specs.Machine.State.{Commit}
use Rattle.kms_model.specs.Promises.{event_of_latch}
use Rattle.kms_model.specs.Report.Right.{fits_line, has_a_line, latch_from, latch_in, latches_in, same_line}
use Rattle.kms_model.specs.Report.RightAnswers.{commits_of, entries_in, same_event}
use Rattle.kms_model.specs.Request.Flags.{wants_event}

-- Keys

both_equal : (o p : Ordering) → is_eq (ordering_then o p) ≡ (is_eq o && is_eq p)
both_equal Less p = refl
both_equal Equal p = refl
both_equal Greater p = refl

and_all : (a b c d : Bool) → (((a && b) && c) && d) ≡ (a && (b && (c && d)))
and_all true b c d = and_three b c d where
  and_three : (x y z : Bool) → ((x && y) && z) ≡ (x && (y && z))
  and_three true y z = refl
  and_three false y z = refl
and_all false b c d = refl

pub same_event_keys : (a b : EventKey) → is_at (key_cmp a) b ≡ same_key a b
same_event_keys a b =
    both_equal (ordering_then (ordering_then (nat_cmp a.0 b.0) (nat_cmp a.1 b.1)) (nat_cmp a.2 b.2)) (nat_cmp a.3 b.3)
    ∙ (ap (λ x. x && is_eq (nat_cmp a.3 b.3)) (both_equal (ordering_then (nat_cmp a.0 b.0) (nat_cmp a.1 b.1)) (nat_cmp a.2 b.2))
    ∙ (ap (λ x. (x && is_eq (nat_cmp a.2 b.2)) && is_eq (nat_cmp a.3 b.3)) (both_equal (nat_cmp a.0 b.0) (nat_cmp a.1 b.1))
    ∙ (ap (λ x. ((x && is_eq (nat_cmp a.1 b.1)) && is_eq (nat_cmp a.2 b.2)) && is_eq (nat_cmp a.3 b.3)) (same_number a.0 b.0)
    ∙ (ap (λ x. (((a.0 == b.0) && x) && is_eq (nat_cmp a.2 b.2)) && is_eq (nat_cmp a.3 b.3)) (same_number a.1 b.1)
    ∙ (ap (λ x. (((a.0 == b.0) && (a.1 == b.1)) && x) && is_eq (nat_cmp a.3 b.3)) (same_number a.2 b.2)
    ∙ (ap (λ x. (((a.0 == b.0) && (a.1 == b.1)) && (a.2 == b.2)) && x) (same_number a.3 b.3)
    ∙ and_all (a.0 == b.0) (a.1 == b.1) (a.2 == b.2) (a.3 == b.3)))))))

key_same : (a b : EventKey) → same_key a b ≡ true → a ≡ b
key_same a b e =
    let p = and_parts (a.0 == b.0) ((a.1 == b.1) && ((a.2 == b.2) && (a.3 == b.3))) e in
    let q = and_parts (a.1 == b.1) ((a.2 == b.2) && (a.3 == b.3)) p.1 in
    let r = and_parts (a.2 == b.2) (a.3 == b.3) q.1 in
    made a.0 a.1 a.2 a.3 b.0 b.1 b.2 b.3 (eqb-true a.0 b.0 p.0) (eqb-true a.1 b.1 q.0) (eqb-true a.2 b.2 r.0) (eqb-true a.3 b.3 r.1) where
      made : (k l m n w x y z : ℕ) → k ≡ w → l ≡ x → m ≡ y → n ≡ z → ◌≡◌ {A = EventKey} (k, l, m, n) (w, x, y, z)
      made k l m n w x y z e f g h = rw (e, f, g, h) refl

-- A map with another number for a key

module _ (old new : BTreeMap EventKey ℕ) (k : EventKey) (n : ℕ)
    (set : (q : EventKey) → tree.get key_cmp new q ≡ cond (is_at (key_cmp k) q) (Some n) (tree.get key_cmp old q)) where
  set_at : (q : EventKey) → owed_at new q ≡ (if same_key k q then n else owed_at old q)
  set_at q =
      ap (λ o. option_map_or (λ x. x) o 0) (set q ∙ ap (λ b. cond b (Some n) (tree.get key_cmp old q)) (same_event_keys k q))
      ∙ picked (same_key k q) where
        picked : (b : Bool) → option_map_or (λ x. x) (cond b (Some n) (tree.get key_cmp old q)) 0 ≡ (if b then n else owed_at old q)
        picked true = refl
        picked false = refl

  pub one-more : n ≡ owed_at old k + 1 → (q : EventKey) → owed_at new q ≡ owed_at old q + is_owed (Some k) q
  one-more e q = set_at q ∙ by_key (same_key k q) refl where
    by_key : (b : Bool) → same_key k q ≡ b → (if b then n else owed_at old q) ≡ owed_at old q + one_if b
    by_key true f = e ∙ ap (λ x. owed_at old x + 1) (key_same k q f)
    by_key false f = omega arith

  pub one-less : n ≡ owed_at old k - 1 → (q : EventKey) → owed_at new q ≡ owed_at old q - one_if (same_key k q)
  one-less e q = set_at q ∙ by_key (same_key k q) refl where
    by_key : (b : Bool) → same_key k q ≡ b → (if b then n else owed_at old q) ≡ owed_at old q - one_if b
    by_key true f = e ∙ ap (λ x. owed_at old x - 1) (key_same k q f)
    by_key false f = omega arith

-- Lines, one more

owed_bit : (o : Option EventKey) (key : EventKey) → is_owed o key ≡ cond (nat_lt 0 (is_owed o key)) 1 0
owed_bit None key = refl
owed_bit (Some k) key = bit_of (same_key k key) where
  bit_of : (b : Bool) → one_if b ≡ cond (nat_lt 0 (one_if b)) 1 0
  bit_of true = refl
  bit_of false = refl

pub owed-push : (owners : List Owner) (lines : List LatchFields) (l : LatchFields) (old new : BTreeMap EventKey ℕ)
    → AreOwed owners lines old
    → ((key : EventKey) → owed_at new key ≡ owed_at old key + is_owed (owed_by owners l) key) → AreOwed owners (lines ++ l ∷ []) new
owed-push owners lines l old new are more key =
    more key
    ∙ (ap (λ n. n + is_owed (owed_by owners l) key) (are key)
    ∙ (ap (λ n. count_by (λ x. nat_lt 0 (is_owed (owed_by owners x) key)) lines + n) (owed_bit (owed_by owners l) key)
    ∙ sym (sum_by_push (λ x. cond (nat_lt 0 (is_owed (owed_by owners x) key)) 1 0) lines l)))

-- The commit of a line

abbrev IsCommitOf : Topology → Commit → Option Commit → Type 0
IsCommitOf t x None = x ≡ no_commit t
IsCommitOf t x (Some c) = x ≡ c

get_front : {A : Type 0} (xs ys : List A) (k : ℕ) → k < length xs → slice_get (xs ++ ys) k ≡ slice_get xs k
get_front [] ys k l = absurd (omega arith)
get_front (x ∷ xs) ys zero l = refl
get_front (x ∷ xs) ys (suc k) l = get_front xs ys k (omega arith)

get_end : {A : Type 0} (xs : List A) (x : A) → slice_get (xs ++ x ∷ []) (length xs) ≡ Some x
get_end [] x = refl
get_end (y ∷ ys) x = get_end ys x

commit_more : (t : Topology) (c : Commit) (cs : List Commit) (k : ℕ) → IsCommitOf t (commit_at t cs k) (slice_get (reverse cs) k)
    → IsCommitOf t (if length cs == k then c else commit_at t cs k) (slice_get (reverse cs ++ c ∷ []) k)
commit_more t c cs k is =
    let now = if length cs == k then c else commit_at t cs k in
    elim (cases_order k (length cs)) [
      | inl here ↦ (
          let place : k ≡ length (reverse cs) = omega (arith, here, length-reverse cs) in
          subst (IsCommitOf t now) (sym (ap (slice_get (reverse cs ++ c ∷ [])) place ∙ get_end (reverse cs) c))
          (cond-true (length cs == k) c (commit_at t cs k) (eq-eqb (length cs) k (omega arith))))
      | inr other ↦ (
          let before : now ≡ commit_at t cs k = cond-false (length cs == k) c (commit_at t cs k)
          (ne_eqb (length cs) k (λ e. apart_of k (length cs) other (sym e))) in
          elim other [
            | inl below ↦
                subst (IsCommitOf t now) (sym (get_front (reverse cs) (c ∷ []) k (omega (arith, below, length-reverse cs))))
                (subst (λ x. IsCommitOf t x (slice_get (reverse cs) k)) (sym before) is)
            | inr above ↦ (
                let none : slice_get (reverse cs) k ≡ None = slice_get_past (reverse cs) k (omega (arith, above, length-reverse cs)) in
                let none_now : slice_get (reverse cs ++ c ∷ []) k ≡ None =
                slice_get_past (reverse cs ++ c ∷ []) k (omega (arith, above, length-reverse cs, length-append (reverse cs) (c ∷ []))) in
                subst (IsCommitOf t now) (sym none_now) (before ∙ subst (IsCommitOf t (commit_at t cs k)) none is))
          ])
    ] where
      apart_of : (m n : ℕ) → ((m < n) ⊎ (n < m)) → m ≡ n → ⊥
      apart_of m n (inl l) e = omega arith
      apart_of m n (inr l) e = omega arith

commit_of : (t : Topology) (cs : List Commit) (k : ℕ) → IsCommitOf t (commit_at t cs k) (slice_get (reverse cs) k)
unfolding commit_at
commit_of t [] k = refl
commit_of t (c ∷ cs) k =
    subst (λ xs. IsCommitOf t (if length cs == k then c else commit_at t cs k) (slice_get xs k)) (sym (reverse-append (c ∷ []) cs))
    (commit_more t c cs k (commit_of t cs k))

-- An L line fits an event

fits_by : (e : EventFields) (asks : Bool) (client user count crtc : ℕ)
    → option_map_or (same_event e.1)
    (if asks && (client == e.0) then Some (record { user_data = user; sequence = count % 2 ^ 32; crtc = object_id Crtc crtc }) else None)
    false
    ≡ nat_lt 0 (is_owed (if asks then Some (client, user, count % 2 ^ 32, object_id Crtc crtc) else None) (key_of e))
fits_by e false client user count crtc = refl
fits_by e true client user count crtc = by_client (client == e.0) refl where
  bit_of : (b : Bool) → nat_lt 0 (one_if b) ≡ b
  bit_of true = refl
  bit_of false = refl

  by_client : (b : Bool) → (client == e.0) ≡ b
      → option_map_or (same_event e.1)
      (if client == e.0 then Some (record { user_data = user; sequence = count % 2 ^ 32; crtc = object_id Crtc crtc }) else None) false
      ≡ nat_lt 0 (one_if (same_key (client, user, count % 2 ^ 32, object_id Crtc crtc) (key_of e)))
  by_client b f =
      ap (λ c. option_map_or (same_event e.1)
      (if c then Some (record { user_data = user; sequence = count % 2 ^ 32; crtc = object_id Crtc crtc }) else None) false) f
      ∙ (by_bit b
      ∙ sym (bit_of (same_key (client, user, count % 2 ^ 32, object_id Crtc crtc) (key_of e))
      ∙ ap (λ c. c && ((user == e.1.user_data) && ((count % 2 ^ 32 == e.1.sequence) && (object_id Crtc crtc == e.1.crtc)))) f)) where
        by_bit : (c : Bool) → option_map_or (same_event e.1)
            (if c then Some (record { user_data = user; sequence = count % 2 ^ 32; crtc = object_id Crtc crtc }) else None) false
            ≡ (c && ((user == e.1.user_data) && ((count % 2 ^ 32 == e.1.sequence) && (object_id Crtc crtc == e.1.crtc))))
        by_bit false = refl
        by_bit true =
            ap (λ x. x && ((e.1.sequence == count % 2 ^ 32) && (e.1.crtc == object_id Crtc crtc))) (swapped e.1.user_data user)
            ∙ (ap (λ x. (user == e.1.user_data) && (x && (e.1.crtc == object_id Crtc crtc))) (swapped e.1.sequence (count % 2 ^ 32))
            ∙ ap (λ x. (user == e.1.user_data) && ((count % 2 ^ 32 == e.1.sequence) && x)) (swapped e.1.crtc (object_id Crtc crtc)))

-- the event of a commit's latch is that of its owner
fits_owner : (t : Topology) (cs : List Commit) (e : EventFields) (l : LatchFields) (o : Option Commit) → slice_get (reverse cs) l.1 ≡ o
    → option_map_or (same_event e.1) (event_of_latch t cs e.0 (latch_in (latch_from l))) false
    ≡ nat_lt 0 (is_owed (owed_from (option_map owner_of o) l) (key_of e))
fits_owner t cs e l (Some c) is =
    let same = subst (IsCommitOf t (commit_at t cs l.1)) is (commit_of t cs l.1) in
    ap (λ (x : Commit). option_map_or (same_event e.1)
    (if wants_event x.request.flags && (x.client == e.0)
    then Some (record { user_data = x.request.user_data; sequence = l.2 % 2 ^ 32; crtc = object_id Crtc l.0 }) else None) false) same
    ∙ fits_by e (wants_event c.request.flags) c.client c.request.user_data l.2 l.0
fits_owner t cs e l None is =
    let same = subst (IsCommitOf t (commit_at t cs l.1)) is (commit_of t cs l.1) in
    ap (λ (x : Commit). option_map_or (same_event e.1)
    (if wants_event x.request.flags && (x.client == e.0)
    then Some (record { user_data = x.request.user_data; sequence = l.2 % 2 ^ 32; crtc = object_id Crtc l.0 }) else None) false) same

module _ (s : Script) (r : Report) (owners : List Owner) (are : AreOwners s (entries_in r) owners) where
  pub owed-fits : (e : EventFields) (l : LatchFields) → fits_line s r e (latch_from l) ≡ nat_lt 0 (is_owed (owed_by owners l) (key_of e))
  owed-fits e l =
      fits_owner s.topology (commits_of s (entries_in r)) e l (slice_get (reverse (commits_of s (entries_in r))) l.1) refl
      ∙ ap (λ o. nat_lt 0 (is_owed (owed_from o l) (key_of e)))
      (sym (slice_get-map owner_of (reverse (commits_of s (entries_in r))) l.1) ∙ ap (λ xs. slice_get xs l.1) (sym are))

  -- how many lines fit
  fit_count : (e : EventFields) (lines : List LatchFields)
      → length (filter (fits_line s r e) (map latch_from lines)) ≡ count_by (λ l. nat_lt 0 (is_owed (owed_by owners l) (key_of e))) lines
  fit_count e lines = length-filter (fits_line s r e) (map latch_from lines) ∙ counted lines where
    counted : (ls : List LatchFields) → count_by (fits_line s r e) (map latch_from ls) ≡ count_by
        (λ l. nat_lt 0 (is_owed (owed_by owners l) (key_of e))) ls
    counted [] = refl
    counted (l ∷ ls) =
        sum_by-cons (λ x. cond (fits_line s r e x) 1 0) (latch_from l) (map latch_from ls)
        ∙ (ap (λ b. cond b 1 0 + count_by (fits_line s r e) (map latch_from ls)) (owed-fits e l)
        ∙ (ap (λ n. cond (nat_lt 0 (is_owed (owed_by owners l) (key_of e))) 1 0 + n) (counted ls)
        ∙ sym (sum_by-cons (λ x. cond (nat_lt 0 (is_owed (owed_by owners x) (key_of e))) 1 0) l ls)))

  -- a line is left exactly where the map has one
  pub left-line : (before : List EventFields) (e : EventFields) (owed : BTreeMap EventKey ℕ) → AreLeft owners r.latches before owed
      → has_a_line s r before e ≡ nat_lt 0 (owed_at owed (key_of e))
  unfolding has_a_line
  left-line before e owed are_left =
      ap (λ n. nat_lt n (length (filter (fits_line s r e) (latches_in r)))) (length-filter (same_line e) before ∙ same_counts before)
      ∙ (ap (nat_lt (count_by (λ x. same_key (key_of x) (key_of e)) before)) (fit_count e r.latches ∙ sym (are_left (key_of e)))
      ∙ left_of (owed_at owed (key_of e)) (count_by (λ x. same_key (key_of x) (key_of e)) before)) where
        left_of : (m n : ℕ) → nat_lt n (m + n) ≡ nat_lt 0 m
        left_of m n = grind (arith, nat_tests)

        same_keys_of : (x : EventFields) → same_line e x ≡ same_key (key_of x) (key_of e)
        same_keys_of x =
            ap (λ b. b && same_event e.1 x.1) (swapped e.0 x.0)
            ∙ (ap (λ b. (x.0 == e.0) && (b && ((e.1.sequence == x.1.sequence) && (e.1.crtc == x.1.crtc))))
            (swapped e.1.user_data x.1.user_data)
            ∙ (ap (λ b. (x.0 == e.0) && ((x.1.user_data == e.1.user_data) && (b && (e.1.crtc == x.1.crtc))))
            (swapped e.1.sequence x.1.sequence)
            ∙ ap (λ b. (x.0 == e.0) && ((x.1.user_data == e.1.user_data) && ((x.1.sequence == e.1.sequence) && b)))
            (swapped e.1.crtc x.1.crtc)))

        same_counts : (xs : List EventFields) → count_by (same_line e) xs ≡ count_by (λ x. same_key (key_of x) (key_of e)) xs
        same_counts [] = refl
        same_counts (x ∷ xs) =
            sum_by-cons (λ y. cond (same_line e y) 1 0) x xs
            ∙ (ap (λ b. cond b 1 0 + count_by (same_line e) xs) (same_keys_of x)
            ∙ (ap (λ n. cond (same_key (key_of x) (key_of e)) 1 0 + n) (same_counts xs)
            ∙ sym (sum_by-cons (λ y. cond (same_key (key_of y) (key_of e)) 1 0) x xs)))

-- one line more is told, where one was left
pub left-less : (owners : List Owner) (lines : List LatchFields) (before : List EventFields) (e : EventFields)
    (old new : BTreeMap EventKey ℕ)
    → AreLeft owners lines before old → IsTaken e old new true → AreLeft owners lines (before ++ e ∷ []) new
left-less owners lines before e old new left taken key =
    ap (λ n. owed_at new key + n) (sum_by_push (λ x. cond (same_key (key_of x) key) 1 0) before e)
    ∙ (by_key (same_key (key_of e) key) refl ∙ left key) where
      some_left : 0 < owed_at old (key_of e)
      some_left = ltb-true 0 (owed_at old (key_of e)) (sym taken.taken_where)

      by_key : (b : Bool) → same_key (key_of e) key ≡ b
          → owed_at new key + (count_by (λ x. same_key (key_of x) key) before + cond (same_key (key_of e) key) 1 0) ≡ owed_at old key +
          count_by (λ x. same_key (key_of x) key) before
      by_key true f =
          let at : owed_at new key ≡ owed_at old key - 1 = taken.others key ∙ ap (λ c. owed_at old key - one_if c) f in
          let some : 0 < owed_at old key = subst (λ x. 0 < owed_at old x) (key_same (key_of e) key f) some_left in
          let one : cond {A = ℕ} (same_key (key_of e) key) 1 0 ≡ 1 = ap (λ c. cond c 1 0) f in
          omega (arith, at, some, one)
      by_key false f =
          let at : owed_at new key ≡ owed_at old key - 0 = taken.others key ∙ ap (λ c. owed_at old key - one_if c) f in
          let one : cond {A = ℕ} (same_key (key_of e) key) 1 0 ≡ 0 = ap (λ c. cond c 1 0) f in
          omega (arith, at, one)
