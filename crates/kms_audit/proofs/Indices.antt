-- Places among items, and what the maps of J and R lines tell of a report.
use Rattle.std.proofs.Common.{◌≡◌, ℕ, ◌+◌, Bool, true, false, List, [], ◌∷◌, ◌++◌, length, Option, Some, None, refl, sym, ap, ◌∙◌, arith}
use Rattle.std.proofs.Common.{inl, inr, Ordering, Less, Equal, Greater}
use Rattle.std.proofs.lemmas.Bool.{and_from, and_left, and_parts, and_right, eq-eqb, eqb-true, ne_eqb, not-true, or_cases, or_left}
use Rattle.std.proofs.lemmas.Bool.{or_parts}
use Rattle.std.proofs.lemmas.Bool.Decides.{nat_tests}
use Rattle.std.proofs.lemmas.List.Folds.{list_any-append}
use Rattle.std.specs.BTreeMap as tree
use Rattle.std.specs.BTreeMap.{BTreeMap, is_at}
use Rattle.std.specs.BTreeSet as sorted
use Rattle.std.specs.BTreeSet.{BTreeSet}
use Rattle.std.specs.List.{list_all, list_any, position}
use Rattle.std.specs.Ordering.{is_eq, nat_cmp, ordering_then}
use Rattle.std.specs.Prelude.{◌&&◌, ◌||◌, ◌==◌, cond, map, not, option_map}
use Rattle.kms_told.proofs.Items.{or_place, place_if, position-cons, position-push}
use Rattle.kms_audit.specs.declared.index.Index.{Index}
use Rattle.kms_audit.specs.declared.index.Lacking.{Lacking}
use Rattle.kms_audit.specs.Indexed.{AreAnswered, AreEntries, AreLacking, AreSpeaking, IsIndexOf, pair_cmp, same_pair, speaks}
use Rattle.kms_model.specs.declared.replies.Answered.{Answered}
use Rattle.kms_model.specs.declared.replies.Reply.{Reply}
use Rattle.kms_model.specs.declared.reports.Report.{Report}
use Rattle.kms_model.specs.Device.Serial.{Entry}
use Rattle.kms_model.specs.Report.RightAnswers.{answer_from, answers_are_whole, client_is_whole, entries_in, entry_from, entry_place}
use Rattle.kms_model.specs.Report.RightAnswers.{has_answer, is_answer_to, no_client_is_silent}

-- The place of the first item that passes

pub position-map : {A B : Type 0} (p : B → Bool) (f : A → B) (xs : List A) → position p (map f xs) ≡ position (λ x. p (f x)) xs
position-map p f [] = refl
position-map p f (x ∷ xs) =
    position-cons p (f x) (map f xs)
    ∙ (ap (λ o. cond (p (f x)) (Some 0) (option_map (λ place. place + 1) o)) (position-map p f xs)
    ∙ sym (position-cons (λ y. p (f y)) x xs))

-- Keys

pub same_number : (a b : ℕ) → is_eq (nat_cmp a b) ≡ (a == b)
same_number a b = grind (arith, nat_tests)

both_equal : (o p : Ordering) → is_eq (ordering_then o p) ≡ (is_eq o && is_eq p)
both_equal Less p = refl
both_equal Equal p = refl
both_equal Greater p = refl

pub same_keys : (k q : ℕ × ℕ) → is_at (pair_cmp k) q ≡ same_pair k q
same_keys k q =
    both_equal (nat_cmp k.0 q.0) (nat_cmp k.1 q.1)
    ∙ (ap (λ b. b && is_eq (nat_cmp k.1 q.1)) (same_number k.0 q.0) ∙ ap (λ b. (k.0 == q.0) && b) (same_number k.1 q.1))

pub swapped : (a b : ℕ) → (a == b) ≡ (b == a)
swapped a b = grind (arith, nat_tests)

pub swapped_pair : (x y : ℕ × ℕ) → same_pair x y ≡ same_pair y x
swapped_pair x y = ap (λ b. b && (x.1 == y.1)) (swapped x.0 y.0) ∙ ap (λ b. (y.0 == x.0) && b) (swapped x.1 y.1)

-- one more key of a set
pub or_added : (here old : Bool) → cond here true old ≡ (old || here)
or_added true true = refl
or_added true false = refl
or_added false true = refl
or_added false false = refl

-- Lists, one item longer

pub any-push : {A : Type 0} (p : A → Bool) (xs : List A) (y : A) → list_any p (xs ++ y ∷ []) ≡ (list_any p xs || p y)
any-push p xs y = list_any-append p xs (y ∷ []) ∙ ap (λ b. list_any p xs || b) (or_false (p y)) where
  or_false : (b : Bool) → (b || false) ≡ b
  or_false true = refl
  or_false false = refl

pub any-map : {A B : Type 0} (p : B → Bool) (f : A → B) (xs : List A) → list_any p (map f xs) ≡ list_any (λ x. p (f x)) xs
any-map p f [] = refl
any-map p f (x ∷ xs) = ap (λ b. p (f x) || b) (any-map p f xs)

pub any-not-all : {A : Type 0} (p : A → Bool) (xs : List A) → not (list_any (λ x. not (p x)) xs) ≡ list_all p xs
any-not-all p [] = refl
any-not-all p (x ∷ xs) = dual (p x) (list_any (λ y. not (p y)) xs) ∙ ap (λ b. p x && b) (any-not-all p xs) where
  dual : (b rest : Bool) → not (not b || rest) ≡ (b && not rest)
  dual true rest = refl
  dual false rest = refl

pub any-same : {A : Type 0} (p q : A → Bool) (xs : List A) → ((x : A) → p x ≡ q x) → list_any p xs ≡ list_any q xs
any-same p q [] e = refl
any-same p q (x ∷ xs) e = ap (λ b. b || list_any p xs) (e x) ∙ ap (λ b. q x || b) (any-same p q xs e)

-- What an index tells

module _ (r : Report) (i : Index) (is : IsIndexOf r i) where
  pub indexed_place : (a : Answered) → tree.get pair_cmp i.entries (a.client, a.command) ≡ entry_place r a
  indexed_place a = is.entries (a.client, a.command) ∙ sym (position-map (λ e. is_answer_to e a) entry_from r.journal)

  pub indexed_answer : (entry : ℕ × ℕ) → sorted.contains pair_cmp i.answered entry ≡ has_answer r (entry_from entry)
  indexed_answer entry = is.answered entry ∙ sym (any-map (is_answer_to (entry_from entry)) answer_from r.replies)

  pub indexed_speaker : (client : ℕ) → sorted.contains nat_cmp i.speaking client ≡ speaks r client
  indexed_speaker client = is.speaking client ∙ sym (any-map (λ a. a.client == client) answer_from r.replies)

-- Entries, one more

or_none : (o : Option ℕ) → or_place o None ≡ o
or_none None = refl
or_none (Some n) = refl

pair_same : (x y : ℕ × ℕ) → same_pair x y ≡ true → x ≡ y
pair_same x y e =
    let p = and_parts (x.0 == y.0) (x.1 == y.1) e in
    made x.0 x.1 y.0 y.1 (eqb-true x.0 y.0 p.0) (eqb-true x.1 y.1 p.1) where
      made : (a b c d : ℕ) → a ≡ c → b ≡ d → ◌≡◌ {A = ℕ × ℕ} (a, b) (c, d)
      made a b c d e f = rw (e, f) refl

-- the place of a command with one more entry, where that command was none before
new_place : (journal : List (ℕ × ℕ)) (old : Option ℕ) (q entry : ℕ × ℕ) (b : Bool) → same_pair q entry ≡ b
    → old ≡ position (same_pair q) journal → position (same_pair entry) journal ≡ None
    → cond b (Some (length journal)) old ≡ or_place (position (same_pair q) journal) (place_if b (length journal))
new_place journal old q entry false e is none = is ∙ sym (or_none (position (same_pair q) journal))
new_place journal old q entry true e is none =
    let same = pair_same q entry e in
    sym (ap (λ k. or_place (position (same_pair k) journal) (Some (length journal))) same
    ∙ ap (λ o. or_place o (Some (length journal))) none)

pub entries-more : (journal : List (ℕ × ℕ)) (old new : BTreeMap (ℕ × ℕ) ℕ) (entry : ℕ × ℕ) → AreEntries journal old
    → ((q : ℕ × ℕ) → tree.get pair_cmp new q ≡ cond (is_at (pair_cmp entry) q) (Some (length journal)) (tree.get pair_cmp old q))
    → tree.get pair_cmp old entry ≡ None → AreEntries (journal ++ entry ∷ []) new
entries-more journal old new entry are set none q =
    set q
    ∙ (ap (λ b. cond b (Some (length journal)) (tree.get pair_cmp old q)) (same_keys entry q ∙ swapped_pair entry q)
    ∙ (new_place journal (tree.get pair_cmp old q) q entry (same_pair q entry) refl (are q) (sym (are entry) ∙ none)
    ∙ sym (position-push (same_pair q) journal entry)))

-- R lines, one more

-- the keys of some items are in a set; one item more
pub keys-more : {A K : Type 0} (cmp : K → K → Ordering) (same : K → K → Bool) → ((k q : K) → is_at (cmp k) q ≡ same k q) → (key : A → K)
    → (xs : List A) (x : A) (old new : K → Bool) → ((q : K) → old q ≡ list_any (λ y. same (key y) q) xs)
    → ((q : K) → new q ≡ cond (is_at (cmp (key x)) q) true (old q)) → (q : K) → new q ≡ list_any (λ y. same (key y) q) (xs ++ x ∷ [])
keys-more cmp same agree key xs x old new are set q =
    set q
    ∙ (ap (λ b. cond b true (old q)) (agree (key x) q)
    ∙ (ap (cond (same (key x) q) true) (are q)
    ∙ (or_added (same (key x) q) (list_any (λ y. same (key y) q) xs) ∙ sym (any-push (λ y. same (key y) q) xs x))))

pub answered-more : (replies : List (ℕ × ℕ × ℕ × Reply)) (old new : BTreeSet (ℕ × ℕ)) (a : ℕ × ℕ × ℕ × Reply) → AreAnswered replies old
    → ((q : ℕ × ℕ) → sorted.contains pair_cmp new q ≡ cond (is_at (pair_cmp (a.0, a.1)) q) true (sorted.contains pair_cmp old q))
    → AreAnswered (replies ++ a ∷ []) new
answered-more replies old new a =
    keys-more pair_cmp same_pair same_keys (λ x. (x.0, x.1)) replies a (sorted.contains pair_cmp old) (sorted.contains pair_cmp new)

pub speaking-more : (replies : List (ℕ × ℕ × ℕ × Reply)) (old new : BTreeSet ℕ) (a : ℕ × ℕ × ℕ × Reply) → AreSpeaking replies old
    → ((q : ℕ) → sorted.contains nat_cmp new q ≡ cond (is_at (nat_cmp a.0) q) true (sorted.contains nat_cmp old q))
    → AreSpeaking (replies ++ a ∷ []) new
speaking-more replies old new a =
    keys-more nat_cmp (λ k q. k == q) same_number (λ x. x.0) replies a (sorted.contains nat_cmp old) (sorted.contains nat_cmp new)

-- What entries lack

abbrev lacks_it : Report → ℕ → Entry → Bool
lacks_it r client e = (e.client == client) && not (has_answer r e)

-- what all of them lack

dual : (here answered : Bool) → (here && not answered) ≡ not (not here || answered)
dual true true = refl
dual true false = refl
dual false answered = refl

module _ (r : Report) (l : Lacking) (are : AreLacking r l) where
  pub whole_client : (client : ℕ) → not (sorted.contains nat_cmp l.clients client) ≡ client_is_whole r client
  whole_client client =
      ap not (are.clients client ∙ any-same (lacks_it r client) (λ e. not (not (e.client == client) || has_answer r e)) (entries_in r)
      (λ e. dual (e.client == client) (has_answer r e)))
      ∙ any-not-all (λ e. not (e.client == client) || has_answer r e) (entries_in r)

  pub none_silent : not l.has_silent ≡ no_client_is_silent r
  none_silent = ap not are.silent ∙ any-not-all (λ e. speaks r e.client) (entries_in r)

all_answered : (h : Entry → Bool) (es : List Entry) → ((client : ℕ) → list_any (λ e. (e.client == client) && not (h e)) es ≡ false)
    → list_all h es ≡ true
all_answered h [] none = refl
all_answered h (e ∷ es) none =
    let first = or_parts ((e.client == e.client) && not (h e)) (list_any (λ f. (f.client == e.client) && not (h f)) es) (none e.client) in
    and_from (h e) (list_all h es) (answered (e.client == e.client) (h e) (eq-eqb e.client e.client refl) first.0)
    (all_answered h es (λ client. (or_parts ((e.client == client) && not (h e))
    (list_any (λ f. (f.client == client) && not (h f)) es) (none client)).1))
  where
    answered : (own has : Bool) → own ≡ true → (own && not has) ≡ false → has ≡ true
    answered true true e f = refl
    answered true false e f = absurd cc
    answered false has e f = absurd cc

some_unanswered : (b h : Entry → Bool) (es : List Entry) → list_any (λ e. b e && not (h e)) es ≡ true → list_all h es ≡ false
some_unanswered b h [] some = absurd cc
some_unanswered b h (e ∷ es) some =
    elim (or_cases (b e && not (h e)) (list_any (λ f. b f && not (h f)) es) some) [
      | inl here ↦ and_left (h e) (list_all h es) (not-true (h e) (and_parts (b e) (not (h e)) here).1)
      | inr later ↦ and_right (h e) (list_all h es) (some_unanswered b h es later)
    ]

nothing_lacks : (h : Entry → Bool) (es : List Entry) (keys : List ℕ)
    → ((client : ℕ) → list_any (is_at (nat_cmp client)) keys ≡ list_any (λ e. (e.client == client) && not (h e)) es)
    → (length keys == 0) ≡ list_all h es
nothing_lacks h es [] are = sym (all_answered h es (λ client. sym (are client)))
nothing_lacks h es (k ∷ ks) are =
    let own : list_any (is_at (nat_cmp k)) (k ∷ ks) ≡ true = or_left (is_eq (nat_cmp k k)) (list_any (is_at (nat_cmp k)) ks)
    (same_number k k ∙ eq-eqb k k refl) in
    ne_eqb (length (k ∷ ks)) 0 (λ e. omega arith) ∙ sym (some_unanswered (λ e. e.client == k) h es (sym (are k) ∙ own))

pub nothing-lacks : (r : Report) (l : Lacking) → AreLacking r l → (length l.clients.keys == 0) ≡ answers_are_whole r
unfolding answers_are_whole
nothing-lacks r l are = nothing_lacks (has_answer r) (entries_in r) l.clients.keys are.clients

-- A test that there is nothing

pub nothing_there : (b : Bool) (n : ℕ) → (b ≡ true → n ≡ 0) → (n ≡ 0 → b ≡ true) → b ≡ (n == 0)
nothing_there true n f g = sym (eq-eqb n 0 (f refl))
nothing_there false n f g = sym (ne_eqb n 0 (λ e. let no = g e in absurd cc))
