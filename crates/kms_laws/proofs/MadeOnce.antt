-- The commands of a script make each label once.
use Rattle.std.proofs.Common.{◌≡◌, ◌≤◌, ℕ, zero, suc, ◌+◌, Bool, true, false, not, cond, List, [], ◌∷◌, ◌++◌, Option, Some, None, inl, inr}
use Rattle.std.proofs.Common.{◌⊎◌, refl, sym, ap, ◌∙◌, subst, arith}
use Rattle.std.specs.Prelude.{◌==◌, ◌||◌, ◌&&◌, ⊤, codes, length, nat_le, nat_lt, option_map, Ok, Err}
use Rattle.std.specs.List.{list_all, slice_get}
use Rattle.std.specs.Str.{bytes_eq}
use Rattle.std.proofs.lemmas.Bool.{cases_eq, false≢true}
use Rattle.kms_model.specs.declared.scripts.Command.{Command}
use Rattle.kms_model.specs.declared.scripts.Script.{Script}
use Rattle.kms_model.specs.declared.scripts.Why.{Why}
use Rattle.kms_model.specs.Device.Serial.{Entry, command_of, from_one}
use Rattle.kms_model.specs.Script.CommandLines.{Names, command_read, is_over, or_form, unless}
use Rattle.kms_model.specs.Script.Grammar.{is_printable}
use Rattle.kms_model.specs.Script.InputLines.{Row, rows_of}
use Rattle.kms_model.specs.Script.Spelling.{lined, spelt_line, spelt_lines}
use Rattle.kms_model.specs.Script.WellFormed.{IsWellFormed}
use Rattle.kms_model.specs.Script.WholeInput.{Draft, Lined, blank_draft, client_line, clients_in, clients_of, command_line, conn_at}
use Rattle.kms_model.specs.Script.WholeInput.{conn_line, crtcs_at, crtcs_line, first_line, is_nil, later_line, plane_fields, plane_line}
use Rattle.kms_model.specs.Script.WholeInput.{script_in, script_line, version_read}
use Rattle.kms_model.specs.Script.Words.{◌>>=◌, end_at, from, until}
use Rattle.kms_model.proofs.Items.{IsIn}
use Rattle.kms_laws.specs.Once.{makes}
use Rattle.kms_laws.proofs.Basics.{in_either, in_left, in_right}
use Rattle.kms_laws.proofs.MadeApart.{Apart, MakesApart, both_if, command_apart}
use Rattle.kms_laws.proofs.MadeCommands.{IfRead, Makes, command_makes, cond_if, then_if}
use Rattle.kms_laws.proofs.MadeNames.{is_made_at}

-- Sums over lists

abbrev pub one_if : Bool → ℕ
one_if true = 1
one_if false = 0

abbrev pub sum_by : {A : Type 0} → (A → ℕ) → List A → ℕ
sum_by w [] = 0
sum_by w (x ∷ xs) = w x + sum_by w xs

-- an item is a part of the sum
part_of : {A : Type 0} (w : A → ℕ) (xs : List A) (i : ℕ) (x : A) → slice_get xs i ≡ Some x → w x ≤ sum_by w xs
part_of w [] i x e = absurd cc
part_of w (y ∷ xs) zero x e = (let same : y ≡ x = cc in rw same (omega arith))
part_of w (y ∷ xs) (suc i) x e = (let h = part_of w xs i x e in omega (arith, h))

-- two items at two places are
parts_of : {A : Type 0} (w : A → ℕ) (xs : List A) (i j : ℕ) (x y : A) → slice_get xs i ≡ Some x → slice_get xs j ≡ Some y → (i ≡ j → ⊥)
    → w x + w y ≤ sum_by w xs
parts_of w [] i j x y e f apart = absurd cc
parts_of w (z ∷ xs) zero zero x y e f apart = absurd (apart refl)
parts_of w (z ∷ xs) zero (suc j) x y e f apart = (let same : z ≡ x = cc in let h = part_of w xs j y f in rw same (omega (arith, h)))
parts_of w (z ∷ xs) (suc i) zero x y e f apart = (let same : z ≡ y = cc in let h = part_of w xs i x e in rw same (omega (arith, h)))
parts_of w (z ∷ xs) (suc i) (suc j) x y e f apart =
    (let h = parts_of w xs i j x y e f (λ is. apart (ap (λ n. suc n) is)) in omega (arith, h))

-- where a sum is at most 1, it has one place with a part
one_place : {A : Type 0} (w : A → ℕ) (xs : List A) (i j : ℕ) (x y : A) → sum_by w xs ≤ 1 → slice_get xs i ≡ Some x → slice_get xs j ≡ Some y
    → 1 ≤ w x → 1 ≤ w y → i ≡ j
one_place w xs i j x y most e f some other =
    elim (cases_eq i j) [
      | inl same ↦ same
      | inr apart ↦ (let h = parts_of w xs i j x y e f apart in absurd (omega (arith, h, most, some, other)))
    ]

sum_last : {A : Type 0} (w : A → ℕ) (xs : List A) (x : A) → sum_by w (xs ++ x ∷ []) ≡ sum_by w xs + w x
sum_last w [] x = omega arith
sum_last w (y ∷ xs) x = (let h = sum_last w xs x in omega (arith, h))

-- Commands

-- how many commands make a label
abbrev pub times : ℕ → List Command → ℕ
times label commands = sum_by (λ c. one_if (makes c label)) commands

abbrev pub times_in : ℕ → List (List Command) → ℕ
times_in label clients = sum_by (times label) clients

-- each command of each client makes a label by one assignment at most
abbrev AllApart : List (List Command) → Type 0
AllApart clients = (commands : List Command) (c : Command) → IsIn commands clients → IsIn c commands → MakesApart c

-- the commands so far make each label once, and those that the names say
record Once (d : Draft) : Type 0 where
  once : d.names.is_twice ≡ false
  counted : (k : ℕ) → times_in k (clients_in d) ≡ one_if (is_made_at d.names.all k)
  -- and each command does so by itself
  apart : AllApart (clients_in d)

-- the same names and commands
keeps : (d e : Draft) → e.names ≡ d.names → clients_in e ≡ clients_in d → Once d → Once e
keeps d e names clients is = record
    { once = rw names is.once; counted = λ k. rw (clients, names) (is.counted k); apart = subst AllApart (sym clients) is.apart }

-- Lines

abbrev IfLine : Lined → (Draft → Type 0) → Type 0
IfLine (Ok d) P = P d
IfLine (Err why) P = ⊤

form_if : {A : Type 0} (o : Option A) (f : A → Lined) (Q : A → Type 0) (P : Draft → Type 0) → IfRead o Q → ((x : A) → Q x → IfLine (f x) P)
    → IfLine (or_form o f) P
form_if None f Q P is each = tt
form_if (Some x) f Q P is each = each x is

any_read : {A : Type 0} (o : Option A) → IfRead o (λ x. ⊤)
any_read None = tt
any_read (Some x) = tt

unless_if : (t : Bool) (why : Why) (other : Lined) (P : Draft → Type 0) → (t ≡ false → IfLine other P) → IfLine (unless t why other) P
unless_if true why other P is = tt
unless_if false why other P is = is refl

choose_if : (t : Bool) (a b : Lined) (P : Draft → Type 0) → IfLine a P → IfLine b P → IfLine (cond t a b) P
choose_if true a b P one other = one
choose_if false a b P one other = other

not_false : (b : Bool) → not b ≡ false → b ≡ true
not_false true e = refl
not_false false e = absurd (false≢true (sym e))

first_once : (d : Draft) (text : List ℕ) → Once d → IfLine (first_line d text) Once
unfolding first_line
first_once d text is = form_if (version_read text) _ _ Once (any_read (version_read text))
    (λ version u. record { once = is.once; counted = is.counted; apart = is.apart })

crtcs_once : (d : Draft) (text : List ℕ) → Once d → IfLine (crtcs_line d text) Once
unfolding crtcs_line
crtcs_once d text is = choose_if (bytes_eq (until 32 text) (codes "crtcs")) _ _ Once
    (form_if (crtcs_at (from 32 text)) _ _ Once (any_read (crtcs_at (from 32 text))) (λ n u. keeps d _ refl refl is)) tt

plane_once : (d : Draft) (fields : List ℕ) → Once d → IfLine (plane_line d fields) Once
unfolding plane_line
plane_once d fields is =
    form_if (plane_fields d.crtcs fields) _ _ Once (any_read (plane_fields d.crtcs fields)) (λ p u.
    unless_if (not (is_nil d.conns)) _ _ Once (λ e.
    unless_if (nat_le 16 (length d.planes)) _ _ Once (λ f. keeps d _ refl refl is)))

conn_once : (d : Draft) (fields : List ℕ) → Once d → IfLine (conn_line d fields) Once
unfolding conn_line
conn_once d fields is =
    form_if (conn_at d.crtcs fields) _ _ Once (any_read (conn_at d.crtcs fields)) (λ mask u.
    unless_if (is_nil d.planes || d.has_client) _ _ Once (λ e.
    unless_if (nat_le 8 (length d.conns)) _ _ Once (λ f. keeps d _ refl refl is)))

client_once : (d : Draft) (fields : List ℕ) → Once d → IfLine (client_line d fields) Once
unfolding client_line
client_once d fields is =
    form_if (end_at fields) _ _ Once (any_read (end_at fields)) (λ end u.
    unless_if (is_nil d.conns) _ _ Once (λ e.
    unless_if (nat_le 16 (length (clients_in d))) _ _ Once (λ f. record {
      once = is.once;
      counted = λ k. sum_last (times k) (clients_in d) [] ∙ plus_none (times_in k (clients_in d)) ∙ is.counted k;
      apart = λ commands c member has. no_more commands c (in_either (clients_in d) ([] ∷ []) commands member) has
          (λ old. is.apart commands c old has);
    })))
  where
    no_more : (commands : List Command) (c : Command) {X : Type 0} → IsIn commands (clients_in d) ⊎ IsIn commands ([] ∷ [])
        → IsIn c commands → (IsIn commands (clients_in d) → X) → X
    no_more commands c (inl old) has more = more old
    no_more commands c (inr (inl same)) has more = absurd (subst (IsIn c) (sym same) has)
    no_more commands c (inr (inr never)) has more = absurd never

    plus_none : (n : ℕ) → n + 0 ≡ n
    plus_none n = omega arith

-- one more command of the present client
sum_grown : (k : ℕ) (clients : List (List Command)) (commands : List Command) (c : Command)
    → times_in k (clients ++ (commands ++ c ∷ []) ∷ []) ≡ times_in k (clients ++ commands ∷ []) + one_if (makes c k)
sum_grown k clients commands c =
    let grown = sum_last (times k) clients (commands ++ c ∷ []) in
    let was = sum_last (times k) clients commands in
    let more = sum_last (λ e. one_if (makes e k)) commands c in
    omega (arith, grown, was, more)

plus_made : (was makes_it : Bool) → (makes_it ≡ true → was ≡ false) → one_if was + one_if makes_it ≡ one_if (makes_it || was)
plus_made true true free = absurd (false≢true (sym (free refl)))
plus_made true false free = refl
plus_made false true free = refl
plus_made false false free = refl

-- who has one more command
apart_grown : (clients : List (List Command)) (commands : List Command) (c : Command) → AllApart (clients ++ commands ∷ []) → MakesApart c
    → AllApart (clients ++ (commands ++ c ∷ []) ∷ [])
apart_grown clients commands c all own other e member has = by (in_either clients ((commands ++ c ∷ []) ∷ []) other member)
  where
    at_end : IsIn e commands ⊎ IsIn e (c ∷ []) → MakesApart e
    at_end (inl old) = all commands e (in_right clients (commands ∷ []) commands (inl refl)) old
    at_end (inr (inl same)) = subst MakesApart same own
    at_end (inr (inr never)) = absurd never

    by : IsIn other clients ⊎ IsIn other ((commands ++ c ∷ []) ∷ []) → MakesApart e
    by (inl old) = all other e (in_left clients (commands ∷ []) other old) has
    by (inr (inl same)) = at_end (in_either commands (c ∷ []) e (subst (IsIn e) (sym same) has))
    by (inr (inr never)) = absurd never

grows : (d : Draft) (r : Command × Names) → Once d → d.has_client ≡ true → Makes d.names r → r.1.is_twice ≡ false → MakesApart r.0
    → Once (record d { names = r.1; commands = d.commands ++ r.0 ∷ [] })
grows d r is has marks once apart = record {
  once = once;
  apart =
      (let was : AllApart (d.clients ++ clients_of d.has_client d.commands) = is.apart in
      rw has (apart_grown d.clients d.commands r.0 (rw has at was) apart));
  counted = λ k.
      let counted : times_in k (d.clients ++ clients_of d.has_client d.commands) ≡ one_if (is_made_at d.names.all k) = is.counted k in
      rw (has, marks.was k) (sum_grown k d.clients d.commands r.0 ∙ ap (λ n. n + one_if (makes r.0 k)) (rw has at counted) ∙ plus_made
      (is_made_at d.names.all k) (makes r.0 k) (marks.free once k));
}

command_once : (d : Draft) (text : List ℕ) → Once d → IfLine (command_line d text) Once
unfolding command_line
command_once d text is =
    form_if (command_read d.names text) _ (λ r. Makes d.names r × Apart r) Once
    (both_if (command_read d.names text) (Makes d.names) Apart (command_makes d.names text) (command_apart d.names text)) (λ c made.
    unless_if (not d.has_client) _ _ Once (λ has.
    unless_if c.1.is_twice _ _ Once (λ once.
    unless_if (is_over c.0 || (nat_le 4096 (length d.commands) || nat_lt 4096 c.1.made)) _ _ Once (λ f.
    grows d c is (not_false d.has_client has) made.0 once (made.1 once)))))

later_once : (d : Draft) (text : List ℕ) → Once d → IfLine (later_line d text) Once
unfolding later_line
later_once d text is =
    choose_if (bytes_eq (until 32 text) (codes "plane")) _ _ Once (plane_once d (from 32 text) is)
    (choose_if (bytes_eq (until 32 text) (codes "conn")) _ _ Once (conn_once d (from 32 text) is)
    (choose_if (bytes_eq (until 32 text) (codes "client")) _ _ Once (client_once d (from 32 text) is) (command_once d text is)))

line_once : (d : Draft) (text : List ℕ) → Once d → IfLine (script_line d text) Once
unfolding script_line
line_once d text is = choose_if (d.head == 0) _ _ Once (first_once d text is)
    (choose_if (d.head == 1) _ _ Once (crtcs_once d text is) (later_once d text is))

lined_if : (l : Lined) → IfLine l Once → IfRead (lined l) Once
lined_if (Ok d) is = is
lined_if (Err why) is = tt

lines_once : (rows : List Row) (d : Draft) → Once d → IfRead (spelt_lines d rows) Once
lines_once [] d is = cond_if (is_nil d.conns) _ _ Once tt is
lines_once (row ∷ rows) d is =
    then_if (spelt_line d row) _ Once Once (cond_if (row.is_ended && list_all is_printable row.text) _ _ Once
    (lined_if (script_line d row.text) (line_once d row.text is)) tt) (λ next first. lines_once rows next first)

-- Scripts

at_most : (b : Bool) → one_if b ≤ 1
at_most true = omega arith
at_most false = omega arith

drafted : (o : Option Draft) (s : Script) → IfRead o Once → option_map script_in o ≡ Some s → (k : ℕ) → times_in k s.clients ≤ 1
drafted None s is e k = absurd cc
drafted (Some d) s is e k = (let same : script_in d ≡ s = cc in rw (← same, is.counted k) (at_most (is_made_at d.names.all k)))

all_once : (s : Script) (formed : IsWellFormed s) → IfRead (spelt_lines blank_draft (rows_of formed.bytes)) Once
all_once s formed = lines_once (rows_of formed.bytes) blank_draft
    (record { once = refl; counted = none; apart = λ commands c member has. absurd member })
  where
    none : (k : ℕ) → times_in k (clients_in blank_draft) ≡ one_if (is_made_at blank_draft.names.all k)
    none zero = refl
    none (suc k) = refl

-- the commands of the clients of a well-formed script make a label at most once
once_in : (s : Script) → IsWellFormed s → (k : ℕ) → times_in k s.clients ≤ 1
once_in s formed k = drafted (spelt_lines blank_draft (rows_of formed.bytes)) s (all_once s formed) formed.spells k

-- where a command of a client stands
record StandsAt (s : Script) (e : Entry) (c : Command) : Type 0 where
  client : ℕ
  place : ℕ
  commands : List Command
  is_client : suc client ≡ e.client
  is_place : suc place ≡ e.command
  row : slice_get s.clients client ≡ Some commands
  item : slice_get commands place ≡ Some c

stands_at : (s : Script) (e : Entry) (c : Command) → command_of s e ≡ Some c → StandsAt s e c
stands_at s e c found = by e.client e.command refl refl found where
  at_command : (n : ℕ) (commands : List Command) (m : ℕ) → suc n ≡ e.client → slice_get s.clients n ≡ Some commands → m ≡ e.command
      → from_one commands m ≡ Some c → StandsAt s e c
  at_command n commands zero is_client row is_command item = absurd cc
  at_command n commands (suc m) is_client row is_command item =
      record { client = n; place = m; commands = commands; is_client = is_client; is_place = is_command; row = row; item = item }

  at_row : (n m : ℕ) (o : Option (List Command)) → slice_get s.clients n ≡ o → suc n ≡ e.client → m ≡ e.command
      → (o >>= (λ commands. from_one commands m)) ≡ Some c → StandsAt s e c
  at_row n m None row is_client is_command found = absurd cc
  at_row n m (Some commands) row is_client is_command found = at_command n commands m is_client row is_command found

  by : (n m : ℕ) → n ≡ e.client → m ≡ e.command → (from_one s.clients n >>= (λ commands. from_one commands m)) ≡ Some c → StandsAt s e c
  by zero m is_client is_command found = absurd cc
  by (suc n) m is_client is_command found = at_row n m (slice_get s.clients n) refl is_client is_command found

same_entry : (e f : Entry) → e.client ≡ f.client → e.command ≡ f.command → e ≡ f
same_entry e f client command = ap (λ n. at n e.command) client ∙ ap (λ n. at f.client n) command where
  at : ℕ → ℕ → Entry
  at client command = record { client = client; command = command }

made_part : (commands : List Command) (i label : ℕ) (c : Command) → slice_get commands i ≡ Some c → makes c label ≡ true → 1
    ≤ times label commands
made_part commands i label c at is = (let h : one_if (makes c label)
    ≤ times label commands = part_of (λ d. one_if (makes d label)) commands i c at in let one : 1 ≤ times label commands = rw is at h
    in one)

-- two commands that make the same label are one: the bytes that spell the script have no label that is made twice
pub made_once : (s : Script) (e f : Entry) (c d : Command) (label : ℕ) → IsWellFormed s → command_of s e ≡ Some c → command_of s f ≡ Some d
    → makes c label ≡ true → makes d label ≡ true → e ≡ f
made_once s e f c d label formed first second made_first made_second =
    let a = stands_at s e c first in
    let b = stands_at s f d second in
    let most = once_in s formed label in
    let client : a.client ≡ b.client = one_place (times label) s.clients a.client b.client a.commands b.commands most a.row b.row
    (made_part a.commands a.place label c a.item made_first) (made_part b.commands b.place label d b.item made_second) in
    let rows : a.commands ≡ b.commands = some_same a.commands b.commands (sym a.row ∙ ap (λ n. slice_get s.clients n) client ∙ b.row) in
    let few : times label a.commands ≤ 1 = (let h = part_of (times label) s.clients a.client a.commands a.row in omega (arith, h, most)) in
    let item : slice_get a.commands b.place ≡ Some d = rw rows b.item in
    let place : a.place ≡ b.place = one_place (λ x. one_if (makes x label)) a.commands a.place b.place c d few a.item item (one made_first)
    (one made_second) in
    same_entry e f (sym a.is_client ∙ ap (λ n. suc n) client ∙ b.is_client) (sym a.is_place ∙ ap (λ n. suc n) place ∙ b.is_place)
  where
    some_same : (x y : List Command) → Some x ≡ Some y → x ≡ y
    some_same x y e = cc

    one : {b : Bool} → b ≡ true → 1 ≤ one_if b
    one e = rw e (omega arith)

-- a command of a well-formed script makes each label by one assignment at most
drafted_apart : (o : Option Draft) (s : Script) → IfRead o Once → option_map script_in o ≡ Some s → AllApart s.clients
drafted_apart None s is e = absurd cc
drafted_apart (Some d) s is e = (let same : script_in d ≡ s = cc in subst (λ (x : Script). AllApart x.clients) same is.apart)

pub made_apart : (s : Script) (e : Entry) (c : Command) → IsWellFormed s → command_of s e ≡ Some c → MakesApart c
made_apart s e c formed found =
    let at = stands_at s e c found in
    drafted_apart (spelt_lines blank_draft (rows_of formed.bytes)) s (all_once s formed) formed.spells at.commands c
    (item_in s.clients at.client at.commands at.row) (item_in at.commands at.place c at.item)
  where
    item_in : {A : Type 0} (xs : List A) (i : ℕ) (x : A) → slice_get xs i ≡ Some x → IsIn x xs
    item_in [] i x is = absurd cc
    item_in (y ∷ ys) zero x is = inl cc
    item_in (y ∷ ys) (suc i) x is = inr (item_in ys i x is)
