-- The commands of a client that have R lines: they are its first ones, so many as its block has lines.
use Rattle.std.proofs.Common.{◌≡◌, ℕ, zero, suc, ◌+◌, ◌-◌, ◌<◌, ◌≤◌, Bool, true, false, List, [], ◌∷◌, length, drop, Option, Some}
use Rattle.std.proofs.Common.{None, refl, sym, ap, ◌∙◌, subst, arith, inl, inr}
use Rattle.std.proofs.lemmas.Bool.{and_from, and_left, and_parts, cases_lt, eq-eqb, eqb-true, false_from_ne_true, le-leb, lt-leb, ne_eqb}
use Rattle.std.proofs.lemmas.Bool.{or_from, or_left, or_right}
use Rattle.std.proofs.lemmas.Bool.Decides.{nat_tests}
use Rattle.std.proofs.lemmas.List.{drop_all, drop_more}
use Rattle.std.proofs.lemmas.List.Folds.{list_all-append, list_all-map}
use Rattle.std.proofs.lemmas.Option.{get_or_from_slice_get}
use Rattle.std.specs.Prelude.{◌&&◌, ◌==◌, is_some, map, nat_le, nat_lt, slice_get, slice_index_or, if◌then◌else◌}
use Rattle.std.specs.List.{list_all, list_any, range_with_len}
use Rattle.std.specs.Option.{option_and_then}
use Rattle.kms_audit.proofs.Leasts.{get-before, get-within, last-take}
use Rattle.kms_audit.proofs.Turns.{get-some, named-at, ordered-at}
use Rattle.kms_audit.specs.declared.order.Block.{Block}
use Rattle.kms_audit.specs.Ordered.{AreLinesOf, IsWholeOrder, block_at, no_block}
use Rattle.kms_audit.specs.Sections.{stands_in_order}
use Rattle.kms_model.specs.declared.replies.Answered.{Answered}
use Rattle.kms_model.specs.declared.reports.Report.{Report}
use Rattle.kms_model.specs.declared.scripts.Command.{Command}
use Rattle.kms_model.specs.declared.scripts.Script.{Script}
use Rattle.kms_model.specs.Device.Serial.{Entry, command_of, from_one}
use Rattle.kms_model.specs.Headline.{entry_answered}
use Rattle.kms_model.specs.Report.Right.{commands_from}
use Rattle.kms_model.specs.Report.RightAnswers.{answers_in, first_off, has_answer, is_answer_to, is_in_turn, is_to_entry}

-- Two lines behind one another

first_number : (same : Bool) (number : ℕ) (x y : Bool) → same ≡ false → (if same then x else (y && (number == 1))) ≡ true → number ≡ 1
first_number false number x y e f = eqb-true number 1 (and_parts y (number == 1) f).1
first_number true number x y e f = absurd cc

next_number : (same : Bool) (number last : ℕ) (x y : Bool) → same ≡ true
    → (if same then ((number == last + 1) && x) else y) ≡ true → number ≡ last + 1
next_number true number last x y e f = eqb-true number (last + 1) (and_parts (number == last + 1) x f).0
next_number false number last x y e f = absurd cc

module _ (s : Script) (r : Report) (xs : List Answered) (stands : first_off (stands_in_order s r) [] xs ≡ None) where
  turned_behind : (k : ℕ) (b a : Answered) → slice_get xs k ≡ Some b → slice_get xs (suc k) ≡ Some a → is_in_turn r (Some b) a ≡ true
  turned_behind k b a h g = subst (λ o. is_in_turn r o a ≡ true) (last-take xs k b h) (ordered-at s r xs stands (suc k) a g).in_turn

  -- the first line of a client has number 1
  first_of_client : (k : ℕ) (a : Answered) → slice_get xs k ≡ Some a
      → ((j : ℕ) (b : Answered) → suc j ≡ k → slice_get xs j ≡ Some b → b.client ≡ a.client → ⊥) → a.command ≡ 1
  first_of_client zero a g other = eqb-true a.command 1 (ordered-at s r xs stands zero a g).in_turn
  first_of_client (suc k) a g other =
      let before = get-before xs k a g in
      first_number (before.0.client == a.client) a.command
      ((a.command == before.0.command + 1) &&
      (if is_to_entry r before.0 then nat_lt before.0.place a.place else nat_le before.0.place a.place))
      (nat_lt before.0.client a.client) (ne_eqb before.0.client a.client (λ e. other k before.0 refl before.1 e))
      (turned_behind k before.0 a before.1 g)

  module _ (client : ℕ) (b : Block) (are : AreLinesOf xs client b) where
    -- a line of the block has the number of its place in it
    numbered : (k : ℕ) (a : Answered) → b.next + k < b.end → slice_get xs (b.next + k) ≡ Some a → a.command ≡ k + 1
    numbered zero a within g =
        let here : b.next + 0 ≡ b.next = omega arith in
        let own = are.of_client (b.next + 0) a g (omega arith) within in
        let first = first_of_client (b.next + 0) a g (λ j c next h e.
        let held = are.in_block j c h (e ∙ own) in omega (arith, held.0, next)) in
        omega (arith, first)
    numbered (suc k) a within g =
        let next : b.next + suc k ≡ suc (b.next + k) = omega arith in
        let h = subst (λ n. slice_get xs n ≡ Some a) next g in
        let before = get-before xs (b.next + k) a h in
        let was = numbered k before.0 (omega arith) before.1 in
        let own = are.of_client (b.next + suc k) a g (omega arith) within in
        let own_before = are.of_client (b.next + k) before.0 before.1 (omega arith) (omega arith) in
        let number = next_number (before.0.client == a.client) a.command before.0.command
        (if is_to_entry r before.0 then nat_lt before.0.place a.place else nat_le before.0.place a.place)
        (nat_lt before.0.client a.client && (a.command == 1))
        (eq-eqb before.0.client a.client (own_before ∙ sym own)) (turned_behind (b.next + k) before.0 a before.1 h) in
        omega (arith, number, was)

    -- a line of the client is one of the block, and so its number is at most that of the lines
    number_most : (k : ℕ) (a : Answered) → slice_get xs k ≡ Some a → a.client ≡ client → (1 ≤ a.command) × (a.command ≤ b.end - b.next)
    number_most k a g own =
        let held = are.in_block k a g own in
        let place : b.next + (k - b.next) ≡ k = omega (arith, held.0) in
        let number = numbered (k - b.next) a (omega (arith, held.0, held.1)) (ap (slice_get xs) place ∙ g) in
        (omega (arith, number), omega (arith, number, held.0, held.1))

    -- so a command has an R line exactly where there are so many
    answered_up : (number : ℕ) → 1 ≤ number → number ≤ b.end - b.next
        → (at : ℕ) × ((a : Answered) × ((slice_get xs at ≡ Some a) × ((a.client ≡ client) × (a.command ≡ number))))
    answered_up number some few =
        let at = b.next + (number - 1) in
        let within : b.next + (number - 1) < b.end = omega arith in
        let line = get-some xs (b.next + (number - 1)) (omega (arith, within, are.within)) in (
          b.next + (number - 1),
          (
            line.0,
            (
              line.1,
              (
                are.of_client (b.next + (number - 1)) line.0 line.1 (omega arith) within,
                (let n = numbered (number - 1) line.0 within line.1 in omega (arith, n, some)),
              ),
            ),
          ),
        )

any_at : {A : Type 0} (p : A → Bool) (xs : List A) (k : ℕ) (x : A) → slice_get xs k ≡ Some x → p x ≡ true → list_any p xs ≡ true
any_at p [] k x g e = absurd cc
any_at p (y ∷ ys) zero x g e = let same : y ≡ x = cc in or_left (p y) (list_any p ys) (ap p same ∙ e)
any_at p (y ∷ ys) (suc k) x g e = or_right (p y) (list_any p ys) (any_at p ys k x g e)

none_at : {A : Type 0} (p : A → Bool) (xs : List A) → ((k : ℕ) (x : A) → slice_get xs k ≡ Some x → p x ≡ false) → list_any p xs ≡ false
none_at p [] none = refl
none_at p (y ∷ ys) none = or_from (p y) (list_any p ys) (none 0 y refl) (none_at p ys (λ k x g. none (suc k) x g))

-- all of some numbers pass exactly where the last does, where a number passes exactly where it is no more than another
all_numbers : (p : ℕ → Bool) (lines from n : ℕ) → ((m : ℕ) → 1 ≤ m → m ≤ lines → p m ≡ true) → ((m : ℕ) → lines < m → p m ≡ false)
    → 1 ≤ from → from ≤ lines + 1
    → list_all p (range_with_len from n) ≡ nat_le (from + n) (lines + 1)
all_numbers p lines from zero up over some few = sym (le-leb (from + 0) (lines + 1) (omega arith))
all_numbers p lines from (suc n) up over some few =
    elim (cases_lt lines from) [
      | inl past ↦ and_left (p from) (list_all p (range_with_len (from + 1) n)) (over from past)
          ∙ sym (lt-leb (from + suc n) (lines + 1) (omega arith))
      | inr within ↦ (
          let next : from + 1 + n ≡ from + suc n = omega arith in
          ap (λ b. b && list_all p (range_with_len (from + 1) n)) (up from some within)
          ∙ (all_numbers p lines (from + 1) n up over (omega arith) (omega arith) ∙ ap (λ k. nat_le k (lines + 1)) next))
    ]

module _ (s : Script) (r : Report) (stands : first_off (stands_in_order s r) [] (answers_in r) ≡ None) (client : ℕ) (b : Block)
    (are : AreLinesOf (answers_in r) client b)
    (commands : List Command) (is : from_one s.clients client ≡ Some commands) where
  abbrev entry_at : ℕ → Entry
  entry_at n = record { client = client; command = n }

  lines_most : b.end - b.next ≤ length commands
  lines_most =
      elim (cases_lt 0 (b.end - b.next)) [
        | inl some ↦ (
            let last = answered_up s r (answers_in r) stands client b are (b.end - b.next) some (omega arith) in
            let named = named-at s r (answers_in r) stands last.0 last.1.0 last.1.1.0 in
            let found : option_and_then (λ cs. from_one cs (b.end - b.next)) (Some commands) ≡ command_of s (entry_answered last.1.0) =
            sym (ap (λ c. command_of s (record { client = c; command = last.1.0.command })) last.1.1.1.0
            ∙ (ap (λ n. command_of s (entry_at n)) last.1.1.1.1
            ∙ ap (λ o. option_and_then (λ cs. from_one cs (b.end - b.next)) o) is)) in
            there commands (b.end - b.next) (ap is_some found ∙ named))
        | inr none ↦ omega arith
      ] where
        there : (cs : List Command) (n : ℕ) → is_some (from_one cs n) ≡ true → n ≤ length cs
        there cs zero e = omega arith
        there cs (suc n) e = some_at (slice_get cs n) refl e where
          some_at : (o : Option Command) → slice_get cs n ≡ o → is_some o ≡ true → suc n ≤ length cs
          some_at (Some c) g f = omega (arith, get-within cs n c g)
          some_at None g f = absurd cc

  answered : (n : ℕ) → 1 ≤ n → n ≤ b.end - b.next → has_answer r (entry_at n) ≡ true
  answered n some few =
      let line = answered_up s r (answers_in r) stands client b are n some few in
      any_at (is_answer_to (entry_at n)) (answers_in r) line.0 line.1.0 line.1.1.0
      (and_from (line.1.0.client == client) (line.1.0.command == n) (eq-eqb line.1.0.client client line.1.1.1.0)
      (eq-eqb line.1.0.command n line.1.1.1.1))

  unanswered : (n : ℕ) → b.end - b.next < n → has_answer r (entry_at n) ≡ false
  unanswered n over =
      none_at (is_answer_to (entry_at n)) (answers_in r) (λ k a g. false_from_ne_true (is_answer_to (entry_at n) a) (λ e.
      let p = and_parts (a.client == client) (a.command == n) e in
      let most = number_most s r (answers_in r) stands client b are k a g (eqb-true a.client client p.0) in
      omega (arith, most.1, eqb-true a.command n p.1)))

  -- each command of the client is answered exactly where its block has as many lines
  pub client-answered : list_all (has_answer r) (map entry_at (range_with_len 1 (length commands))) ≡ (b.end - b.next == length commands)
  client-answered =
      list_all-map (has_answer r) entry_at (range_with_len 1 (length commands))
      ∙ (all_numbers (λ n. has_answer r (entry_at n)) (b.end - b.next) 1 (length commands) answered unanswered (omega arith) (omega arith)
      ∙ same_ends (b.end - b.next) (length commands) lines_most) where
        same_ends : (m n : ℕ) → m ≤ n → nat_le (1 + n) (m + 1) ≡ (m == n)
        same_ends m n l = grind (arith, nat_tests)

-- The commands of the clients from one on

from_next : {A : Type 0} (xs : List A) (at : ℕ) (x : A) → slice_get xs at ≡ Some x → from_one xs (at + 1) ≡ Some x
from_next xs at x g = let next : at + 1 ≡ suc at = omega arith in ap (from_one xs) next ∙ g

module _ (s : Script) (r : Report) (blocks : List Block) (whole : IsWholeOrder s r blocks) where
  pub answered-step : (at : ℕ) (commands : List Command) → at < 16 → slice_get s.clients at ≡ Some commands
      → list_all (has_answer r) (commands_from (at + 1) (drop at s.clients))
      ≡ (((slice_index_or blocks at no_block).end - (slice_index_or blocks at no_block).next == length commands)
      && list_all (has_answer r) (commands_from (at + 1 + 1) (drop (at + 1) s.clients)))
  answered-step at commands few g =
      let here : at + 1 - 1 ≡ at = omega arith in
      let first : drop at s.clients ≡ commands ∷ drop (at + 1) s.clients =
      drop_more s.clients at commands (get-within s.clients at commands g)
      ∙ ap (λ c. c ∷ drop (at + 1) s.clients) (get_or_from_slice_get s.clients at commands commands g) in
      let own = client-answered s r whole.cut (at + 1) (block_at blocks (at + 1))
      (whole.are_blocks.lines (at + 1) (omega arith) (omega arith)) commands (from_next s.clients at commands g) in
      ap (λ cs. list_all (has_answer r) (commands_from (at + 1) cs)) first
      ∙ (list_all-append (has_answer r) (map (λ n. record { client = at + 1; command = n }) (range_with_len 1 (length commands)))
      (commands_from (at + 1 + 1) (drop (at + 1) s.clients))
      ∙ ap (λ b. b && list_all (has_answer r) (commands_from (at + 1 + 1) (drop (at + 1) s.clients)))
      (own ∙ ap (λ n. (slice_index_or blocks n no_block).end - (slice_index_or blocks n no_block).next == length commands) here))

  -- behind the last client
  pub answered-none : (at : ℕ) → length s.clients ≤ at → list_all (has_answer r) (commands_from (at + 1) (drop at s.clients)) ≡ true
  answered-none at past = ap (λ cs. list_all (has_answer r) (commands_from (at + 1) cs)) (drop_all at s.clients past)
