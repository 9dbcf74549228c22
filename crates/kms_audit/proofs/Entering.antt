-- One entry more on the walk over a journal.
use Rattle.std.proofs.Common.{◌≡◌, ℕ, zero, suc, ◌+◌, ◌<◌, ◌≤◌, Bool, true, false, List, [], ◌∷◌, ◌++◌, length, take, Some, None, refl, sym}
use Rattle.std.proofs.Common.{ap, ◌∙◌, subst, arith, inl, inr}
use Rattle.std.proofs.lemmas.Bool.{and_from, and_left, and_parts, and_right, eqb-true, lt-ltb, ltb-true, or_cases, or_left, or_right}
use Rattle.std.proofs.lemmas.List.{take_all}
use Rattle.std.proofs.lemmas.List.Folds.{list_all-append}
use Rattle.std.proofs.lemmas.Option.{slice_get-map}
use Rattle.std.specs.Prelude.{◌&&◌, ◌||◌, ◌==◌, filter, nat_lt, not, option_map, slice_get, if◌then◌else◌}
use Rattle.std.specs.List.{last_or, list_all}
use Rattle.std.specs.Option.{option_map_or}
use Rattle.kms_audit.proofs.Apart.{and_true}
use Rattle.kms_audit.proofs.Firsts.{off-each}
use Rattle.kms_audit.proofs.Leasts.{take-next}
use Rattle.kms_audit.proofs.Turns.{get-some}
use Rattle.kms_audit.specs.declared.walk.Walk.{Walk}
use Rattle.kms_audit.specs.Walked.{IsComparedWalk, IsNextWalk, IsSmall, is_above_last, last_number}
use Rattle.kms_model.specs.declared.reports.Report.{Report}
use Rattle.kms_model.specs.declared.scripts.Command.{Command}
use Rattle.kms_model.specs.declared.scripts.Script.{Script}
use Rattle.kms_model.specs.declared.worlds.World.{World}
use Rattle.kms_model.specs.Device.Serial.{Entry, command_of, serial}
use Rattle.kms_model.specs.Report.RightAnswers.{entries_in, entry_from, entry_is_right, first_off, is_above, is_entered_in}
use Rattle.kms_serial.specs.Commands.{Grows}
use Rattle.kms_told.proofs.Items.{last-push}

-- The last number of a client

pub all_push : {A : Type 0} (p : A → Bool) (xs : List A) (x : A) → list_all p (xs ++ x ∷ []) ≡ (list_all p xs && p x)
all_push p xs x = list_all-append p xs (x ∷ []) ∙ ap (λ b. list_all p xs && b) (and_true (p x))

pub filter_push : {A : Type 0} (p : A → Bool) (xs : List A) (x : A)
    → filter p (xs ++ x ∷ []) ≡ (if p x then filter p xs ++ x ∷ [] else filter p xs)
filter_push p [] x = refl
filter_push p (y ∷ ys) x = by_both (p y) (p x) (filter_push p ys x) where
  by_both : (b c : Bool) → filter p (ys ++ x ∷ []) ≡ (if c then filter p ys ++ x ∷ [] else filter p ys)
      → (if b then y ∷ filter p (ys ++ x ∷ []) else filter p (ys ++ x ∷ []))
      ≡ (if c then (if b then y ∷ filter p ys else filter p ys) ++ x ∷ [] else (if b then y ∷ filter p ys else filter p ys))
  by_both true true e = ap (λ zs. y ∷ zs) e
  by_both true false e = ap (λ zs. y ∷ zs) e
  by_both false true e = e
  by_both false false e = e

pub last_number-push : (journal : List Entry) (e : Entry) (client : ℕ) (b : Bool) → (e.client == client) ≡ b
    → last_number (journal ++ e ∷ []) client ≡ (if b then Some e.command else last_number journal client)
last_number-push journal e client b is =
    ap (λ es. option_map_or (λ (x : Entry). Some x.command) (last_or None es) None)
    (filter_push (λ (x : Entry). x.client == client) journal e)
    ∙ by_own b is where
      by_own : (c : Bool) → (e.client == client) ≡ c
          → option_map_or (λ (x : Entry). Some x.command)
          (last_or None (if e.client == client then filter (λ (x : Entry). x.client == client) journal ++ e ∷ [] else filter
          (λ (x : Entry). x.client == client) journal)) None
          ≡ (if c then Some e.command else last_number journal client)
      by_own true own =
          ap (λ c. option_map_or (λ (x : Entry). Some x.command)
          (last_or None (if c then filter (λ (x : Entry). x.client == client) journal ++ e ∷ [] else filter
          (λ (x : Entry). x.client == client) journal)) None) own
          ∙ ap (λ o. option_map_or (λ (x : Entry). Some x.command) o None)
          (last-push None (filter (λ (x : Entry). x.client == client) journal) e)
      by_own false other =
          ap (λ c. option_map_or (λ (x : Entry). Some x.command)
          (last_or None (if c then filter (λ (x : Entry). x.client == client) journal ++ e ∷ [] else filter
          (λ (x : Entry). x.client == client) journal)) None) other

-- a number is above those of a client in a journal
abbrev is_over : ℕ → ℕ → Entry → Bool
is_over client number other = not (other.client == client) || nat_lt other.command number

all_over : (client low high : ℕ) (es : List Entry) → low < high → list_all (is_over client low) es ≡ true
    → list_all (is_over client high) es ≡ true
all_over client low high [] l h = refl
all_over client low high (e ∷ es) l h =
    let p = and_parts (is_over client low e) (list_all (is_over client low) es) h in
    and_from (is_over client high e) (list_all (is_over client high) es)
    (elim (or_cases (not (e.client == client)) (nat_lt e.command low) p.0) [
      | inl other ↦ or_left (not (e.client == client)) (nat_lt e.command high) other
      | inr below ↦ or_right (not (e.client == client)) (nat_lt e.command high)
          (lt-ltb e.command high (omega (arith, ltb-true e.command low below)))
    ])
    (all_over client low high es l p.1)

over_more : (es : List Entry) (x : Entry) (client number : ℕ) → is_above es x ≡ true
    → list_all (is_over client number) es ≡ is_above_last (last_number es client) number
    → list_all (is_over client number) (es ++ x ∷ []) ≡ is_above_last (last_number (es ++ x ∷ []) client) number
over_more es x client number above ih =
    all_push (is_over client number) es x
    ∙ (by_own (x.client == client) refl ∙ ap (λ o. is_above_last o number) (sym (last_number-push es x client (x.client == client) refl)))
  where
    by_own : (b : Bool) → (x.client == client) ≡ b
        → (list_all (is_over client number) es && (not (x.client == client) || nat_lt x.command number)) ≡ is_above_last
        (if b then Some x.command else last_number es client) number
    by_own false other =
        ap (λ b. list_all (is_over client number) es && (not b || nat_lt x.command number)) other
        ∙ (and_true (list_all (is_over client number) es) ∙ ih)
    by_own true own =
        ap (λ b. list_all (is_over client number) es && (not b || nat_lt x.command number)) own
        ∙ by_number (nat_lt x.command number) refl where
          by_number : (c : Bool) → nat_lt x.command number ≡ c → (list_all (is_over client number) es && c) ≡ c
          by_number false above_it = and_right (list_all (is_over client number) es) false refl
          by_number true below =
              and_true (list_all (is_over client number) es)
              ∙ all_over client x.command number es (ltb-true x.command number below)
              (subst (λ c. list_all (is_over c x.command) es ≡ true) (eqb-true x.client client own) above)

above_of : (s : Script) (es : List Entry) (e : Entry) → entry_is_right s es e ≡ true → is_above es e ≡ true
unfolding entry_is_right
above_of s es e f = (and_parts (is_above es e) (is_entered_in s.topology (serial s es) e.client (command_of s e)) f).0

module _ (s : Script) (journal : List Entry) (right : first_off (entry_is_right s) [] journal ≡ None) (client number : ℕ) where
  above_front : (k : ℕ) → k ≤ length journal → list_all (is_over client number) (take k journal) ≡ is_above_last
      (last_number (take k journal) client) number
  above_front zero l = refl
  above_front (suc k) l =
      let x = get-some journal k (omega arith) in
      let e = off-each (entry_is_right s) [] journal k x.0 right x.1 in
      subst (λ es. list_all (is_over client number) es ≡ is_above_last (last_number es client) number) (sym (take-next journal k x.0 x.1))
      (over_more (take k journal) x.0 client number (above_of s (take k journal) x.0 e) (above_front k (omega arith)))

  above_last : list_all (is_over client number) journal ≡ is_above_last (last_number journal client) number
  above_last =
      subst (λ es. list_all (is_over client number) es ≡ is_above_last (last_number es client) number)
      (take_all (length journal) journal (omega arith))
      (above_front (length journal) (omega arith))

-- An entry behind a journal

module _ (s : Script) (journal : List Entry) (e : Entry) where
  pub lacks_command : command_of s e ≡ None → entry_is_right s journal e ≡ false
  unfolding entry_is_right
  lacks_command none = and_right (is_above journal e) (is_entered_in s.topology (serial s journal) e.client (command_of s e))
      (ap (is_entered_in s.topology (serial s journal) e.client) none)

  pub is_below : first_off (entry_is_right s) [] journal ≡ None → is_above_last (last_number journal e.client) e.command ≡ false
      → entry_is_right s journal e ≡ false
  unfolding entry_is_right
  is_below right below = and_left (is_above journal e) (is_entered_in s.topology (serial s journal) e.client (command_of s e))
      (above_last s journal right e.client e.command ∙ below)

  pub is_as_entered : (c : Command) (entered : Bool) → command_of s e ≡ Some c → first_off (entry_is_right s) [] journal ≡ None
      → is_above_last (last_number journal e.client) e.command ≡ true
      → entered ≡ is_entered_in s.topology (serial s journal) e.client (Some c)
      → entered ≡ entry_is_right s journal e
  unfolding entry_is_right
  is_as_entered c entered is right above same =
      same
      ∙ (ap (is_entered_in s.topology (serial s journal) e.client) (sym is)
      ∙ ap (λ b. b && is_entered_in s.topology (serial s journal) e.client (command_of s e))
      (sym (above_last s journal right e.client e.command ∙ above)))

-- The walk with one entry more

pub small-step : (place : ℕ) (w v : World) → IsSmall place w → Grows w v → IsSmall (place + 1) v
small-step place w v small grows = record {
  ids = omega (arith, small.ids, grows.ids);
  commits = omega (arith, small.commits, grows.commits);
}

module _ (s : Script) (r : Report) (place : ℕ) (old : Walk) (entry : ℕ × ℕ) (walk : IsComparedWalk s r place old)
    (is_entry : slice_get r.journal place ≡ Some entry) where
  abbrev pub e : Entry
  e = entry_from entry

  abbrev pub front : List Entry
  front = take place (entries_in r)

  pub there : slice_get (entries_in r) place ≡ Some e
  there = slice_get-map entry_from r.journal place ∙ ap (option_map entry_from) is_entry

  pub more : take (place + 1) (entries_in r) ≡ front ++ e ∷ []
  more = let next : place + 1 ≡ suc place = omega arith in ap (λ n. take n (entries_in r)) next ∙ take-next (entries_in r) place e there

  pub wrong_walk : (new : Walk) → entry_is_right s front e ≡ false → IsNextWalk s r place new false
  wrong_walk new wrong = record { entry = e; is_entry = there; is_right = sym wrong; walk = λ f. absurd cc }
