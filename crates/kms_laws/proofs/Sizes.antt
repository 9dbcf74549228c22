-- How many commits, tickets, entries and replies there are: at most one for each command that was begun or answered.
use Rattle.std.proofs.Common.{◌≡◌, ℕ, zero, suc, ◌+◌, ◌*◌, ◌<◌, ◌≤◌, List, [], ◌∷◌, length, Option, Some, None, refl, sym, ap, subst, arith}
use Rattle.std.proofs.Common.{⊎_elim}
use Rattle.std.specs.Option.{option_and_then}
use Rattle.std.proofs.lemmas.Bool.{cases_eq, cases_lt}
use Rattle.kms_model.specs.declared.runs.Doing.{Doing}
use Rattle.kms_model.specs.declared.runs.Doing.TheVariants as doing
use Rattle.kms_model.specs.declared.runs.Place.{Place}
use Rattle.kms_model.specs.declared.scripts.Command.{Command}
use Rattle.kms_model.specs.declared.scripts.Script.{Script}
use Rattle.kms_model.specs.Device.Serial.{Entry, command_of, from_one}
use Rattle.kms_model.specs.Machine.Registers.{read}
use Rattle.kms_laws.specs.TailsLeft.{sum}
use Rattle.kms_laws.proofs.Basics.{read_other, read_same}

-- Sums over clients

pub sum-more : (f g : ℕ → ℕ) (from n : ℕ) → ((c : ℕ) → from ≤ c → c < from + n → f c ≤ g c) → sum f from n ≤ sum g from n
sum-more f g from zero h = omega arith
sum-more f g from (suc n) h = let a = h from (omega arith) (omega arith)
    in let b = sum-more f g (from + 1) n (λ c l m. h c (omega arith) (omega arith)) in omega (arith, a, b)

pub sum-one : (f g : ℕ → ℕ) (x from n : ℕ) → ((c : ℕ) → from ≤ c → c < from + n → f c ≤ g c) → f x + 1 ≤ g x → from ≤ x → x < from + n
    → sum f from n + 1 ≤ sum g from n
sum-one f g x from zero h one l m = absurd (omega arith)
sum-one f g x from (suc n) h one l m =
    ⊎_elim
    (λ (same : from ≡ x).
    let here : f from + 1 ≤ g from = subst (λ z. f z + 1 ≤ g z) (sym same) one in
    let rest = sum-more f g (from + 1) n (λ c a b. h c (omega arith) (omega arith)) in
    omega (arith, here, rest))
    (λ (ne : from ≡ x → ⊥).
    let here = h from (omega arith) (omega arith) in
    let above : from + 1 ≤ x = ⊎_elim (λ (lt : from < x). omega arith) (λ (ge : x ≤ from). absurd (ne (omega arith))) (cases_lt from x) in
    let rest = sum-one f g x (from + 1) n (λ c a b. h c (omega arith) (omega arith)) one above (omega arith) in
    omega (arith, here, rest))
    (cases_eq from x)

pub sum-last : (f : ℕ → ℕ) (from n : ℕ) → sum f from (suc n) ≡ sum f from n + f (from + n)
sum-last f from zero = let e : from + 0 ≡ from = omega arith in let g = ap f e in omega (arith, g)
sum-last f from (suc n) =
    let a = sum-last f (from + 1) n in
    let e : from + 1 + n ≡ from + suc n = omega arith in
    let g = ap f e in
    omega (arith, a, g)

pub sum-most : (f : ℕ → ℕ) (most from n : ℕ) → ((c : ℕ) → f c ≤ most) → sum f from n ≤ n * most
sum-most f most from zero h = omega arith
sum-most f most from (suc n) h = let a = h from in let b = sum-most f most (from + 1) n h in grind (arith, a, b)

sum-ones : (from n : ℕ) → sum (λ c. 1) from n ≡ n
sum-ones from zero = refl
sum-ones from (suc n) = let e = sum-ones (from + 1) n in omega (arith, e)

-- Places

-- how many commands a client has
abbrev pub length_of : Option (List Command) → ℕ
length_of None = 0
length_of (Some commands) = length commands

abbrev pub has_commands : Script → ℕ → ℕ
has_commands s client = length_of (from_one s.clients client)

abbrev pub place_of : List (ℕ × Place) → ℕ → Place
place_of places client = read (record { command = 1; doing = doing.Idle }) places client

-- a client that is not idle has begun its command
abbrev pub busy : Doing → ℕ
busy doing.Idle = 0
busy (doing.Taking ticket) = 1
busy (doing.MustBackOff ticket object) = 1
busy (doing.BackedOff ticket object) = 1
busy (doing.Returning k) = 1

-- one that returns has its answer
abbrev pub answered : Doing → ℕ
answered doing.Idle = 0
answered (doing.Taking ticket) = 0
answered (doing.MustBackOff ticket object) = 0
answered (doing.BackedOff ticket object) = 0
answered (doing.Returning k) = 1

-- one more than the commands that a client has begun, and than those that were answered
abbrev pub begun_at : Place → ℕ
begun_at p = p.command + busy p.doing

abbrev pub ended_at : Place → ℕ
ended_at p = p.command + answered p.doing

abbrev pub all_begun : Script → List (ℕ × Place) → ℕ
all_begun s places = sum (λ c. begun_at (place_of places c)) 1 (length s.clients)

abbrev pub all_ended : Script → List (ℕ × Place) → ℕ
all_ended s places = sum (λ c. ended_at (place_of places c)) 1 (length s.clients)

-- the tickets, commits, next id, entries and replies by the places
pub record PlacesStand (s : Script) (places : List (ℕ × Place)) (tickets commits ids entries replies : ℕ) : Type 0 where
  pub low : (c : ℕ) → 1 ≤ (place_of places c).command
  pub bound : (c : ℕ) → begun_at (place_of places c) ≤ has_commands s c + 1
  pub tickets_few : tickets + length s.clients ≤ all_begun s places
  pub commits_few : commits + length s.clients ≤ all_ended s places
  pub ids_few : ids + 4 * length s.clients ≤ 1000 + 4 * all_ended s places
  pub entries_few : entries + length s.clients ≤ all_ended s places
  pub replies_few : replies + length s.clients ≤ all_ended s places

pub first_places : (s : Script) → PlacesStand s [] 0 0 1000 0 0
unfolding read
first_places s =
    let e : sum (λ c. 1) 1 (length s.clients) ≡ length s.clients = sum-ones 1 (length s.clients) in
    record {
      low = λ c. omega arith;
      bound = λ c. omega arith;
      tickets_few = omega (arith, e);
      commits_few = omega (arith, e);
      ids_few = omega (arith, e);
      entries_few = omega (arith, e);
      replies_few = omega (arith, e);
    }

-- Commands that are there

pub from_one-within : {A : Type 0} (xs : List A) (n : ℕ) (x : A) → from_one xs n ≡ Some x → (1 ≤ n) × (n ≤ length xs)
from_one-within xs zero x e = absurd cc
from_one-within [] (suc n) x e = absurd cc
from_one-within (y ∷ ys) (suc zero) x e = (omega arith, omega arith)
from_one-within (y ∷ ys) (suc (suc n)) x e = let r = from_one-within ys (suc n) x e in (omega arith, omega (arith, r.1))

-- a command of a script
pub record IsThere (s : Script) (client command : ℕ) : Type 0 where
  pub low : 1 ≤ client
  pub high : client < 1 + length s.clients
  pub within : command ≤ has_commands s client

pub command-there : (s : Script) (e : Entry) (c : Command) → command_of s e ≡ Some c → IsThere s e.client e.command
command-there s e c is = go (from_one s.clients e.client) refl is
  where
    go : (o : Option (List Command)) → from_one s.clients e.client ≡ o → option_and_then (λ commands. from_one commands e.command) o
        ≡ Some c → IsThere s e.client e.command
    go None found is = absurd cc
    go (Some commands) found is =
        let one = from_one-within s.clients e.client commands found in
        let two = from_one-within commands e.command c is in
        record { low = one.0; high = omega (arith, one.1); within = subst (λ o. e.command ≤ length_of o) (sym found) two.1 }

-- A new place

module _ (s : Script) (places : List (ℕ × Place)) (tickets commits ids entries replies : ℕ)
    (S : PlacesStand s places tickets commits ids entries replies) (x : ℕ) (p : Place) (is_low : 1 ≤ p.command) where
  by_client : (F : Place → ℕ) (R : ℕ → ℕ → ℕ → Type 0) → ((c : ℕ) → R c (F (place_of places c)) (F (place_of places c)))
      → R x (F (place_of places x)) (F p) → (c : ℕ) → R c (F (place_of places c)) (F (place_of ((x, p) ∷ places) c))
  by_client F R other own c =
      ⊎_elim
      (λ (same : x ≡ c). subst (λ z. R z (F (place_of places z)) (F (place_of ((x, p) ∷ places) z))) same
      (subst (λ q. R x (F (place_of places x)) (F q)) (sym (read_same (record { command = 1; doing = doing.Idle }) places x p)) own))
      (λ ne. subst (λ q. R c (F (place_of places c)) (F q)) (sym (read_other (record { command = 1; doing = doing.Idle }) places x c p ne))
      (other c))
      (cases_eq x c)

  rises : (F : Place → ℕ) → F (place_of places x) ≤ F p → (c : ℕ) → F (place_of places c) ≤ F (place_of ((x, p) ∷ places) c)
  rises F own c = by_client F (λ c old new. old ≤ new) (λ c. omega arith) own c

  at_x : (F : Place → ℕ) → F (place_of ((x, p) ∷ places) x) ≡ F p
  at_x F = ap F (read_same (record { command = 1; doing = doing.Idle }) places x p)

  bound_now : begun_at p ≤ has_commands s x + 1 → (c : ℕ) → begun_at (place_of ((x, p) ∷ places) c) ≤ has_commands s c + 1
  bound_now own c = by_client begun_at (λ c old new. new ≤ has_commands s c + 1) S.bound own c

  low_now : (c : ℕ) → 1 ≤ (place_of ((x, p) ∷ places) c).command
  low_now c = by_client (λ (q : Place). q.command) (λ c old new. 1 ≤ new) S.low is_low c

  begun_more : begun_at (place_of places x) ≤ begun_at p → all_begun s places ≤ all_begun s ((x, p) ∷ places)
  begun_more le = sum-more (λ c. begun_at (place_of places c)) (λ c. begun_at (place_of ((x, p) ∷ places) c)) 1 (length s.clients)
      (λ c a b. rises begun_at le c)

  ended_more : ended_at (place_of places x) ≤ ended_at p → all_ended s places ≤ all_ended s ((x, p) ∷ places)
  ended_more le = sum-more (λ c. ended_at (place_of places c)) (λ c. ended_at (place_of ((x, p) ∷ places) c)) 1 (length s.clients)
      (λ c a b. rises ended_at le c)

  -- a client stays at its command
  pub stays : begun_at (place_of places x) ≡ begun_at p → ended_at (place_of places x) ≡ ended_at p
      → PlacesStand s ((x, p) ∷ places) tickets commits ids entries replies
  stays b e =
      let begun = begun_more (omega (arith, b)) in
      let ended = ended_more (omega (arith, e)) in
      record {
        low = low_now;
        bound = bound_now (let l = S.bound x in omega (arith, b, l));
        tickets_few = (let l = S.tickets_few in omega (arith, l, begun));
        commits_few = (let l = S.commits_few in omega (arith, l, ended));
        ids_few = (let l = S.ids_few in omega (arith, l, ended));
        entries_few = (let l = S.entries_few in omega (arith, l, ended));
        replies_few = (let l = S.replies_few in omega (arith, l, ended));
      }

  -- it draws a ticket
  pub draws : IsThere s x (place_of places x).command → begun_at p ≡ (place_of places x).command + 1 → begun_at (place_of places x) + 1
      ≡ begun_at p → ended_at (place_of places x) ≡ ended_at p
      → PlacesStand s ((x, p) ∷ places) (tickets + 1) commits ids entries replies
  draws there is b e =
      let one : begun_at (place_of places x) + 1 ≤ begun_at (place_of ((x, p) ∷ places) x) = let y = at_x begun_at in omega (arith, y, b) in
      let begun = sum-one (λ c. begun_at (place_of places c)) (λ c. begun_at (place_of ((x, p) ∷ places) c)) x 1 (length s.clients)
      (λ c l m. rises begun_at (omega (arith, b)) c) one there.low there.high in
      let ended = ended_more (omega (arith, e)) in
      record {
        low = low_now;
        bound = bound_now (let l = there.within in omega (arith, is, l));
        tickets_few = (let l = S.tickets_few in omega (arith, l, begun));
        commits_few = (let l = S.commits_few in omega (arith, l, ended));
        ids_few = (let l = S.ids_few in omega (arith, l, ended));
        entries_few = (let l = S.entries_few in omega (arith, l, ended));
        replies_few = (let l = S.replies_few in omega (arith, l, ended));
      }

  -- its command is answered
  pub ends : IsThere s x (place_of places x).command → begun_at p ≡ (place_of places x).command + 1 → begun_at (place_of places x)
      ≤ begun_at p → ended_at (place_of places x) + 1 ≡ ended_at p
      → (commits2 ids2 entries2 replies2 : ℕ) → commits2 ≤ commits + 1 → ids2 ≤ ids + 4 → entries2 ≤ entries + 1 → replies2 ≤ replies + 1
      → PlacesStand s ((x, p) ∷ places) tickets commits2 ids2 entries2 replies2
  ends there is b e commits2 ids2 entries2 replies2 c i n r =
      let one : ended_at (place_of places x) + 1 ≤ ended_at (place_of ((x, p) ∷ places) x) = let y = at_x ended_at in omega (arith, y, e) in
      let ended = sum-one (λ c. ended_at (place_of places c)) (λ c. ended_at (place_of ((x, p) ∷ places) c)) x 1 (length s.clients)
      (λ c l m. rises ended_at (omega (arith, e)) c) one there.low there.high in
      let begun = begun_more b in
      record {
        low = low_now;
        bound = bound_now (let l = there.within in omega (arith, is, l));
        tickets_few = (let l = S.tickets_few in omega (arith, l, begun));
        commits_few = (let l = S.commits_few in omega (arith, l, ended, c));
        ids_few = (let l = S.ids_few in omega (arith, l, ended, i));
        entries_few = (let l = S.entries_few in omega (arith, l, ended, n));
        replies_few = (let l = S.replies_few in omega (arith, l, ended, r));
      }
