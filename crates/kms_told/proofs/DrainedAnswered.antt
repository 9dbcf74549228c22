-- In a drained history each command of the script has a reply.
use Rattle.std.proofs.Common.{◌≡◌, ℕ, zero, suc, ◌+◌, ◌<◌, ◌≤◌, true, List, [], ◌∷◌, length, map, Some, None, refl, sym, ap, ◌∙◌, arith}
use Rattle.std.proofs.Common.{⊎_elim}
use Rattle.std.specs.Prelude.{slice_get}
use Rattle.std.specs.List.{range_with_len}
use Rattle.std.specs.Option.{option_and_then}
use Rattle.kms_model.specs.declared.replies.Step.{Step}
use Rattle.kms_model.specs.declared.scripts.Command.{Command}
use Rattle.kms_model.specs.declared.scripts.Script.{Script}
use Rattle.kms_model.specs.Device.Serial.{Entry, from_one}
use Rattle.kms_model.specs.Machine.Histories.{at, is_drained, is_history}
use Rattle.kms_model.specs.Machine.State.{place_at}
use Rattle.kms_model.specs.Report.Right.{commands_from}
use Rattle.kms_model.proofs.Guards.{drained_guards}
use Rattle.kms_model.proofs.Items.{IsIn}
use Rattle.kms_laws.proofs.Basics.{in_either}
use Rattle.kms_laws.proofs.Headlines.{range-in}
use Rattle.kms_laws.proofs.Steps.{IsPlainScript}
use Rattle.kms_told.proofs.Built.{reached}
use Rattle.kms_told.proofs.Passed.{IsAnswered}

-- Numbers of commands

slice-beyond : {A : Type 0} (xs : List A) (n : ℕ) → slice_get xs n ≡ None → length xs ≤ n
slice-beyond [] n e = omega arith
slice-beyond (x ∷ xs) zero e = absurd cc
slice-beyond (x ∷ xs) (suc n) e = let l = slice-beyond xs n e in omega (arith, l)

beyond : {A : Type 0} (xs : List A) (n : ℕ) → 1 ≤ n → from_one xs n ≡ None → length xs < n
beyond xs zero low e = absurd (omega (arith, low))
beyond xs (suc n) low e = let l = slice-beyond xs n e in omega (arith, l)

-- a command of a client, which has its commands
record IsCommand (clients : List (List Command)) (from : ℕ) (e : Entry) : Type 0 where
  index : ℕ
  commands : List Command
  client : e.client ≡ from + index
  there : slice_get clients index ≡ Some commands
  low : 1 ≤ e.command
  high : e.command ≤ length commands

in-commands : (client from n : ℕ) (e : Entry) → IsIn e (map (λ k. record { client = client; command = k }) (range_with_len from n))
    → (e.client ≡ client) × ((from ≤ e.command) × (e.command < from + n))
in-commands client from zero e is = absurd is
in-commands client from (suc n) e is =
    ⊎_elim
    (λ (here : record { client = client; command = from } ≡ e).
    let c = ap (λ (f : Entry). f.command) here in
    (sym (ap (λ (f : Entry). f.client) here), (omega (arith, c), omega (arith, c))))
    (λ later.
    let r = in-commands client (from + 1) n e later in
    let low = r.1.0 in let high = r.1.1 in
    (r.0, (omega (arith, low), omega (arith, high))))
    is

command-in : (from : ℕ) (clients : List (List Command)) (e : Entry) → IsIn e (commands_from from clients) → IsCommand clients from e
command-in from [] e is = absurd is
command-in from (commands ∷ rest) e is =
    ⊎_elim
    (λ (here : IsIn e (map (λ n. record { client = from; command = n }) (range_with_len 1 (length commands)))).
    let r = in-commands from 1 (length commands) e here in
    let low = r.1.0 in let high = r.1.1 in let c = r.0 in
    record { index = 0; commands = commands; client = omega (arith, c); there = refl; low = low; high = omega (arith, high) })
    (λ later.
    let r = command-in (from + 1) rest e later in
    let c = r.client in
    record { index = suc r.index; commands = r.commands; client = omega (arith, c); there = r.there; low = r.low; high = r.high })
    (in_either (map (λ n. record { client = from; command = n }) (range_with_len 1 (length commands))) (commands_from (from + 1) rest) e is)

in-range : {A : Type 0} (xs : List A) (n : ℕ) (x : A) → slice_get xs n ≡ Some x → n < length xs
in-range [] n x e = absurd cc
in-range (y ∷ ys) zero x e = omega arith
in-range (y ∷ ys) (suc n) x e = let l = in-range ys n x e in omega (arith, l)

-- Drained histories

module _ (s : Script) (h : List Step) (plain : IsPlainScript s) (is : is_history s h ≡ true) (drained : is_drained s (at s h) ≡ true) where
  -- where a client is at its end, it is past all of its commands
  past-all : (client : ℕ) (commands : List Command) → 1 ≤ client → client < 1 + length s.clients → from_one s.clients client ≡ Some commands
      → length commands < (place_at (at s h) client).command
  past-all client commands low high found =
      let end = (drained_guards s (at s h) drained).at_end client (range-in 1 (length s.clients) client low high) in
      beyond commands (place_at (at s h) client).command ((reached s h plain is).counted.sizes.places_stand.low client)
      (sym (ap (λ o. option_and_then (λ (cs : List Command). from_one cs (place_at (at s h) client).command) o) found) ∙ end.ended)

  pub all-answered : (e : Entry) → IsIn e (commands_from 1 s.clients) → IsAnswered (at s h).records.replies e.client e.command
  all-answered e there =
      let c = command-in 1 s.clients e there in
      let within = in-range s.clients c.index c.commands c.there in
      let number = c.client in
      let next : e.client ≡ suc c.index = omega (arith, number) in
      let found : from_one s.clients e.client ≡ Some c.commands = ap (from_one s.clients) next ∙ c.there in
      let past = past-all e.client c.commands (omega (arith, number)) (omega (arith, number, within)) found in
      let most = c.high in
      (reached s h plain is).passed.each_answered e.client e.command c.low (omega (arith, past, most))
