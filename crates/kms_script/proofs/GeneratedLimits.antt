-- A generated script keeps the limits of scripts.
use Rattle.std.proofs.Common.{◌≡◌, ℕ, zero, suc, ◌+◌, ◌-◌, ◌≤◌, ◌%◌, Bool, true, false, List, [], ◌∷◌, ◌++◌, length, cond, refl, arith}
use Rattle.std.specs.Prelude.{◌==◌, ◌&&◌, All, not}
use Rattle.std.specs.List.{AllByRecursion, IsDistinct, flat_map, list_all}
use Rattle.std.specs.Str.{bytes_eq}
use Rattle.std.proofs.lemmas.Bool.{and_parts}
use Rattle.std.proofs.lemmas.Bool.Decides.{nat_tests}
use Rattle.kms_model.specs.declared.scripts.Command.{Command}
use Rattle.kms_model.specs.Device.Sound.{HasPlaneKind, IsDevice}
use Rattle.kms_model.specs.Script.Generated.{Drawn, commands_for, drawn_from, flip, flips_of, generated, generated_device, next_number}
use Rattle.kms_model.specs.Script.WellFormed.{IsFitClient, IsFitCommand}
use Rattle.kms_words.specs.Fitting.{KeepsLimits}

-- How many commands there are

abbrev is_turn : ℕ → ℕ → Bool
is_turn crtc index = (index - 1) % 2 == crtc

-- after a client's turn it is another's
other_turn : (crtc index : ℕ) → 1 ≤ index → is_turn crtc index ≡ true → is_turn crtc (index + 1) ≡ false
other_turn crtc index low turn = grind (arith, nat_tests)

one_more : (t : Bool) (k n : ℕ) → k ≤ n + cond t 1 0 → k ≤ n + 1
one_more true k n le = le
one_more false k n le = omega (arith, le)

-- two commands for every other commit
count : (mine : Bool) (crtc index x n : ℕ) → 1 ≤ index → is_turn crtc index ≡ mine
    → length (flat_map (flips_of crtc) (drawn_from index x n)) ≤ n + cond mine 1 0
unfolding drawn_from
count mine crtc index x zero low turn = omega arith
count true crtc index x (suc n) low turn =
    let later = flat_map (flips_of crtc) (drawn_from (index + 1) (next_number x) n) in
    let rest : length later ≤ n + 0 = count false crtc (index + 1) (next_number x) n (omega arith) (other_turn crtc index low turn) in
    rw turn (omega (arith, rest))
count false crtc index x (suc n) low turn =
    let next = is_turn crtc (index + 1) in
    let rest = one_more next _ n (count next crtc (index + 1) (next_number x) n (omega arith) refl) in
    rw turn (omega (arith, rest))

pub few_flips : (crtc seed n : ℕ) → length (flat_map (flips_of crtc) (drawn_from 1 seed n)) ≤ n + 1
few_flips crtc seed n = one_more (is_turn crtc 1) _ n (count (is_turn crtc 1) crtc 1 seed n (omega arith) refl)

-- The numbers of commits

pub indexes_fit : (index x n : ℕ) → index + n ≤ 18446744073709551615
    → AllByRecursion (λ d. d.index ≤ 18446744073709551615) (drawn_from index x n)
unfolding drawn_from
indexes_fit index x zero le = tt
indexes_fit index x (suc n) le = (omega (arith, le), indexes_fit (index + 1) (next_number x) n (omega (arith, le)))

-- Commands

flip_fits : (mine : Bool) (crtc : ℕ) (d : Drawn) (rest : List Command) → AllByRecursion IsFitCommand rest
    → AllByRecursion IsFitCommand (cond mine (flip crtc d) [] ++ rest)
flip_fits true crtc d rest fit = (omega arith, (tt, fit))
flip_fits false crtc d rest fit = fit

flips_fit : (crtc : ℕ) (drawn : List Drawn) → AllByRecursion IsFitCommand (flat_map (flips_of crtc) drawn)
flips_fit crtc [] = tt
flips_fit crtc (d ∷ ds) = flip_fits ((d.index - 1) % 2 == crtc) crtc d _ (flips_fit crtc ds)

client_fits : (crtc seed n : ℕ) → n ≤ 4000 → IsFitClient (commands_for (drawn_from 1 seed n) crtc)
client_fits crtc seed n le = record {
  few = omega (arith, le, few_flips crtc seed n);
  fit = (tt, (tt, (tt, (tt, (tt, (omega arith, flips_fit crtc (drawn_from 1 seed n)))))));
}

-- Names

abbrev are_apart : List (List ℕ) → Bool
are_apart [] = true
are_apart (w ∷ ws) = list_all (λ v. not (bytes_eq w v)) ws && are_apart ws

apart_from : (w : List ℕ) (ws : List (List ℕ)) → list_all (λ v. not (bytes_eq w v)) ws ≡ true
    → AllByRecursion (λ v. bytes_eq w v ≡ false) ws
apart_from w [] all = tt
apart_from w (v ∷ vs) all = let p = and_parts (not (bytes_eq w v)) _ all in (differs (bytes_eq w v) p.0, apart_from w vs p.1)
  where
    differs : (t : Bool) → not t ≡ true → t ≡ false
    differs true e = absurd cc
    differs false e = refl

distinct : (ws : List (List ℕ)) → are_apart ws ≡ true → IsDistinct bytes_eq ws
unfolding IsDistinct
distinct [] all = tt
distinct (w ∷ ws) all = let p = and_parts (list_all (λ v. not (bytes_eq w v)) ws) (are_apart ws) all
    in (apart_from w ws p.0, distinct ws p.1)

-- The device

device : IsDevice generated_device
device = record { profile = refl; legal = refl; kinds = kinds }
  where
    kinds : All HasPlaneKind generated_device.planes
    kinds zero d lt = omega arith
    kinds (suc zero) d lt = omega arith
    kinds (suc (suc k)) d lt = absurd (omega (arith, lt))

pub generated_limits : (seed n : ℕ) → n ≤ 4000 → KeepsLimits (generated seed n)
generated_limits seed n le = record {
  device = device;
  few = omega arith;
  clients = (client_fits 0 seed n le, (client_fits 1 seed n le, tt));
  version = refl;
  differ = distinct (generated seed n).names refl;
}
