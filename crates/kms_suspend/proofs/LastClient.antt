-- The commands of a script whose last client has more of them.
use Rattle.std.proofs.Common.{◌≡◌, ◌≢◌, ℕ, zero, suc, ◌+◌, List, [], ◌∷◌, ◌++◌, length, Some, refl, sym, ap, ◌∙◌, arith}
use Rattle.std.specs.Prelude.{max, slice_get}
use Rattle.kms_model.specs.declared.scripts.Command.{Command}
use Rattle.kms_model.specs.declared.scripts.Script.{Script}
use Rattle.kms_model.specs.Device.Serial.{command_of, from_one}
use Rattle.kms_model.specs.Script.Longer.{at_last, commands_of_last, last_client, with_commands}
use Rattle.kms_model.specs.Script.Words.{◌>>=◌}

-- by places, from 0 on

last_at : (more commands : List Command) (clients : List (List Command))
    → slice_get (at_last more (commands ∷ clients)) (length clients) ≡ Some (commands_of_last (commands ∷ clients) ++ more)
last_at more commands [] = refl
last_at more commands (next ∷ clients) = last_at more next clients

others_at : (more commands : List Command) (clients : List (List Command)) (i : ℕ) → i ≢ length clients
    → slice_get (at_last more (commands ∷ clients)) i ≡ slice_get (commands ∷ clients) i
others_at more commands [] zero ne = absurd (ne refl)
others_at more commands [] (suc i) ne = refl
others_at more commands (next ∷ clients) zero ne = refl
others_at more commands (next ∷ clients) (suc i) ne = others_at more next clients i (λ e. ne (ap suc e))

pub behind : {A : Type 0} (xs more : List A) (i : ℕ) → slice_get (xs ++ more) (length xs + i) ≡ slice_get more i
behind [] more i = let none : 0 + i ≡ i = omega arith in ap (slice_get more) none
behind (x ∷ xs) more i =
    let next : suc (length xs) + i ≡ suc (length xs + i) = omega arith in
    ap (slice_get (x ∷ (xs ++ more))) next ∙ behind xs more i

-- how many clients there are then
pub clients_more : (more : List Command) (clients : List (List Command)) → length (at_last more clients) ≡ max 1 (length clients)
clients_more more [] = refl
clients_more more (commands ∷ []) = refl
clients_more more (commands ∷ next ∷ clients) = let rest = clients_more more (next ∷ clients) in omega (arith, rest)

-- by numbers, from 1 on

pub one_or_more : (k : ℕ) → max 1 (suc k) ≡ suc k
one_or_more k = omega arith

pub last_commands : (more : List Command) (clients : List (List Command)) → from_one (at_last more clients) (max 1 (length clients)) ≡ Some
    (commands_of_last clients ++ more)
last_commands more [] = refl
last_commands more (commands ∷ clients) =
    ap (from_one (at_last more (commands ∷ clients))) (one_or_more (length clients)) ∙ last_at more commands clients

pub other_commands : (more : List Command) (clients : List (List Command)) (d : ℕ) → d ≢ max 1 (length clients)
    → from_one (at_last more clients) d ≡ from_one clients d
other_commands more clients zero ne = refl
other_commands more [] (suc zero) ne = absurd (ne refl)
other_commands more [] (suc (suc i)) ne = refl
other_commands more (commands ∷ clients) (suc i) ne =
    others_at more commands clients i (λ e. ne (ap suc e ∙ sym (one_or_more (length clients))))

-- the command with a number behind those that the last client had, counted from 1
pub added_command : (s : Script) (more : List Command) (i : ℕ)
    → command_of (with_commands more s)
    (record { client = last_client s; command = length (commands_of_last s.clients) + 1 + i }) ≡ slice_get more i
added_command s more i =
    let n = length (commands_of_last s.clients) in
    let number : n + 1 + i ≡ suc (n + i) = omega arith in
    ap (λ o. o >>= (λ commands. from_one commands (n + 1 + i))) (last_commands more s.clients)
    ∙ (ap (from_one (commands_of_last s.clients ++ more)) number ∙ behind (commands_of_last s.clients) more i)

-- other clients have the commands that they had
pub other_command : (s : Script) (more : List Command) (d number : ℕ) → d ≢ last_client s
    → command_of (with_commands more s) (record { client = d; command = number }) ≡ command_of s (record { client = d; command = number })
other_command s more d number ne = ap (λ o. o >>= (λ commands. from_one commands number)) (other_commands more s.clients d ne)
