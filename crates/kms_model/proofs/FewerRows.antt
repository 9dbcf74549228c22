-- Worked examples of inputs whose clients may have at most two commands, computed.
use Rattle.std.proofs.Common.{◌≡◌, ℕ, List, [], ◌∷◌, ◌++◌, map, refl, codes, Err}
use Rattle.kms_model.specs.declared.scripts.Why.{Why}
use Rattle.kms_model.specs.declared.scripts.Why.TheVariants.{Form, Label, Limit}
use Rattle.kms_model.specs.Script.FewerCommands.{input_within}
use Rattle.kms_model.specs.Script.InputLines.{Fault}
use Rattle.kms_model.specs.Script.WholeInput.{input}
use Rattle.kms_model.proofs.OnSuspending.{on_suspending}
use Rattle.kms_model.proofs.Rows.{head}

abbrev two_fences : List ℕ
two_fences = head ++ codes "client\nfence a\nfence b\n"

abbrev fault : ℕ → Why → Fault
fault line why = record { line = line; why = why }

-- of each client: also of one behind another
pub each_client_has_two_commands : input_within 2 (two_fences ++ codes "client\nfence c\nfence d\n")
    ≡ input (two_fences ++ codes "client\nfence c\nfence d\n")
unfolding on_suspending
each_client_has_two_commands = refl

pub third_command_is_a_fault : map (input_within 2) (
    -- one command too many, also where a later line has a fault
    (two_fences ++ codes "fence c\n")
    ∷ (two_fences ++ codes "fence c\nnonsense\n")
    -- form and label are told before it
    ∷ (two_fences ++ codes "fence c d\n")
    ∷ (two_fences ++ codes "fence a\n")
    -- a fault of an earlier line is told before it
    ∷ (head ++ codes "client\nfence a\nfence a\nfence c\n")
    -- a client behind another, and one before another
    ∷ (two_fences ++ codes "client\nfence c\nfence d\nfence e\n")
    ∷ (two_fences ++ codes "fence c\nclient\n")
    -- no device
    ∷ codes "kms 1\n"
    ∷ [])
    ≡ map Err (
    fault 8 Limit ∷ fault 8 Limit
    ∷ fault 8 Form ∷ fault 8 Label
    ∷ fault 7 Label
    ∷ fault 11 Limit ∷ fault 8 Limit
    ∷ fault 2 Form
    ∷ [])
unfolding on_suspending
third_command_is_a_fault = refl
