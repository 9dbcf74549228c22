use Rattle.std.proofs.Common.{◌≡◌, ◌∷◌, ◌++◌}
use Rattle.std.specs.Prelude.{OnOk}
use Rattle.std.specs.Fmt.{decimal}
use Rattle.std.specs.List.{flat_map}
use Rattle.kms_model.specs.Device.Modes.{mode_numbers}
use Rattle.kms_model.specs.Script.Words.{until}
use Rattle.kms_words.proofs.Spaced.{added, mode-fields}
use Rattle.kms_words.proofs.printing_commands.push_mode.Goals as goal

pub returns : goal.returns
returns c =
    let numbers : c.push_numbers.new.text.items ≡ c.args.text.now.items
    ++ flat_map (λ n. 32 ∷ decimal n) (mode_numbers c.args.mode.now) = rw c.mode_numbers.ensures at c.in_ok-push_numbers.ensures in
    let name : OnOk c.push_word.result (c.push_word.new.text.items ≡ c.push_numbers.new.text.items ++ 32 ∷ until 0 c.args.mode.now.name) =
    rw c.split_at_byte.ensures.front at c.push_word.ensures in
    added c.push_word.result _ _ _ _ _ _ numbers name (mode-fields c.args.mode.now)
