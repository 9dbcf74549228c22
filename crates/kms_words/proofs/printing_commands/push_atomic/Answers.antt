use Rattle.std.proofs.Common.{◌≡◌, ◌∷◌, ◌++◌, codes, map, rules}
use Rattle.std.specs.Prelude.{OnOk}
use Rattle.std.specs.Fmt.{decimal}
use Rattle.kms_words.specs.Printed.{fields}
use Rattle.kms_model.specs.Script.Spelling.{assign_word, hex_word}
use Rattle.kms_words.proofs.Spaced.{atomic-added, fields-map}
use Rattle.kms_words.proofs.printing_commands.push_atomic.Goals as goal

pub returns : goal.returns
returns c =
    let names = c.args.names.now in
    let request = c.args.request.now in
    let flagged : c.push_hex.new.text.items ≡ c.args.text.now.items ++ codes "atomic " ++ hex_word request.flags = search rules in
    let numbered : c.push_number.new.text.items ≡ c.push_hex.new.text.items ++ 32 ∷ decimal request.user_data = search rules in
    let assigns : OnOk c.push_assigns.result (c.push_assigns.new.text.items ≡ c.push_number.new.text.items
    ++ fields (map (assign_word names) request.assigns)) =
    rw (fields-map (assign_word names) request.assigns) (search rules) in
    atomic-added c.push_assigns.result _ _ _ _ (hex_word request.flags) (decimal request.user_data) _ flagged numbered assigns
