use Rattle.std.proofs.Common.{◌≡◌, [], ◌∷◌, ◌++◌, ◌∙◌, codes, rules}
use Rattle.std.specs.Fmt.{decimal}
use Rattle.std.specs.List.{flat_map}
use Rattle.kms_model.specs.Report.TextLines.{line}
use Rattle.kms_model.specs.Script.Spelling.{client_lines, device_lines, spelling, text_of}
use Rattle.kms_script.proofs.OneSpelling.{one_spelling, read_where_printed}
use Rattle.kms_script.proofs.Texts.{script_text}
use Rattle.kms_script.proofs.printing.print.Goals as goal

pub returns : goal.returns
returns c =
    let s = c.args.script.now in
    let first : c.push_numbered.new.text.items ≡ line (codes "kms" ∷ decimal s.version ∷ []) = search rules in
    let second : c.push_device.new.text.items ≡ c.push_numbered.new.text.items ++ text_of (device_lines s.topology) = search rules in
    let third : c.push_clients.new.text.items ≡ c.push_device.new.text.items
    ++ flat_map (λ commands. text_of (client_lines s.names commands)) s.clients = search rules in
    let whole : c.from_vec.result ≡ c.push_clients.new.text.items = search rules in
    let text : c.from_vec.result ≡ spelling s = whole ∙ script_text s _ _ _ first second third in record {
      text = text;
      one = λ bytes spells. text ∙ one_spelling bytes s spells;
      again = λ bytes spells short. read_where_printed c.from_vec.result bytes s text spells short;
    }
