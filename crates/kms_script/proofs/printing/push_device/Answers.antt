use Rattle.std.proofs.Common.{◌≡◌, [], ◌∷◌, ◌++◌, codes, rules}
use Rattle.std.specs.Prelude.{OnOk}
use Rattle.std.specs.Fmt.{decimal}
use Rattle.std.specs.List.{flat_map}
use Rattle.kms_model.specs.Report.TextLines.{line}
use Rattle.kms_model.specs.Script.Spelling.{conn_words, spelt_plane}
use Rattle.kms_script.proofs.Texts.{device_added}
use Rattle.kms_script.proofs.printing.push_device.Goals as goal

pub returns : goal.returns
returns c =
    let t = c.args.device.now in
    let first : c.push_numbered.new.text.items ≡ c.args.text.now.items ++ line (codes "crtcs" ∷ decimal t.crtcs ∷ []) = search rules in
    let second : c.push_planes.new.text.items ≡ c.push_numbered.new.text.items
    ++ flat_map (λ p. line (spelt_plane p)) t.planes = search rules in
    let third : OnOk c.push_conns.result (c.push_conns.new.text.items ≡ c.push_planes.new.text.items
    ++ flat_map (λ mask. line (conn_words mask)) t.conns) = search rules in
    device_added c.push_conns.result _ _ _ _ t first second third
