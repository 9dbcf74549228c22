use Rattle.std.proofs.Common.{◌≡◌, ◌*◌, ℕ, length, ap, ◌∙◌, rules}
use Rattle.hex.specs.Hex.{encode_lower}
use Rattle.hex.proofs.HexLemmas.{length-encode_with}
use Rattle.kms_report.proofs.digest.Goals as goal

pub returns-clause-digits : goal.returns-clause-digits
returns-clause-digits c =
    let text : c.from_vec.result ≡ encode_lower c.as_slice-2.result.now = search rules in
    let bytes : length c.as_slice-2.result.now ≡ 32 = search rules in
    ap length text ∙ length-encode_with _ c.as_slice-2.result.now ∙ ap (λ (n : ℕ). 2 * n) bytes
