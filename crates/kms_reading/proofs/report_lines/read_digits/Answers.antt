use Rattle.std.proofs.Common.{◌≡◌, length, rules, sym, ◌∙◌}
use Rattle.kms_reading.proofs.SpeltDigests.{half-as_many}
use Rattle.kms_reading.proofs.report_lines.read_digits.Goals as goal

pub digest_of_bytes-requires : goal.digest_of_bytes-requires
digest_of_bytes-requires c =
    let size : length c.in-Some.bytes ≡ 32 =
    half-as_many c.args.word.now c.in-Some.bytes c.requires (sym c.in_ok-bytes.ensures ∙ c.in-Some.is) in
    search rules
