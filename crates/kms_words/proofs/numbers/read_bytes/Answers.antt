use Rattle.std.proofs.Common.{◌∙◌, ap, sym}
use Rattle.kms_words.proofs.Loops.{joined, next_pair, no_pair, all_pairs, odd_digit}
use Rattle.kms_words.proofs.numbers.read_bytes.Goals as goal

pub returns-in_default-read_pair : goal.returns-in_default-read_pair
returns-in_default-read_pair c =
    ap (joined c.reading.bytes) (no_pair c.reading.rest.now c.in-len2-up.len_at_least c.in_default-read_pair.ensures) ∙ c.reading.invariant

pub reading-preserved : goal.reading-preserved
reading-preserved c = rw c.in_ok-push.ensures.ok
    (sym (next_pair c.reading.bytes c.reading.rest.now c.in-Some.byte c.in-len2-up.len_at_least c.in-Some.ensures) ∙ c.reading.invariant)

pub returns-in-empty : goal.returns-in-empty
returns-in-empty c = all_pairs c.reading.bytes c.reading.rest.now c.in-empty.len_below ∙ c.reading.invariant

pub returns-in-len1-up : goal.returns-in-len1-up
returns-in-len1-up c =
    ap (joined c.reading.bytes) (odd_digit c.reading.rest.now c.in-len1-up.len_at_least c.in_default.len_below) ∙ c.reading.invariant
