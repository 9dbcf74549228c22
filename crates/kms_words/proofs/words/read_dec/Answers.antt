use Rattle.std.proofs.Common.{sym, arith}
use Rattle.kms_words.proofs.Digits.{dec-too_large}
use Rattle.kms_words.proofs.words.read_dec.Goals as goal

pub returns-then-next-from-clause-value : goal.returns-then-next-from-clause-value
returns-then-next-from-clause-value c = sym (dec-too_large c.args.most c.reading.number c.reading.rest.now c.args.word.now
    c.in-len1-up-rest.len_at_least (omega arith) c.reading.invariant.number)
