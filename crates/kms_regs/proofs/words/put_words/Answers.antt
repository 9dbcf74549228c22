-- The words of the bytes so far, and of all bytes.
use Rattle.std.proofs.Common.{arith, rules}
use Rattle.kms_regs.proofs.ModeWords.{all_words, more_words}
use Rattle.kms_regs.proofs.words.put_words.Goals as goal

pub loop-i-preserved : goal.loop-i-preserved
loop-i-preserved c = record {
  long = search rules;
  so_far = more_words c.args.bytes.now c.loop-i.words c.loop-i.i c.from_le_bytes.result (omega (arith, c.requires, c.loop-i.invariant.long))
      (omega (arith, c.loop-i.invariant.long)) c.from_le_bytes.ensures c.loop-i.invariant.so_far;
}

pub returns : goal.returns
returns c = all_words c.loop-i.i c.args.bytes.now c.loop-i.words (omega (arith, c.loop-i.invariant.long))
    (omega (arith, c.requires, c.loop-i.invariant.long)) c.loop-i.invariant.so_far
