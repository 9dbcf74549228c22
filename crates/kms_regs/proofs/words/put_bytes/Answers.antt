-- The bytes of all words.
use Rattle.std.proofs.Common.{arith}
use Rattle.kms_regs.proofs.ModeWords.{all_bytes}
use Rattle.kms_regs.proofs.words.put_bytes.Goals as goal

pub returns : goal.returns
returns c = all_bytes c.loop-i.i c.loop-i.bytes c.args.words.now (omega arith) (omega (arith, c.requires, c.loop-i.invariant.long))
    c.loop-i.invariant.so_far
