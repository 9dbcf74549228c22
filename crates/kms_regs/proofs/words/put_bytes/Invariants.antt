use Rattle.std.proofs.Common.{◌≡◌, ◌*◌, length, take}
use Rattle.kms_model.specs.Machine.Registers.{bytes_of_words}
use Rattle.kms_regs.proofs.words.put_bytes.Given as goal

-- the bytes so far are those of the words so far
abbrev pub invariant-loop-i : goal.invariant-loop-i
invariant-loop-i l = record {
  long : length l.bytes ≡ length l.fn.bytes;
  so_far : take (4 * l.i) l.bytes ≡ bytes_of_words (take l.i l.words);
}
