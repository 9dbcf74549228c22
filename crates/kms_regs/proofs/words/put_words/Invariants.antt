use Rattle.std.proofs.Common.{◌≡◌, ◌*◌, ◌++◌, length, take, drop}
use Rattle.kms_model.specs.Machine.Registers.{words_of_bytes}
use Rattle.kms_regs.proofs.words.put_words.Given as goal

-- the words so far, with those of the bytes that are left, are all words
abbrev pub invariant-loop-i : goal.invariant-loop-i
invariant-loop-i l = record {
  long : length l.words ≡ length l.fn.words;
  so_far : take l.i l.words ++ words_of_bytes (drop (4 * l.i) l.bytes) ≡ words_of_bytes l.bytes;
}
