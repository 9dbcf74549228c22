-- The digits of the bytes so far were added.
use Rattle.std.proofs.Common.{◌≡◌, ◌++◌, take}
use Rattle.kms_model.specs.Script.Spelling.{blob_word}
use Rattle.kms_words.proofs.printing_words.push_blob.Given as goal

abbrev pub invariant-loop-byte : goal.invariant-loop-byte
invariant-loop-byte l = l.text.items ≡ l.initial.text.items ++ blob_word (take l.byte-index l.bytes)
