use Rattle.std.proofs.Common.{◌++◌, ap, List, ℕ, length}
use Rattle.std.proofs.lemmas.List.{drop-replicate}
use Rattle.kms_words.proofs.modes.pad.Goals as goal

pub returns : goal.returns
returns c = rw c.copy_from_slice.ensures.after (ap (λ (xs : List ℕ). c.args.word.now ++ xs) (drop-replicate (length c.args.word.now) 32 0))
