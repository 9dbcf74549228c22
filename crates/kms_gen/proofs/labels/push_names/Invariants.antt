use Rattle.std.proofs.Common.{◌≡◌, [], ◌∷◌, ◌++◌, take, map, codes}
use Rattle.kms_gen.proofs.labels.push_names.Given as goal

abbrev pub invariant-loop-letter : goal.invariant-loop-letter
invariant-loop-letter l =
    l.names.items ≡ l.initial.names.items ++ map (λ letter. letter ∷ l.digit ∷ []) (take l.letter-index (codes "bfghm"))
