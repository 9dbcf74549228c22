use Rattle.std.proofs.Common.{◌≡◌, [], ◌∷◌, ◌++◌, None, Some, length, rules}
use Rattle.std.specs.BTreeMap as tree
use Rattle.std.specs.Cmp.Lexicographic.{slice_cmp}
use Rattle.std.specs.Ordering.{nat_cmp}
use Rattle.kms_words.specs.Numbered.{place_among}
use Rattle.kms_words.proofs.WordsNumbered.{numbered_last}
use Rattle.kms_words.proofs.numbering.Numbering.push.Goals as goal

pub invariant_of-self-in-Ok : goal.invariant_of-self-in-Ok
invariant_of-self-in-Ok c =
    let before = c.self.inside.words.items in
    let pushed : c.push.new.self.items ≡ before ++ c.args.word.now ∷ [] = search rules in
    let none : place_among c.args.word.now before ≡ None = rw c.self.view_is c.requires.new in
    let updates : tree.UpdatesBy (λ x y. slice_cmp nat_cmp x.items y.items) (λ k. slice_cmp nat_cmp c.in_ok-key.key.items k.items)
    c.self.inside.numbers c.insert.new.self (Some (length before)) = search rules in
    rw pushed (numbered_last before c.in_ok-key.key c.args.word.now c.self.inside.numbers c.insert.new.self c.self.invariant
    c.in_ok-key.ensures.items none updates)
