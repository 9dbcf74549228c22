use Rattle.std.proofs.Common.{◌≡◌, [], ◌∷◌, ◌++◌, None, subst, rules}
use Rattle.std.specs.BTreeMap as tree
use Rattle.std.specs.Cmp.Lexicographic.{slice_cmp}
use Rattle.std.specs.Ordering.{nat_cmp}
use Rattle.kms_words.specs.Numbered.{AreFound}
use Rattle.kms_words.proofs.WordsNumbered.{numbered_front}
use Rattle.kms_words.proofs.numbering.Numbering.drop_last.Goals as goal

pub invariant_of-self : goal.invariant_of-self
invariant_of-self c =
    let after = c.pop.new.self.items in
    let word = c.as_slice.result.now in
    let split : c.self.inside.words.items ≡ after ++ word ∷ [] = search rules in
    let is : AreFound (after ++ word ∷ []) c.self.inside.numbers.entries = subst (λ ws. AreFound ws c.self.inside.numbers.entries) split
    c.self.invariant in
    let updates : tree.UpdatesBy (λ x y. slice_cmp nat_cmp x.items y.items) (λ k. slice_cmp nat_cmp word k.items) c.self.inside.numbers
    c.remove.new.self None = search rules in
    numbered_front after word c.self.inside.numbers c.remove.new.self is updates
