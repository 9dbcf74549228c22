use Rattle.std.proofs.Common.{◌≡◌, ℕ, Some, true, not, ap, sym, subst, cond, ◌∙◌}
use Rattle.std.specs.Ordering.{is_eq, nat_cmp}
use Rattle.kms_model.specs.Script.CommandLines.{place, saying}
use Rattle.kms_words.specs.Named.{is_in_numbers, NamesGrow}
use Rattle.kms_words.specs.Numbered.{place_among}
use Rattle.kms_words.proofs.Naming.{found_said, made_below, making_grows, making_said, names_of, number_below}
use Rattle.kms_words.proofs.names.Names.make.Goals as goal

pub invariant_of-self-2 : goal.invariant_of-self-2
invariant_of-self-2 c =
    let at = c.self.inside in
    let number = place c.args.word.now c.args.self.now.names in
    let said : names_of at.profile at.numbering at.made.keys at.count at.is_twice
    ≡ saying c.args.word.now c.args.self.now.names = ap (λ h. h.names) c.self.view_is ∙ c.in_ok-number.ensures.names in
    let found : place_among c.args.word.now at.numbering
    ≡ Some number = found_said at.profile c.args.word.now c.args.self.now.names at.numbering at.made.keys at.count at.is_twice said in
    let after : (m : ℕ) → is_in_numbers c.insert.new.self.keys m
    ≡ cond (is_eq (nat_cmp number m)) true (is_in_numbers at.made.keys m) = λ m. rw (← c.in_ok-number.ensures.number)
    (c.in_ok-is_new.ensures.updates.0 m) in
    record {
      below = made_below at.numbering number at.made.keys c.insert.new.self.keys
          (number_below c.args.word.now at.numbering number found) c.self.invariant.below after;
      before = c.self.invariant.before;
    }

pub returns-clause-names : goal.returns-clause-names
returns-clause-names c =
    let at = c.self.inside in
    let number = place c.args.word.now c.args.self.now.names in
    let said : names_of at.profile at.numbering at.made.keys at.count at.is_twice
    ≡ saying c.args.word.now c.args.self.now.names = ap (λ h. h.names) c.self.view_is ∙ c.in_ok-number.ensures.names in
    let after : (m : ℕ) → is_in_numbers c.insert.new.self.keys m
    ≡ cond (is_eq (nat_cmp number m)) true (is_in_numbers at.made.keys m) = λ m. rw (← c.in_ok-number.ensures.number)
    (c.in_ok-is_new.ensures.updates.0 m) in
    let new : c.in_ok-is_new.is_new ≡ not (is_in_numbers at.made.keys number) = rw (← c.in_ok-number.ensures.number)
    c.in_ok-is_new.ensures.added in
    making_said at.profile c.args.word.now c.args.self.now.names at.numbering at.made.keys c.insert.new.self.keys at.count at.is_twice
    c.in_ok-is_new.is_new said new after

pub returns-clause-grows : goal.returns-clause-grows
returns-clause-grows c =
    subst (λ n. NamesGrow c.args.self.now.names n 1) (sym (returns-clause-names c)) (making_grows c.args.word.now c.args.self.now.names)
