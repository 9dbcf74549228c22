use Rattle.std.proofs.Common.{◌≡◌, None, length, ap, sym, subst, ◌∙◌, arith, rules}
use Rattle.kms_model.specs.Script.CommandLines.{place, saying}
use Rattle.kms_words.specs.Named.{is_in_numbers, NamesGrow}
use Rattle.kms_words.specs.Numbered.{place_among}
use Rattle.kms_words.proofs.Naming.{marked_length, names_of, place_found, place_new, saying_grows, saying_new, saying_there}
use Rattle.kms_words.proofs.names.Names.say.Goals as goal

pub returns-in-Some-clause-number : goal.returns-in-Some-clause-number
returns-in-Some-clause-number c =
    let at = c.self.inside in
    sym (place_found (is_in_numbers at.made.keys) c.args.word.now 0 at.numbering c.in-Some.number (sym c.in-Some.ensures)) ∙ ap
    (λ h. place c.args.word.now h.names) c.self.view_is

pub returns-in-Some-clause-names : goal.returns-in-Some-clause-names
returns-in-Some-clause-names c =
    let at = c.self.inside in
    sym (ap (λ h. h.names) c.self.view_is) ∙ (saying_there at.profile c.args.word.now at.numbering at.made.keys at.count at.is_twice
    c.in-Some.number (sym c.in-Some.ensures) ∙ ap (λ h. saying c.args.word.now h.names) c.self.view_is)

few : goal.push-requires-clause-few
few c =
    let at = c.self.inside in
    let count : length c.args.self.now.names.all ≡ length at.numbering = sym (ap (λ h. length h.names.all) c.self.view_is) ∙ marked_length
    (is_in_numbers at.made.keys) 0 at.numbering in
    omega (arith, count, c.requires.all)

pub overflow_cast-number : goal.overflow_cast-number
overflow_cast-number c =
    let at = c.self.inside in
    let count : length c.args.self.now.names.all ≡ length at.numbering = sym (ap (λ h. length h.names.all) c.self.view_is) ∙ marked_length
    (is_in_numbers at.made.keys) 0 at.numbering in
    omega (arith, count, c.requires.all, c.len-number.ensures)

pub push-requires-clause-few : goal.push-requires-clause-few
push-requires-clause-few c = few c

pub returns-clause-number : goal.returns-clause-number
returns-clause-number c =
    let at = c.self.inside in
    let none : place_among c.args.word.now at.numbering ≡ None = search rules in
    c.len-number.ensures ∙ (sym (place_new (is_in_numbers at.made.keys) c.args.word.now 0 at.numbering none) ∙ ap
    (λ h. place c.args.word.now h.names) c.self.view_is)

pub returns-clause-names : goal.returns-clause-names
returns-clause-names c =
    let at = c.self.inside in
    let none : place_among c.args.word.now at.numbering ≡ None = search rules in
    ap (λ ws. names_of at.profile ws at.made.keys at.count at.is_twice) c.in_ok-push.ensures.added
    ∙ (saying_new at.profile c.args.word.now at.numbering at.made.keys at.count at.is_twice none c.self.invariant.below ∙ ap
    (λ h. saying c.args.word.now h.names) c.self.view_is)

pub returns-clause-grows : goal.returns-clause-grows
returns-clause-grows c =
    let at = c.self.inside in
    let none : place_among c.args.word.now at.numbering ≡ None = search rules in
    let is : names_of at.profile c.push.new.self at.made.keys at.count at.is_twice ≡ saying c.args.word.now c.args.self.now.names =
    ap (λ ws. names_of at.profile ws at.made.keys at.count at.is_twice) c.in_ok-push.ensures.added
    ∙ (saying_new at.profile c.args.word.now at.numbering at.made.keys at.count at.is_twice none c.self.invariant.below ∙ ap
    (λ h. saying c.args.word.now h.names) c.self.view_is) in
    subst (λ n. NamesGrow c.args.self.now.names n 1) (sym is) (saying_grows c.args.word.now c.args.self.now.names)
