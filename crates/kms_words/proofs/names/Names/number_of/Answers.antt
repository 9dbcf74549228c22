use Rattle.std.proofs.Common.{◌≡◌, None, length, ap, sym, ◌∙◌, arith, rules}
use Rattle.std.specs.List.{position_or_len}
use Rattle.std.specs.Str.{bytes_eq}
use Rattle.kms_model.specs.Script.CommandLines.{words_in}
use Rattle.kms_words.specs.Named.{is_in_numbers}
use Rattle.kms_words.specs.Numbered.{place_among}
use Rattle.kms_words.proofs.Naming.{marked_length, marked_words, position_found, position_new}
use Rattle.kms_words.proofs.names.Names.number_of.Goals as goal

pub returns-in-Some : goal.returns-in-Some
returns-in-Some c =
    let at = c.self.inside in
    let words : words_in c.args.self.now.names ≡ at.numbering = sym (ap (λ h. words_in h.names) c.self.view_is) ∙ marked_words
    (is_in_numbers at.made.keys) 0 at.numbering in
    sym (position_found c.args.word.now at.numbering c.in-Some.number (sym c.in-Some.ensures)) ∙ ap
    (position_or_len (bytes_eq c.args.word.now)) (sym words)

pub overflow_cast-result : goal.overflow_cast-result
overflow_cast-result c =
    let at = c.self.inside in
    let count : length c.args.self.now.names.all ≡ length at.numbering = sym (ap (λ h. length h.names.all) c.self.view_is) ∙ marked_length
    (is_in_numbers at.made.keys) 0 at.numbering in
    omega (arith, count, c.requires.all, c.len.ensures)

pub returns-in-None : goal.returns-in-None
returns-in-None c =
    let at = c.self.inside in
    let none : place_among c.args.word.now at.numbering ≡ None = search rules in
    let words : words_in c.args.self.now.names ≡ at.numbering = sym (ap (λ h. words_in h.names) c.self.view_is) ∙ marked_words
    (is_in_numbers at.made.keys) 0 at.numbering in
    c.len.ensures ∙ (sym (position_new c.args.word.now at.numbering none) ∙ ap (position_or_len (bytes_eq c.args.word.now)) (sym words))
