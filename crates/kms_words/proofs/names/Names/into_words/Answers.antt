use Rattle.std.proofs.Common.{ap, sym, ◌∙◌}
use Rattle.kms_model.specs.Script.CommandLines.{words_in}
use Rattle.kms_words.specs.Named.{is_in_numbers}
use Rattle.kms_words.proofs.Naming.{marked_words}
use Rattle.kms_words.proofs.names.Names.into_words.Goals as goal

pub returns-clause-words : goal.returns-clause-words
returns-clause-words c =
    c.into_words.ensures.words ∙ (sym (marked_words (is_in_numbers c.self.inside.made.keys) 0 c.self.inside.numbering) ∙ ap
    (λ h. words_in h.names) c.self.view_is)
