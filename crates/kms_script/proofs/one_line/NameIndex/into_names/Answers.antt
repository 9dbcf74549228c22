use Rattle.std.proofs.Common.{ap, ◌∙◌}
use Rattle.kms_model.specs.Script.CommandLines.{words_in}
use Rattle.kms_words.proofs.Naming.{words_unmade}
use Rattle.kms_script.proofs.one_line.NameIndex.into_names.Goals as goal

pub returns-clause-names : goal.returns-clause-names
returns-clause-names c = c.into_words.ensures.words ∙
    (ap (λ h. words_in h.names) c.self.invariant ∙
    (words_unmade c.self.inside.names.before.profile c.self.inside.names.before.words ∙ ap (λ i. i.words) c.self.view_is))
