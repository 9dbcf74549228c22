use Rattle.std.proofs.Common.{ap, ap₂, sym, ◌∙◌}
use Rattle.std.proofs.Math.Seq.{take-length}
use Rattle.kms_model.specs.Script.CommandLines.{words_in}
use Rattle.kms_words.specs.Named.{is_in_numbers, kept}
use Rattle.kms_words.proofs.Naming.{marked_words}
use Rattle.kms_words.proofs.names.Names.keep.Goals as goal

pub returns-clause-profile : goal.returns-clause-profile
returns-clause-profile c = ap (λ h. h.before.profile) c.undo.ensures ∙ ap (λ h. h.before.profile) c.self.view_is

pub returns-clause-names : goal.returns-clause-names
returns-clause-names c =
    c.undo.ensures ∙ ap₂ kept (ap (λ h. h.names.profile) c.self.view_is)
    (rw c.len-self-inside.ensures (take-length c.self.inside.numbering ∙
    (sym (marked_words (is_in_numbers c.self.inside.made.keys) 0 c.self.inside.numbering) ∙ ap (λ h. words_in h.names) c.self.view_is)))
