use Rattle.std.proofs.Common.{ap, ◌∙◌}
use Rattle.kms_words.specs.Named.{kept}
use Rattle.kms_words.proofs.Naming.{held_kept}
use Rattle.kms_words.proofs.names.Names.undo.Goals as goal

pub returns : goal.returns
returns c = rw (c.shorten.ensures, c.new.ensures.empty)
    (held_kept c.self.inside.profile c.self.inside.before c.self.inside.numbering ∙ ap (λ h. kept h.before.profile h.before.words)
    c.self.view_is)
