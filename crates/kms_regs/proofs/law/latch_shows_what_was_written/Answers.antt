use Rattle.std.proofs.Common.{◌∙◌}
use Rattle.kms_regs.proofs.LatchLaw.{leaves, shows}
use Rattle.kms_regs.proofs.WordsBack.{decoded_written}
use Rattle.kms_regs.proofs.law.latch_shows_what_was_written.Goals as goal

pub returns-clause-shows : goal.returns-clause-shows
returns-clause-shows c = shows

pub returns-clause-written : goal.returns-clause-written
returns-clause-written c =
    λ t shadow live crtc conn s state written. shows t shadow live crtc ∙ decoded_written written

pub returns-clause-others : goal.returns-clause-others
returns-clause-others c = leaves
