use Rattle.kms_laws.proofs.Blankings.{counts_blankings}
use Rattle.kms_laws.proofs.bounds.counts_are_blankings.Goals as goal

pub returns : goal.returns
returns c = λ s h formed is crtc few. counts_blankings s h is crtc few
