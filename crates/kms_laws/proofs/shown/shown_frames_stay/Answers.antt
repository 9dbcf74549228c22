use Rattle.kms_laws.proofs.ShownStays.{frames-stay}
use Rattle.kms_laws.proofs.shown.shown_frames_stay.Goals as goal

pub returns : goal.returns
returns c = frames-stay
