use Rattle.kms_model.proofs.ShownLemmas.{each_can_be_shown}
use Rattle.kms_model.proofs.shown.what_is_shown_can_be_composed.Goals as goal

pub returns : goal.returns
returns c = each_can_be_shown
