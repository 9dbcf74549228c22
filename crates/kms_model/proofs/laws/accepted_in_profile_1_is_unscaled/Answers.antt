use Rattle.kms_model.proofs.SourcePlaces.{shows_unscaled}
use Rattle.kms_model.proofs.laws.accepted_in_profile_1_is_unscaled.Goals as goal

pub returns : goal.returns
returns c = shows_unscaled
