use Rattle.kms_model.proofs.ReachLaw.{reach-is}
use Rattle.kms_request.proofs.laws.reach_of_accepted_is_touched.Goals as goal

pub returns : goal.returns
returns c = reach-is
