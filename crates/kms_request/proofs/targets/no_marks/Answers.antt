use Rattle.kms_request.specs.Targets.{target_of}
use Rattle.kms_request.proofs.LastSets.{none_marked}
use Rattle.kms_request.proofs.targets.no_marks.Goals as goal

pub returns : goal.returns
returns c = λ b _. none_marked 560 (target_of b)
