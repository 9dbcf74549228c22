use Rattle.kms_script.proofs.RequestsBack.{request_back}
use Rattle.kms_script.proofs.laws.requests_are_read_back.Goals as goal

pub returns : goal.returns
returns c = request_back
