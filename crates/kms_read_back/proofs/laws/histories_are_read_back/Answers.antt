use Rattle.kms_read_back.proofs.SeenFits.{text-read}
use Rattle.kms_read_back.proofs.laws.histories_are_read_back.Goals as goal

pub returns : goal.returns
returns c = λ s h formed is trace short. text-read s h trace formed is short
