use Rattle.std.proofs.Common.{refl}
use Rattle.kms_audit.proofs.KeptPictures.{kept-dark}
use Rattle.kms_audit.proofs.frames.KeptDigest.off.Goals as goal

pub returns : goal.returns
returns c = λ things. kept-dark things _ refl refl
