use Rattle.kms_laws.proofs.NoFences.{generated_never_dead}
use Rattle.kms_laws.proofs.ends.generated_scripts_never_stall.Goals as goal

pub returns : goal.returns
returns c = generated_never_dead
