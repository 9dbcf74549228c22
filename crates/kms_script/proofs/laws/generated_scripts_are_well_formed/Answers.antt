use Rattle.kms_script.proofs.GeneratedScripts.{generated_formed}
use Rattle.kms_script.proofs.laws.generated_scripts_are_well_formed.Goals as goal

pub returns : goal.returns
returns c = λ seed n below some few. generated_formed seed n few
