use Rattle.kms_model.specs.Device.Execution.{execute}
use Rattle.kms_model.proofs.SoundKept.{execution_keeps_lawful}
use Rattle.kms_picture.proofs.Unscaled.{each_unscaled}
use Rattle.kms_picture.proofs.law.profile_1_scales_nothing.Goals as goal

pub returns-clause-before : goal.returns-clause-before
returns-clause-before c = each_unscaled

pub returns-clause-after : goal.returns-clause-after
returns-clause-after c = λ t w client command one lawful. each_unscaled t (execute t w client command).world one
    (execution_keeps_lawful t w client command lawful).sound
