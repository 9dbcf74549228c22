use Rattle.std.proofs.Common.{arith}
use Rattle.std.proofs.lemmas.Int.{to_z-of_z}
use Rattle.kms_model.specs.Machine.Registers.{plane_in}
use Rattle.kms_regs.proofs.words.PlaneWords.source.Goals as goal

pub returns : goal.returns
unfolding plane_in
returns c = grind (arith, to_z-of_z)
