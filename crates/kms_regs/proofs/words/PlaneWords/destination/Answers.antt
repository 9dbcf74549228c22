use Rattle.std.proofs.Common.{arith}
use Rattle.std.proofs.lemmas.Int.{to_z-of_z}
use Rattle.kms_model.specs.Machine.Registers.{plane_in}
use Rattle.kms_regs.proofs.words.PlaneWords.destination.Goals as goal

pub returns-clause-dst : goal.returns-clause-dst
unfolding plane_in
returns-clause-dst c = grind (arith, to_z-of_z)
