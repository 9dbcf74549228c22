use Rattle.std.proofs.Common.{arith}
use Rattle.std.proofs.lemmas.Int.{to_z-of_z}
use Rattle.kms_model.specs.Machine.Registers.{plane_in}
use Rattle.kms_regs.proofs.words.PlaneWords.state.Goals as goal

pub returns-clause-state : goal.returns-clause-state
unfolding plane_in
returns-clause-state c = grind (arith, to_z-of_z)
