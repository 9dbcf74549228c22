-- The replies of a script are the answer to an input that spells it.
use Rattle.std.proofs.Common.{◌≡◌, ℕ, List, Ok}
use Rattle.kms_model.specs.Script.Schedules.{Parts, input_of}
use Rattle.kms_model.specs.declared.scripts.Part.TheVariants as part
use Rattle.kms_one_thread.specs.declared.ending.End.{End}
use Rattle.kms_c.specs.Answered.{AreVerdicts, AreVerdictsOf}

pub are_verdicts : (ended : End) (input output : List ℕ) (parts : Parts) → input_of part.Script input ≡ Ok parts
    → AreVerdictsOf parts.script ended output → AreVerdicts ended input output
are_verdicts ended input output parts spelled told = record { parts = parts; spelled = spelled; verdicts = told }
