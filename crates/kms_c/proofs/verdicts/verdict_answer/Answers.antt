use Rattle.std.proofs.Common.{rules}
use Rattle.kms_script.specs.Stated.{parts_in}
use Rattle.kms_c.proofs.Replied.{are_verdicts}
use Rattle.kms_c.proofs.verdicts.verdict_answer.Goals as goal

pub returns : goal.returns
returns c = are_verdicts _ _ _ (parts_in c.in_ok-parsed.parsed) (search rules) (search rules)
