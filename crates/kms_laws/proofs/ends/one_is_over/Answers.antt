use Rattle.std.proofs.Common.{[]}
use Rattle.kms_laws.proofs.Modes.{plain-from}
use Rattle.kms_laws.proofs.Resting.{empty-history, finished-over}
use Rattle.kms_laws.proofs.ends.one_is_over.Goals as goal

pub returns : goal.returns
returns c = λ s h formed one. let over = finished-over s (plain-from s formed) [] h (empty-history s) one in (over.is_history, over.is_over)
