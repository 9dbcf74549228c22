-- That all L lines are met.
use Rattle.std.specs.Prelude.{◌≡◌, [], None}
use Rattle.kms_audit.specs.declared.latches.Showing.{Showing}
use Rattle.kms_audit.specs.Latching.{AreTracks}
use Rattle.kms_model.specs.declared.reports.Report.{Report}
use Rattle.kms_model.specs.declared.scripts.Script.{Script}
use Rattle.kms_model.specs.Report.Right.{latch_is_right, latches_in}
use Rattle.kms_model.specs.Report.RightAnswers.{entries_in, first_off}

-- L lines are right, and these are the tracks of what is shown
pub record AllIsTold (s : Script) (r : Report) (showing : Showing) : Type 0 where
  pub latches : first_off (latch_is_right s r) [] (latches_in r) ≡ None
  pub tracks : AreTracks s r (entries_in r) showing
