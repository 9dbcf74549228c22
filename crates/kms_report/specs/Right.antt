-- No line of a report is wrong.
use Rattle.std.specs.Prelude.{◌≡◌, ℕ, Bool, false, List, None}
use Rattle.kms_model.specs.declared.replies.Step.{Step}
use Rattle.kms_model.specs.declared.scripts.Script.{Script}
use Rattle.kms_model.specs.Report.History.{text}
use Rattle.kms_model.specs.Report.Right.{wrong_line}
use Rattle.kms_report.specs.declared.histories.Options.{Options}

-- the text of a history's report without pixmaps has no line that is wrong
abbrev pub HasNoWrongLine : Script → List Step → Type 0
HasNoWrongLine s h = (trace : Bool) → wrong_line s (text s h (record { trace = trace; ppm = false })) ≡ None

-- A report without pixmaps has no line that is wrong: each is read, and says what the device of one thread does.
abbrev pub IsRight : Script → Options → List ℕ → Type 0
IsRight s o text = o.ppm ≡ false → wrong_line s text ≡ None
