-- The text of a report without pixmaps is right, where that of its history is.
use Rattle.std.proofs.Common.{◌≡◌, ℕ, List, Result, Ok, Err, ap, ◌∙◌}
use Rattle.std.specs.Prelude.{IfOk}
use Rattle.kms_model.specs.declared.replies.Step.{Step}
use Rattle.kms_model.specs.declared.scripts.Script.{Script}
use Rattle.kms_model.specs.Report.History.{text}
use Rattle.kms_model.specs.Report.Right.{wrong_line}
use Rattle.kms_report.specs.declared.histories.Options.{Options}
use Rattle.kms_report.specs.Right.{HasNoWrongLine, IsRight}
use Rattle.kms_report.specs.Telling.{history_options}

pub right-result : {E : Type 0} (s : Script) (h : List Step) (o : Options) (r : Result (List ℕ) E)
    → IfOk r (λ told. told ≡ text s h (history_options o)) → HasNoWrongLine s h → IfOk r (IsRight s o)
right-result s h o (Ok told) exact right = λ off.
    ap (wrong_line s) exact ∙ ((λ i. wrong_line s (text s h (record { trace = o.trace; ppm = off i }))) ∙ right o.trace)
right-result s h o (Err e) exact right = exact
