-- The history of a device, continued to its end.
use Rattle.std.proofs.Common.{◌≡◌, List, Result, Ok, Err, subst, sym, ◌∙◌}
use Rattle.std.specs.Prelude.{IfOk}
use Rattle.kms_model.specs.declared.copying.NoMemory.{NoMemory}
use Rattle.kms_model.specs.declared.scripts.Script.{Script}
use Rattle.kms_core.specs.Run.{Run}
use Rattle.kms_device.specs.Turns.{DevicePass, SharedDevice}
use Rattle.kms_laws.specs.Ends.{IsOver}
use Rattle.kms_run.specs.Answers.{IsContinued}
use Rattle.kms_run.specs.Running.{IsFinishedOf, IsRunOf}

-- it is a run of the device's script
pub run_of : (s : Script) (d : SharedDevice) (passes : List DevicePass) (result : Result Run NoMemory)
    → d.script ≡ s → IfOk result (IsFinishedOf d passes) → IfOk result (IsRunOf s)
run_of s d passes (Ok r) same f = record {
  script = f.script ∙ same;
  is_continued = subst (λ s. IsContinued s r.steps) (sym f.script)
      (record { left = f.left; is_history = f.is_history; is_finished = f.is_finished });
  is_over = subst (λ s. IsOver s r.steps) (sym f.script) f.is_over;
}
run_of s d passes (Err e) same f = tt
