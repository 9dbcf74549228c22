use Rattle.std.proofs.Common.{◌≡◌, ℕ, ◌≤◌, Result, Ok, Err}
use Rattle.std.specs.Prelude.{IfOk}
use Rattle.kms_model.specs.declared.scripts.Script.{Script}
use Rattle.kms_model.specs.Script.Generated.{generated}
use Rattle.kms_model.specs.Script.WellFormed.{IsWellFormed}
use Rattle.kms_script.proofs.GeneratedScripts.{is_formed}
use Rattle.kms_run.proofs.generated.asked_script.Goals as goal

formed_of : {E : Type 0} (r : Result Script E) (seed n : ℕ) → n ≤ 4000 → IfOk r (λ s. s ≡ generated seed n) → IfOk r IsWellFormed
formed_of (Ok s) seed n le same = is_formed seed n s le same
formed_of (Err e) seed n le same = same

pub returns-clause-formed : goal.returns-clause-formed
returns-clause-formed c = formed_of c.generate.result c.args.asks.now.seed c.args.asks.now.commits c.requires.few c.generate.ensures
