use Rattle.std.proofs.Common.{◌≡◌, [], true, ⊎_elim}
use Rattle.kms_model.specs.Machine.Histories.{at, is_drained}
use Rattle.kms_model.specs.Script.Generated.{generated}
use Rattle.kms_laws.proofs.Basics.{both_bools}
use Rattle.kms_laws.proofs.NoFences.{generated-plain, generated_never_dead}
use Rattle.kms_laws.proofs.Resting.{empty-history, finished-over}
use Rattle.kms_laws.proofs.ends.generated_scripts_drain.Goals as goal

pub returns : goal.returns
returns c = λ seed n h one.
    let over = finished-over (generated seed n) (generated-plain seed n) [] h (empty-history (generated seed n)) one in
    let drained : is_drained (generated seed n) (at (generated seed n) h) ≡ true =
    ⊎_elim (λ d. d) (λ dead. absurd (both_bools _ dead (generated_never_dead seed n h over.is_history))) over.is_over in
    (over.is_history, drained)
