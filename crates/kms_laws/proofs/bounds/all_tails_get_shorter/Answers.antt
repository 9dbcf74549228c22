use Rattle.kms_model.specs.Machine.Histories.{at}
use Rattle.kms_laws.proofs.LeftInAll.{all_shorter, cleaned_over}
use Rattle.kms_laws.proofs.Modes.{plain-from}
use Rattle.kms_laws.proofs.Steps.{history_kept}
use Rattle.kms_laws.proofs.bounds.all_tails_get_shorter.Goals as goal

pub returns : goal.returns
returns c = record {
  all = λ s h formed is step legal_step. all_shorter s (at s h) (history_kept s h (plain-from s formed) is) step legal_step;
  cleaned = λ s h formed is k clean. cleaned_over s (at s h) k (history_kept s h (plain-from s formed) is) clean;
}
