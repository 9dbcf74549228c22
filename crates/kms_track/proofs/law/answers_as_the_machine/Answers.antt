use Rattle.kms_model.specs.Machine.Commits.{waited_fences}
use Rattle.kms_model.proofs.Items.{list_all-at}
use Rattle.kms_signal.specs.FenceSets.{is_made}
use Rattle.kms_track.proofs.MachineAnswers.{busy_machine, cleaned_machine, ready_machine}
use Rattle.kms_track.proofs.NotYetAnswers.{awaited_told, not_yet_machine}
use Rattle.kms_track.proofs.law.answers_as_the_machine.Goals as goal

pub returns : goal.returns
returns c = record {
  ready = λ t m v fences k stands limits stand made.
      ready_machine t m v stands limits fences k
      (λ id there. stand.same id (list_all-at (is_made fences) (waited_fences t m.device.commits k) id made there));
  is_cleaned = cleaned_machine;
  busy = busy_machine;
  not_yet = awaited_told;
  is_ready = not_yet_machine;
}
