use Rattle.kms_laws.proofs.AnswersFollow.{answers-follow}
use Rattle.kms_laws.proofs.shown.answers_follow_commands.Goals as goal

pub returns : goal.returns
returns c = λ s h formed is client. answers-follow s h is client
