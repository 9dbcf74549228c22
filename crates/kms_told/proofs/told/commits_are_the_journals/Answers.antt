use Rattle.kms_laws.proofs.Modes.{plain-from}
use Rattle.kms_told.proofs.JournalCommits.{history_commits}
use Rattle.kms_told.proofs.told.commits_are_the_journals.Goals as goal

pub returns : goal.returns
returns c = λ s h formed is. history_commits s h (plain-from s formed) is
