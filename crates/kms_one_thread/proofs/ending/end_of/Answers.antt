use Rattle.kms_one_thread.proofs.Apart.{drained_alive}
use Rattle.kms_one_thread.proofs.ending.end_of.Goals as goal

pub returns-then-drained-clause-apart : goal.returns-then-drained-clause-apart
returns-then-drained-clause-apart c = drained_alive c.args.core.now.script c.args.core.now.steps c.is_a_history.ensures.formed
    c.is_a_history.ensures.history
