use Rattle.std.proofs.Common.{sym}
use Rattle.kms_one_thread.proofs.Finishing.{ended}
use Rattle.kms_one_thread.proofs.rounds.end.Goals as goal

pub returns-in_ok-stall-clause-ended : goal.returns-in_ok-stall-clause-ended
returns-in_ok-stall-clause-ended c = ended c.args.core.now c.stall.new.self (sym c.if-legal.ensures) c.in_ok-stall.ensures.history
