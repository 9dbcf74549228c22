use Rattle.kms_run.proofs.Replayed.{illegal_of}
use Rattle.kms_run.proofs.answers.replay_all.Goals as goal

pub returns-in-Err-Illegal-clause-stopped : goal.returns-in-Err-Illegal-clause-stopped
returns-in-Err-Illegal-clause-stopped c =
    illegal_of c.args.core.now c.replay.new.core c.args.schedule.now c.in-Err-Illegal.at c.in-Err-Illegal.field-0
    c.in-Err-Illegal.field-0-is c.requires c.in-Err-Illegal.ensures.stops
