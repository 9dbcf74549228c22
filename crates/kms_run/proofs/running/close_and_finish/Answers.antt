use Rattle.kms_run.proofs.Seats.{all_count, all_first, all_own}
use Rattle.kms_run.proofs.running.close_and_finish.Goals as goal

pub close-core-requires-clause-own : goal.close-core-requires-clause-own
close-core-requires-clause-own c = all_own c.args.device c.args.passes c.requires.all

pub close-core-requires-clause-all : goal.close-core-requires-clause-all
close-core-requires-clause-all c = all_count c.args.device c.args.passes c.requires.all

pub close-core-requires-clause-first : goal.close-core-requires-clause-first
close-core-requires-clause-first c = all_first c.args.device c.args.passes c.requires.some c.requires.all
