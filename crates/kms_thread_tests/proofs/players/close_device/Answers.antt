use Rattle.std.proofs.Common.{rules}
use Rattle.kms_thread_tests.proofs.players.close_device.Goals as goal

pub close-requires-clause-first : goal.close-requires-clause-first
close-requires-clause-first g c = (0, c.args.passes.0, search rules, search rules, c.requires.passes.one_rank)
