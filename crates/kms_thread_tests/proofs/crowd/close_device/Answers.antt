use Rattle.std.proofs.Common.{rules}
use Rattle.kms_thread_tests.proofs.crowd.close_device.Goals as goal

pub close-requires-clause-first : goal.close-requires-clause-first
close-requires-clause-first g c = (0, c.args.a.one, search rules, search rules, c.requires.first)
