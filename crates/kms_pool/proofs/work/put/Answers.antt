use Rattle.kms_pool.proofs.work.put.Goals as goal

pub try_push_as-requires-clause-rule : goal.try_push_as-requires-clause-rule
try_push_as-requires-clause-rule g c = let i = c.loop.invariant in rw (i.1.1, i.2, i.3) c.requires.rule
