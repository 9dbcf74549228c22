use Rattle.std.proofs.Common.{◌≡◌, replicate}
use Rattle.kms_signal.specs.Queues.{empty_queue}
use Rattle.kms_core.proofs.stores.empty_queues.Given as goal

abbrev pub invariant-loop-client : goal.invariant-loop-client
invariant-loop-client l = l.queues.items ≡ replicate l._client empty_queue
