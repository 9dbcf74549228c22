use Rattle.kms_signal.specs.Queues.{empty_queue}
use Rattle.kms_signal.proofs.Turns.{in_turn}
use Rattle.kms_signal.proofs.law.delivered_is_read_then_unread.Goals as goal

pub returns : goal.returns
returns c = λ calls. in_turn empty_queue calls
