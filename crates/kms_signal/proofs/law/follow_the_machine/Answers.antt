use Rattle.kms_signal.proofs.StepLemmas.{fences_follow_others, fences_follow_refused_signal, fences_follow_signal, flush_follows}
use Rattle.kms_signal.proofs.StepLemmas.{flush_off_follows}
use Rattle.kms_signal.proofs.StepLemmas.{queues_follow_others, queues_follow_others_read, queues_follow_others_swap, queues_follow_read}
use Rattle.kms_signal.proofs.StepLemmas.{queues_follow_swap, vblank_follows, vblank_with_go_follows}
use Rattle.kms_signal.proofs.law.follow_the_machine.Goals as goal

pub returns : goal.returns
returns c = record {
  signal = fences_follow_signal;
  refused_signal = fences_follow_refused_signal;
  fences = fences_follow_others;
  swap = queues_follow_swap;
  others_swap = queues_follow_others_swap;
  read = queues_follow_read;
  others_read = queues_follow_others_read;
  queues = queues_follow_others;
  flush = flush_follows;
  flush_off = flush_off_follows;
  vblank = vblank_follows;
  vblank_with_go = vblank_with_go_follows;
}
