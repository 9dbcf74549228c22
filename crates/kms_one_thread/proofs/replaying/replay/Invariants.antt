use Rattle.std.proofs.Common.{◌≡◌}
use Rattle.kms_one_thread.proofs.Replayed.{IsReplaying}
use Rattle.kms_one_thread.proofs.replaying.replay.Given as goal

abbrev pub invariant-loop-step : goal.invariant-loop-step
invariant-loop-step l = record {
  counted : l.at ≡ l.step-index;
  replaying : IsReplaying l.fn.core l.core l.steps l.step-index;
}
