use Rattle.std.proofs.Common.{◌≡◌, ◌≤◌, ◌*◌, length}
use Rattle.std.specs.List.{flat_map, range_with_len}
use Rattle.kms_model.specs.Machine.Histories.{read_by}
use Rattle.kms_core.specs.Run.{machine}
use Rattle.kms_run.proofs.generated.count_events_read.Given as goal

abbrev pub invariant-loop-client : goal.invariant-loop-client
invariant-loop-client l = record {
  counted : l.count ≡ length (flat_map (read_by (machine l.core)) (range_with_len 1 l.client));
  few : l.count ≤ 65536 * l.client;
}
