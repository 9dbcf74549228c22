use Rattle.std.proofs.Common.{◌≡◌, ◌+◌, ◌*◌, ◌/◌, length, map, take}
use Rattle.std.specs.List.{range_with_len}
use Rattle.kms_model.specs.Device.ModeBytes.{two_at}
use Rattle.kms_blobs.proofs.gammas.channel_values.Given as goal

-- the values before the place are done
abbrev pub invariant-loop-value : goal.invariant-loop-value
invariant-loop-value l = record {
  size : length l.values ≡ 256;
  done : take l.value l.values ≡ map (λ value. two_at l.bytes (8 * value + 2 * l.channel) / 256) (range_with_len 0 l.value);
}
