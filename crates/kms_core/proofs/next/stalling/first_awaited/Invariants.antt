-- the rest of the fences has the same first one
use Rattle.std.proofs.Common.{◌≡◌, drop}
use Rattle.std.specs.Prelude.{find}
use Rattle.kms_model.specs.Machine.Histories.{is_awaited}
use Rattle.kms_track.specs.Tails.{fence_ids}
use Rattle.kms_core.specs.Run.{machine}
use Rattle.kms_core.proofs.next.stalling.first_awaited.Given as goal

abbrev pub invariant-loop-fence : goal.invariant-loop-fence
invariant-loop-fence l = find (is_awaited (machine l.core)) (fence_ids (drop l.fence-index l.fences)) ≡ find
    (is_awaited (machine l.core)) (fence_ids l.fences)
