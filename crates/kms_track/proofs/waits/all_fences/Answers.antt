use Rattle.std.proofs.Common.{◌<◌, length, None, Some, get_or, arith, ◌∙◌, length-set}
use Rattle.kms_track.proofs.FenceIds.{ids_at_places}
use Rattle.kms_track.proofs.Writes.{each_below, each_behind, fence_here}
use Rattle.kms_track.proofs.waits.all_fences.Goals as goal

pub loop-i-preserved : goal.loop-i-preserved
loop-i-preserved c =
    let within : c.loop-i.i < length c.loop-i.fences = omega (arith, c.requires, c.loop-i.invariant.size, c.loop-i-test.true) in
    record {
      size = length-set _ _ _ ∙ c.loop-i.invariant.size;
      here = λ k d up. each_below (λ p. Some (get_or c.args.in_fences.now p d).1) c.loop-i.fences c.loop-i.i _ None within
          (λ p less. c.loop-i.invariant.here p d less) (fence_here c.args.in_fences.now c.loop-i.i _ d c.loop-i-test.true) k up;
      behind = each_behind (λ p. None) c.loop-i.fences c.loop-i.i _ None c.loop-i.invariant.behind;
    }

pub returns : goal.returns
returns c =
    ids_at_places c.loop-i.fences c.args.in_fences.now
    (λ k d within. c.loop-i.invariant.here k d (omega (arith, within, c.loop-i-test.false)))
    (λ k from. c.loop-i.invariant.behind k (omega (arith, from, c.loop-i.auto.i-end)))
