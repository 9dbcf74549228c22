use Rattle.std.proofs.Common.{◌<◌, length, get_or, arith, ◌∙◌, length-set}
use Rattle.kms_track.specs.Places.{mask_has}
use Rattle.kms_track.specs.Tracking.{no_last, raised}
use Rattle.kms_track.proofs.Writes.{each_below, each_behind, raise_here}
use Rattle.kms_track.proofs.lasts.raise.Goals as goal

pub loop-place-preserved : goal.loop-place-preserved
loop-place-preserved c =
    let within : c.loop-place.place < length c.loop-place.last = omega (arith, c.loop-place.invariant.size, c.loop-place-test.true) in
    record {
      size = length-set _ _ _ ∙ c.loop-place.invariant.size;
      done = each_below (λ p. raised (get_or c.args.last.now p no_last) (mask_has c.args.touched.now p) c.args.commit) c.loop-place.last
          c.loop-place.place c.raise.result no_last within c.loop-place.invariant.done
          (raise_here c.loop-place.last c.args.last.now c.loop-place.place c.args.commit _ c.raise.result c.has_object.result
          (mask_has c.args.touched.now c.loop-place.place) within c.raise.ensures c.has_object.ensures
          (c.loop-place.invariant.left c.loop-place.place (omega arith)));
      left = each_behind (λ p. get_or c.args.last.now p no_last) c.loop-place.last c.loop-place.place c.raise.result no_last
          c.loop-place.invariant.left;
    }
