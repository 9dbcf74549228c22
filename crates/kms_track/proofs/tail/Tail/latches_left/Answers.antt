use Rattle.std.proofs.Common.{arith, sym}
use Rattle.kms_track.specs.Tails.{is_latch_left}
use Rattle.kms_track.proofs.Counts.{none_counted, one_counted, one_more_low}
use Rattle.kms_track.proofs.tail.Tail.latches_left.Goals as goal

pub loop-index-init : goal.loop-index-init
loop-index-init c = record { number = sym (none_counted (is_latch_left c.args.self.now)); low = omega arith }

pub loop-index-preserved : goal.loop-index-preserved
loop-index-preserved c = rw (c.one_if-left.ensures, c.is_latch_left.ensures) (record {
  number = one_counted (is_latch_left c.args.self.now) c.loop-index.index c.loop-index.left c.loop-index.invariant.number;
  low = one_more_low (is_latch_left c.args.self.now c.loop-index.index) c.loop-index.index c.loop-index.left c.loop-index.invariant.low;
})
