use Rattle.std.proofs.Common.{arith, sym}
use Rattle.kms_track.specs.Tails.{is_left}
use Rattle.kms_track.proofs.Counts.{none_counted, one_counted, one_more_low}
use Rattle.kms_track.proofs.progress.count_left.Goals as goal

pub loop-index-init : goal.loop-index-init
loop-index-init c = record { number = sym (none_counted (is_left c.args.asked c.args.over)); low = omega arith }

pub loop-index-preserved : goal.loop-index-preserved
loop-index-preserved c = rw (c.one_if-left.ensures, c.is_left.ensures) (record {
  number = one_counted (is_left c.args.asked c.args.over) c.loop-index.index c.loop-index.left c.loop-index.invariant.number;
  low = one_more_low (is_left c.args.asked c.args.over c.loop-index.index) c.loop-index.index c.loop-index.left c.loop-index.invariant.low;
})
