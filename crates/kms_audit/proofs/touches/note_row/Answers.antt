use Rattle.std.proofs.Common.{◌≡◌, None, arith, rules, slice_index_or}
use Rattle.kms_audit.proofs.Noting.{note-first, note-next}
use Rattle.kms_audit.specs.Touching.{noted}
use Rattle.kms_model.specs.Device.Masks.{has_bit}
use Rattle.kms_audit.proofs.touches.note_row.Goals as goal

pub loop-index-init : goal.loop-index-init
loop-index-init c = note-first c.args.row.now c.args.touched c.args.commit

pub loop-index-preserved : goal.loop-index-preserved
loop-index-preserved c =
    let is : c.touch.result ≡ noted (slice_index_or c.loop-index.row c.loop-index.index None)
    (has_bit c.args.touched c.loop-index.index) c.args.commit = search rules in
    note-next c.args.row.now c.loop-index.row c.loop-index.index c.args.touched c.args.commit c.touch.result c.loop-index.invariant
    (omega (arith, c.loop-index.invariant.size)) is

pub returns : goal.returns
returns c = λ i few. c.loop-index.invariant.done i (omega (arith, few, c.loop-index.invariant.size))
