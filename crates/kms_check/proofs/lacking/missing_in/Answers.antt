use Rattle.std.proofs.Common.{◌<◌, arith, refl}
use Rattle.std.specs.Prelude.{◌&&◌, is_none}
use Rattle.kms_model.specs.Device.Masks.{has_bit, mask_below}
use Rattle.kms_check.proofs.LackingLemmas.{bit-more}
use Rattle.kms_model.specs.Device.Places.{state_at}
use Rattle.kms_check.proofs.lacking.missing_in.Goals as goal

pub loop-index-init : goal.loop-index-init
unfolding mask_below
loop-index-init g c = refl

pub loop-index-preserved : goal.loop-index-preserved
loop-index-preserved g c =
    let wide : c.loop-index.index < 32 = omega arith in
    rw (c.loop-index.invariant, c.bit_if-missing.ensures, c.is_not_duplicated.ensures)
    (bit-more (λ index. has_bit c.args.mask index && is_none (state_at c.args.states.now index)) c.loop-index.index wide)
