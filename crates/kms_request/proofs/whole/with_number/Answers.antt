use Rattle.std.proofs.Common.{◌∙◌, ap, arith}
use Rattle.std.specs.Prelude.{not}
use Rattle.kms_model.proofs.MaskLemmas.{mask_more, mask_no_more}
use Rattle.kms_request.specs.Fences.{has_number_at}
use Rattle.kms_request.proofs.WholeLemmas.{no_mask}
use Rattle.kms_request.proofs.whole.with_number.Goals as goal

pub loop-index-init : goal.loop-index-init
loop-index-init c = no_mask (has_number_at c.args.numbers.now)

pub loop-index-preserved : goal.loop-index-preserved
loop-index-preserved c = rw c.loop-index.invariant
    (mask_more (has_number_at c.args.numbers.now) c.loop-index.index (omega arith) (c.is_none.ensures ∙ ap not c.if-is_none.false))

pub loop-index-preserved-then-is_none : goal.loop-index-preserved-then-is_none
loop-index-preserved-then-is_none c = c.loop-index.invariant ∙ mask_no_more (has_number_at c.args.numbers.now) c.loop-index.index
    (c.is_none.ensures ∙ ap not c.if-is_none.true)
