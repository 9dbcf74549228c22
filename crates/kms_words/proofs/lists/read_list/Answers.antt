use Rattle.std.proofs.Common.{◌∙◌, arith}
use Rattle.kms_words.specs.Listed.{bit_of, bit_count}
use Rattle.kms_words.proofs.Parts.{part_is_none, part_is_low, part_is_last, part_has_more, mask_grows, mask_is_below}
use Rattle.kms_words.proofs.lists.read_list.Goals as goal

pub returns-in_err-bit-clause-value : goal.returns-in_err-bit-clause-value
returns-in_err-bit-clause-value c = rw c.from_residual.ensures
    (part_is_none (bit_of c.args.listed) c.parts.mask c.parts.low c.parts.rest.now c.split_at_byte.result.0.now
    c.split_at_byte.ensures.front c.in_err-bit.ensures.value ∙ c.parts.invariant.read)

pub returns-then-bit-low-clause-value : goal.returns-then-bit-low-clause-value
returns-then-bit-low-clause-value c = part_is_low (bit_of c.args.listed) c.parts.mask c.parts.low c.in_ok-bit.bit c.parts.rest.now
    c.split_at_byte.result.0.now c.split_at_byte.ensures.front c.in_ok-bit.ensures.value c.if-bit-low.true ∙ c.parts.invariant.read

pub returns-in_default-clause-value : goal.returns-in_default-clause-value
returns-in_default-clause-value c = rw c.mask_of-mask.ensures
    (part_is_last (bit_of c.args.listed) c.parts.mask c.parts.low c.in_ok-bit.bit c.parts.rest.now c.split_at_byte.result.0.now
    c.split_at_byte.result.1.now c.split_at_byte.ensures.front c.split_at_byte.ensures.back c.in_ok-bit.ensures.value c.if-bit-low.false
    c.in_default.len_below ∙ c.parts.invariant.read)

pub parts-preserved : goal.parts-preserved
parts-preserved c = record {
  read = rw c.mask_of-mask.ensures (part_has_more (bit_of c.args.listed) c.parts.mask c.parts.low c.in_ok-bit.bit c.parts.rest.now
      c.split_at_byte.result.0.now c.split_at_byte.result.1.now c.split_at_byte.ensures.front c.split_at_byte.ensures.back
      c.in_ok-bit.ensures.value c.if-bit-low.false c.in-len1-up.len_at_least ∙ c.parts.invariant.read);
  mask = rw c.mask_of-mask.ensures (mask_grows c.parts.mask c.parts.low c.in_ok-bit.bit c.parts.invariant.mask c.if-bit-low.false);
  low = omega (arith, c.in_ok-bit.ensures.most);
  below = omega (arith, c.in_ok-bit.ensures.below);
}

pub returns-in_default-clause-below : goal.returns-in_default-clause-below
returns-in_default-clause-below c = rw c.mask_of-mask.ensures
    (mask_is_below c.parts.mask c.parts.low c.in_ok-bit.bit (bit_count c.args.listed) c.parts.invariant.mask c.if-bit-low.false
    c.in_ok-bit.ensures.below)
