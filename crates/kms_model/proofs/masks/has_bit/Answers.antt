use Rattle.std.proofs.Common.{◌<◌, ◌^◌, ◌∙◌, false, sym, arith}
use Rattle.std.proofs.lemmas.Bool.{le-ltb}
use Rattle.std.proofs.lemmas.Nat.Bits.{bit_at_above}
use Rattle.kms_model.proofs.MaskLemmas.{has_bit-from}
use Rattle.kms_model.proofs.masks.has_bit.Goals as goal

pub returns-else-index-lt32 : goal.returns-else-index-lt32
returns-else-index-lt32 c =
    let less : c.args.mask < 2 ^ 32 = omega arith in
    le-ltb c.args.index 32 c.if-index-lt32.false ∙ sym
    (has_bit-from c.args.mask c.args.index false (bit_at_above c.args.mask 32 c.args.index less c.if-index-lt32.false))
