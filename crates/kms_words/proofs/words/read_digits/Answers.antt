use Rattle.std.proofs.Common.{◌^◌, arith, refl, length-take, length-drop}
use Rattle.std.proofs.lemmas.Grind.{common_steps}
use Rattle.kms_words.proofs.Digits.{eight_fit, hex_fits, hex_small}
use Rattle.kms_words.proofs.words.read_digits.Goals as goal

pub overflow_mul-number : goal.overflow_mul-number
overflow_mul-number c = omega (
  arith,
  (hex_fits c.reading.number 0 (2 ^ 32) c.reading.rest.now c.in-len1-up.len_at_least (omega arith)
      c.reading.invariant.small).1,
)

pub overflow_add-number : goal.overflow_add-number
overflow_add-number c = omega (
  arith,
  (hex_fits c.reading.number c.hex_value-digit.result (2 ^ 32) c.reading.rest.now
      c.in-len1-up.len_at_least c.hex_value-digit.ensures.small c.reading.invariant.small).1,
)

pub reading-preserved : goal.reading-preserved
reading-preserved c = record {
  number = grind (arith, common_steps);
  digits = grind (arith, common_steps);
  small = hex_small c.reading.number c.hex_value-digit.result (2 ^ 32) c.reading.rest.now _ c.in-len1-up.len_at_least
      (simp (length-take, length-drop) (omega arith)) c.hex_value-digit.ensures.small c.reading.invariant.small;
}

pub reading-init : goal.reading-init
reading-init c = record { number = refl; digits = refl; small = eight_fit _ c.requires }
