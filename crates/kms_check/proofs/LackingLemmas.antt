-- What is lacking of a set, as a loop finds it.
use Rattle.std.proofs.Common.{◌≡◌, ◌∙◌, ℕ, ◌+◌, ◌^◌, ◌<◌, cond, Bool, true, false, refl, sym, ap}
use Rattle.std.specs.Prelude.{bit_or}
use Rattle.std.specs.Int.Bits.{or_zero_r}
use Rattle.std.proofs.lemmas.Nat.{one_shl}
use Rattle.kms_model.specs.Device.Masks.{mask_below}
use Rattle.kms_model.proofs.MaskLemmas.{mask_more, mask_no_more}

-- one bit more of a mask
pub bit-more : (test : ℕ → Bool) (n : ℕ) → n < 32 → bit_or (mask_below test n) (cond (test n) (2 ^ n) 0) ≡ mask_below test (n + 1)
bit-more test n wide = go (test n) refl
  where
    go : (b : Bool) → test n ≡ b → bit_or (mask_below test n) (cond b (2 ^ n) 0) ≡ mask_below test (n + 1)
    go true is = ap (bit_or (mask_below test n)) (sym (one_shl n 32 wide)) ∙ mask_more test n wide is
    go false is = or_zero_r (mask_below test n) ∙ mask_no_more test n is
