-- ACTIVE of a CRTC of a lawful world is 0 or 1, and so it is told by whether the CRTC is on.
use Rattle.std.proofs.Common.{◌≡◌, ◌<◌, ◌≤◌, ℕ, zero, suc, Bool, true, false, cond, ℤ, pos, negsuc, refl, ap, arith}
use Rattle.std.proofs.lemmas.Bool.{and_parts, leb-true}
use Rattle.std.specs.Prelude.{◌&&◌, int_le, not}
use Rattle.std.specs.Ordering.{int_eq}
use Rattle.kms_model.specs.declared.objects.Kind.TheVariants as kind
use Rattle.kms_model.specs.declared.objects.Topology.{Topology}
use Rattle.kms_model.specs.declared.properties.TheConstants.{ACTIVE}
use Rattle.kms_model.specs.declared.worlds.World.{World}
use Rattle.kms_model.specs.Device.Objects.{object_id}
use Rattle.kms_model.specs.Device.Sound.{IsLawful, kept_properties}
use Rattle.kms_model.specs.Device.World.{value}
use Rattle.kms_model.specs.Request.Checks.{is_active}
use Rattle.kms_model.proofs.HeldValues.{all_held-from}
use Rattle.kms_model.proofs.Items.{ids-has}
use Rattle.kms_model.proofs.SeenLemmas.{row-at}

abbrev IsBit : ℤ → Type 0
IsBit z = (int_le (pos 0) z && int_le z (pos 1)) ≡ true

-- no number above 1 is
too_large : (k n : ℕ) → IsBit (pos (suc (suc n))) → k ≡ suc (suc n)
too_large k n is =
    let few : suc (suc n) ≤ 1 = leb-true (suc (suc n)) 1
    (and_parts (int_le (pos 0) (pos (suc (suc n)))) (int_le (pos (suc (suc n))) (pos 1)) is).1 in
    omega (arith, few)

bit_is : (z : ℤ) → IsBit z → (active : Bool) → not (int_eq z (pos 0)) ≡ active → cond active (pos 1) (pos 0) ≡ z
bit_is (pos zero) is true on = absurd cc
bit_is (pos zero) is false off = refl
bit_is (pos (suc zero)) is true on = refl
bit_is (pos (suc zero)) is false off = absurd cc
bit_is (pos (suc (suc n))) is true on = ap pos (too_large 1 n is)
bit_is (pos (suc (suc n))) is false off = ap pos (too_large 0 n is)
bit_is (negsuc n) is active same = absurd cc

module _ (t : Topology) (w : World) (lawful : IsLawful t w) (index : ℕ) (there : index < t.crtcs) where
  active_is_bit : IsBit (value w.values (object_id kind.Crtc index) ACTIVE)
  active_is_bit =
      (all_held-from t w.things w.values lawful.sound.held).crtcs.at (object_id kind.Crtc index) _ (ids-has t kind.Crtc index there)
      (row-at (kept_properties kind.Crtc) 0 _ refl)

  pub active_number : (active : Bool) → is_active w.values (object_id kind.Crtc index) ≡ active
      → cond active (pos 1) (pos 0) ≡ value w.values (object_id kind.Crtc index) ACTIVE
  active_number active is = bit_is (value w.values (object_id kind.Crtc index) ACTIVE) active_is_bit active is
