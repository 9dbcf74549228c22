use Rattle.std.proofs.Common.{◌≡◌, ℕ, Option, Some, None, option_map, refl, inl, inr}
use Rattle.std.specs.Prelude.{IfSome, IsSome, ◌↔◌, bit_and}
use Rattle.std.proofs.lemmas.Bool.Decides.{eqb_tells}
use Rattle.bitflags.proofs.OnLiterals.{bitflags_on_literals}
use Rattle.kms_model.specs.Firsts.{number_if}
use Rattle.kms_model.specs.Device.Properties.{are_flags, all_flags}
use Rattle.kms_props.specs.declared.flags.AtomicFlags.{AtomicFlags}
use Rattle.kms_props.specs.Flags.{bits_of}
use Rattle.kms_props.proofs.flags.from_bits.Goals as goal

-- what comes exactly where no bit outside the flags is set
pub bits-when : (r : Option AtomicFlags) (bits : ℕ) → IfSome r (λ f. bits_of f ≡ bits)
    → (IsSome r ↔ (bit_and bits all_flags ≡ bits)) → option_map bits_of r ≡ number_if bits (are_flags bits)
bits-when None bits value known = elim (eqb_tells (bit_and bits all_flags) bits)
    [ inl same ↦ let wrong : IsSome {T = AtomicFlags} None = known.1 same.1 in cc | inr other ↦ rw other.0 refl ]
bits-when (Some f) bits value known = elim (eqb_tells (bit_and bits all_flags) bits)
    [ inl same ↦ rw (same.0, value) refl | inr other ↦ absurd (other.1 (known.0 refl)) ]

pub returns : goal.returns
unfolding bitflags_on_literals
returns c = bits-when c.from_bits.result c.args.flags (c.from_bits.ensures.value tt) (c.from_bits.ensures.known tt)
