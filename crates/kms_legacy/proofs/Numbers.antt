-- A call's CRTC is one of the largest device, and a number of a property has few bits.
use Rattle.std.proofs.Common.{◌≡◌, ℕ, Bool, true, ℤ, pos, negsuc, Option, Some, None, refl, arith}
use Rattle.std.specs.Prelude.{◌&&◌, IfSome, int_le}
use Rattle.std.specs.List.{list_all}
use Rattle.std.proofs.lemmas.Bool.{and_parts}
use Rattle.std.proofs.lemmas.Bool.Decides.{nat_tests}
use Rattle.kms_model.specs.declared.ranges.Range.{Range}
use Rattle.kms_model.specs.declared.ranges.Range.TheVariants.{Numbers, Thing, CrtcName}
use Rattle.kms_model.specs.declared.sets.SetValue.TheVariants as to
use Rattle.kms_model.specs.Device.Properties.{Property, has_id, properties, property}
use Rattle.kms_model.specs.Legacy.LegacyCalls.{is_number}
use Rattle.kms_model.specs.Request.Resolves.{IsSettableNumber}
use Rattle.kms_model.specs.Request.SetRanges.{is_among_row, range_takes}
use Rattle.kms_model.proofs.PropertyTable.{find-list_all}

-- the numbers of a range have few bits
abbrev is_narrow : Range → Bool
is_narrow (Numbers low high) = int_le (negsuc 2147483647) low && int_le high (pos 4294967295)
is_narrow _ = true

narrow_ranges : list_all (λ p. is_narrow p.range) properties ≡ true
narrow_ranges = refl

between_bounds : (low high z : ℤ) → int_le (negsuc 2147483647) low ≡ true → int_le high (pos 4294967295) ≡ true → int_le low z ≡ true
    → int_le z high ≡ true → IsSettableNumber z
between_bounds (pos a) (pos b) (pos c) h k l m = grind (arith, nat_tests)
between_bounds (negsuc a) (pos b) (pos c) h k l m = grind (arith, nat_tests)
between_bounds (negsuc a) (pos b) (negsuc c) h k l m = grind (arith, nat_tests)
between_bounds (negsuc a) (negsuc b) (negsuc c) h k l m = grind (arith, nat_tests)
between_bounds (pos a) (pos b) (negsuc c) h k l m = absurd (cc)
between_bounds (pos a) (negsuc b) (pos c) h k l m = absurd (cc)
between_bounds (pos a) (negsuc b) (negsuc c) h k l m = absurd (cc)
between_bounds (negsuc a) (negsuc b) (pos c) h k l m = absurd (cc)

narrow_in : (prop : ℕ) (range : Range) (z : ℤ) → is_narrow range ≡ true → range_takes prop range (to.Num z) ≡ true → IsSettableNumber z
narrow_in prop (Numbers low high) z narrow takes =
    let bounds = and_parts (int_le (negsuc 2147483647) low) (int_le high (pos 4294967295)) narrow in
    let inside = and_parts (int_le low z) (int_le z high) takes in
    between_bounds low high z bounds.0 bounds.1 inside.0 inside.1
narrow_in prop (Thing none) z narrow takes = absurd cc
narrow_in prop CrtcName z narrow takes = absurd cc

narrow_row : (row : Option Property) (z : ℤ) → IfSome row (λ p. is_narrow p.range ≡ true) → is_among_row row (to.Num z) ≡ true
    → IsSettableNumber z
narrow_row None z narrow among = absurd cc
narrow_row (Some p) z narrow among = narrow_in p.id p.range z narrow among

pub narrow : (prop : ℕ) (z : ℤ) → is_number prop z ≡ true → IsSettableNumber z
narrow prop z is = narrow_row (property prop) z (find-list_all (λ p. is_narrow p.range) (has_id prop) properties narrow_ranges) is
