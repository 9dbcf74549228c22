-- Lanes of 16 bits that are packed into signed bytes, to find those that are 0.
use Rattle.std.proofs.Common.{◌≡◌, ◌<◌, ◌≤◌, ℕ, zero, suc, ◌+◌, ◌*◌, ◌/◌, ◌%◌, Bool, true, false, cond, List, [], ◌∷◌, length}
use Rattle.std.proofs.Common.{slice_index, refl, sym, ap, ◌∙◌, ◌-◌, ⊎_elim, arith, w16, Fits, subst}
use Rattle.std.proofs.Common.{w8, eqb, ltb, ltb-true, ltb-false}
use Rattle.std.proofs.Math.Facts.{to_z-neg}
use Rattle.std.proofs.lemmas.Bool.{cases_lt, ne_eqb}
use Rattle.std.proofs.lemmas.Int.{to_z_pos}
use Rattle.std.proofs.lemmas.Simd.{Each1-from_get_or}
use lib.IntN.{ℤ, pos, negsuc}
use lib.Lanes.{Each1, number_l, digits_l}
use lib.Signed.{lt_z}
use mir.Val.{SFits, of_z, to_z}
use Rattle.kms_blend.specs.Lanes.{HasLanes}
use Rattle.kms_blend.proofs.LaneByLane.{as_lanes, less, own}

abbrev twice : ℕ → ℕ
twice zero = zero
twice (suc n) = suc (suc (twice n))

same_list : {x y : ℕ} {xs ys : List ℕ} → x ≡ y → xs ≡ ys → x ∷ xs ≡ y ∷ ys
same_list e f = rw (e, f) refl

-- lanes of 16 bits that are read of their own bytes are the same
joined : (n : ℕ) (v : List ℕ) → length v ≡ n → Each1 (Fits w16) v
    → digits_l 65536 n (number_l 256 (digits_l 256 (twice n) (number_l 65536 v))) ≡ v
joined zero [] long fits = refl
joined zero (x ∷ v) long fits = absurd (omega (arith, long))
joined (suc n) [] long fits = absurd (omega (arith, long))
joined (suc n) (x ∷ v) long fits =
    let first = fits.0.fits in
    rw (upper x (number_l 65536 v) (omega (arith, first))) (same_list
    (least x (number_l 65536 v) (number_l 256 (digits_l 256 (twice n) (number_l 65536 v))) (omega (arith, first)))
    (ap (digits_l 65536 n) (rest x (number_l 65536 v) (number_l 256 (digits_l 256 (twice n) (number_l 65536 v)))
    (omega (arith, first))) ∙ joined n v (omega (arith, long)) fits.1))
  where
    upper : (x n : ℕ) → x < 65536 → (x + 65536 * n) / 256 / 256 ≡ n
    upper x n small = omega (arith, small)

    least : (x n r : ℕ) → x < 65536
        → ((x + 65536 * n) % 256 + 256 * ((x + 65536 * n) / 256 % 256 + 256 * r)) % 65536 ≡ x
    least x n r small = omega (arith, small)

    rest : (x n r : ℕ) → x < 65536
        → ((x + 65536 * n) % 256 + 256 * ((x + 65536 * n) / 256 % 256 + 256 * r)) / 65536 ≡ r
    rest x n r small = omega (arith, small)

pub rejoined : (v : List ℕ) → length v ≡ 16 → Each1 (Fits w16) v
    → HasLanes (digits_l 65536 16 (number_l 256 (digits_l 256 32 (number_l 65536 v)))) (λ i. slice_index v i)
rejoined v long fits = subst (λ xs. HasLanes xs (λ i. slice_index v i)) (sym (joined 16 v long fits)) (own v long)

-- a lane, as near as a signed byte comes to it
abbrev pub clamp : ℕ → ℕ
clamp x = cond (less (cond (less x 65408) 65408 x) 127) (cond (less x 65408) 65408 x) 127

pub record IsPacked (x near : ℕ) : Type 0 where
  pub fits : SFits w8 (to_z w16 near)
  pub zeros : eqb (of_z w8 (to_z w16 near)) 0 ≡ eqb x 0

-- in the lower half of the bits, which stands for itself
positive : (x : ℕ) → to_z w16 x ≡ pos x → IsPacked x (clamp x)
positive x is =
    let least : cond (less x 65408) 65408 x ≡ x = ap (λ z. cond (lt_z z (negsuc 127)) 65408 x) is in
    let most = ap (λ (n : ℕ). cond (less n 127) n 127) least ∙ ap (λ z. cond (lt_z z (pos 127)) x 127) is in
    subst (IsPacked x) (sym most) (either (ltb x 127) refl)
  where
    either : (t : Bool) → ltb x 127 ≡ t → IsPacked x (cond t x 127)
    either true e =
        let below = ltb-true x 127 e in
        record {
          fits = subst (SFits w8) (sym is) (record { sfits = omega (arith, below) });
          zeros = ap (λ z. eqb (of_z w8 z) 0) is;
        }
    either false e =
        let above = ltb-false x 127 e in
        record { fits = record { sfits = omega arith }; zeros = sym (ne_eqb x 0 (λ none. omega (arith, above, none))) }

-- in the upper half, which stands for what is below 0
negative : (x k : ℕ) → x ≡ 65536 - suc k → k < 32768 → to_z w16 x ≡ negsuc k → IsPacked x (clamp x)
negative x k far small is =
    let least : cond (less x 65408) 65408 x ≡ cond (ltb 127 k) 65408 x = ap (λ z. cond (lt_z z (negsuc 127)) 65408 x) is in
    subst (IsPacked x) (sym (ap (λ (n : ℕ). cond (less n 127) n 127) least)) (either (ltb 127 k) refl)
  where
    either : (t : Bool) → ltb 127 k ≡ t → IsPacked x (cond (less (cond t 65408 x) 127) (cond t 65408 x) 127)
    either true e = record { fits = record { sfits = omega arith }; zeros = sym (ne_eqb x 0 (λ none. omega (arith, far, small, none))) }
    either false e =
        let near = ltb-false 127 k e in
        subst (IsPacked x) (sym (ap (λ z. cond (lt_z z (pos 127)) x 127) is)) (record {
          fits = subst (SFits w8) (sym is) (record { sfits = omega (arith, near) });
          zeros = ap (λ z. eqb (of_z w8 z) 0) is ∙ ne_eqb (256 - suc k) 0 (λ none. omega (arith, near, none))
              ∙ sym (ne_eqb x 0 (λ none. omega (arith, far, small, none)));
        })

pub packed : (x : ℕ) → x ≤ 65535 → IsPacked x (clamp x)
packed x fit = ⊎_elim
    (λ below. positive x (to_z_pos w16 x below))
    (λ above.
    let far : x ≡ 65536 - suc (65535 - x) = omega (arith, fit) in
    negative x (65535 - x) far (omega (arith, above)) (ap (to_z w16) far ∙ to_z-neg w16 (65535 - x) (omega (arith, above))))
    (cases_lt x 32768)

pub fit_signed : (v : List ℕ) (p : ℕ → ℕ) → ((i : ℕ) → i < 16 → p i ≤ 65535) → HasLanes v (λ i. clamp (p i))
    → Each1 (λ (a : ℕ). SFits w8 (to_z w16 a)) v
fit_signed v p few near = Each1-from_get_or (λ (a : ℕ). SFits w8 (to_z w16 a)) v 0 (λ i inside.
    let below : i < 16 = omega (arith, near.count, inside) in
    subst (λ (a : ℕ). SFits w8 (to_z w16 a)) (sym (near.lanes i below)) (packed (p i) (few i below)).fits)
