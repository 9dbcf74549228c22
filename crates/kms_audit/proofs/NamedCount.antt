-- How many CRTCs a request names, by its set of them.
use Rattle.std.proofs.Common.{◌≡◌, ℕ, zero, suc, ◌+◌, ◌≤◌, Bool, true, false, List, [], ◌∷◌, length, refl, arith}
use Rattle.std.specs.Prelude.{◌&&◌, filter, map, nat_lt}
use Rattle.std.specs.List.{range_with_len}
use Rattle.kms_audit.specs.Judged.{count_in}
use Rattle.kms_model.proofs.MaskLemmas.{has_bit-mask_below}
use Rattle.kms_model.specs.declared.objects.Kind.TheVariants.{Crtc}
use Rattle.kms_model.specs.declared.objects.Topology.{Topology}
use Rattle.kms_model.specs.Device.Objects.{count_of, ids_of, object_id}
use Rattle.kms_model.specs.Firsts.{one_if}
use Rattle.kms_model.specs.Request.Touched.{set_where}

filter_length : (f : ℕ → Bool) (x : ℕ) (xs : List ℕ) → length (filter f (x ∷ xs)) ≡ one_if (f x) + length (filter f xs)
filter_length f x xs = by_test (f x) refl where
  by_test : (b : Bool) → f x ≡ b → length (filter f (x ∷ xs)) ≡ one_if (f x) + length (filter f xs)
  by_test true is = rw is (omega arith)
  by_test false is = rw is (omega arith)

count_first : (f : ℕ → Bool) (n : ℕ) → n ≤ 4
    → one_if (nat_lt 0 n && f 100) + (one_if (nat_lt 1 n && f 101) + (one_if (nat_lt 2 n && f 102) + one_if (nat_lt 3 n && f 103))) ≡ length
    (filter f (map (object_id Crtc) (range_with_len 0 n)))
count_first f zero few = refl
count_first f (suc zero) few = rw (filter_length f 100 []) (omega arith)
count_first f (suc (suc zero)) few = rw (filter_length f 100 (101 ∷ []), filter_length f 101 []) (omega arith)
count_first f (suc (suc (suc zero))) few = rw (filter_length f 100 (101 ∷ 102 ∷ []), filter_length f 101 (102 ∷ []), filter_length f 102 [])
    (omega arith)
count_first f (suc (suc (suc (suc zero)))) few =
    rw (
      filter_length f 100 (101 ∷ 102 ∷ 103 ∷ []),
      filter_length f 101 (102 ∷ 103 ∷ []),
      filter_length f 102
          (103 ∷ []),
      filter_length f 103 [],
    ) (omega arith)
count_first f (suc (suc (suc (suc (suc n))))) few = absurd (omega (arith, few))

pub count_named : (t : Topology) (f : ℕ → Bool) → count_of t Crtc ≤ 4 → count_in (set_where t Crtc f) ≡ length (filter f (ids_of t Crtc))
count_named t f few =
    rw (
      has_bit-mask_below (λ index. f (object_id Crtc index)) (count_of t Crtc) 0,
      has_bit-mask_below (λ index. f (object_id Crtc index)) (count_of t Crtc) 1,
      has_bit-mask_below (λ index. f (object_id Crtc index)) (count_of t Crtc) 2,
      has_bit-mask_below (λ index. f (object_id Crtc index)) (count_of t Crtc) 3,
    ) (count_first f (count_of t Crtc) few)
