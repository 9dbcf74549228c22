-- A gamma table, written as words and read; and that a blob holds a table of bytes.
use Rattle.std.proofs.Common.{◌≡◌, ℕ, zero, suc, ◌+◌, ◌-◌, ◌*◌, ◌/◌, ◌<◌, List, ◌++◌, length, get_or, take, drop, map, Bool, true, false}
use Rattle.std.proofs.Common.{Some, None, ◌==◌, inl, inr, refl, sym, ap, ◌∙◌, subst, arith}
use Rattle.std.specs.Prelude.{slice_range, if◌then◌else◌}
use Rattle.std.specs.List.{range_with_len}
use Rattle.std.proofs.lemmas.Bool.{cases_lt}
use Rattle.std.proofs.lemmas.List.{get_or-drop, get_or-take, get_or_past, length-append, length-take, take_all}
use Rattle.std.proofs.lemmas.List.FromFn.{length-map-range_with_len}
use Rattle.std.proofs.Math.Seq.{drop-append-add, take-append_seam}
use Rattle.kms_model.specs.declared.objects.Gamma.{Gamma}
use Rattle.kms_model.specs.Device.GammaBytes.{IsGammaTable, channel_values, gamma_held, gamma_of_bytes}
use Rattle.kms_model.specs.Device.ModeBytes.{AreBytes, two_at}
use Rattle.kms_model.specs.Machine.Registers.{bytes_of_words, gamma_bytes, gamma_with, gamma_words}
use Rattle.kms_model.proofs.WordBytes.{bytes-append, small_at, words_back}

table_long : (g : Gamma) → IsGammaTable g → length (gamma_bytes g) ≡ 4 * 192
table_long g is = length-append g.red (g.green ++ g.blue) ∙ omega (arith, is.red, is.green, is.blue, length-append g.green g.blue)

table_bytes : (g : Gamma) → IsGammaTable g → AreBytes (gamma_bytes g)
table_bytes g is = bytes-append g.red (g.green ++ g.blue) is.red_bytes (bytes-append g.green g.blue is.green_bytes is.blue_bytes)

-- the first part of bytes, and what is behind it
front : (xs ys : List ℕ) (n : ℕ) → length xs ≡ n → take n (xs ++ ys) ≡ xs
front xs ys n long = ap (λ k. take k (xs ++ ys)) (sym long) ∙ take-append_seam xs ys

back : (xs ys : List ℕ) (n k m : ℕ) → length xs ≡ n → n + k ≡ m → drop m (xs ++ ys) ≡ drop k ys
back xs ys n k m long sum = ap (λ j. drop j (xs ++ ys)) (sym sum ∙ ap (λ j. j + k) (sym long)) ∙ drop-append-add xs ys k

abbrev table : List ℕ → List ℕ → List ℕ → Gamma
table red green blue = record { red = red; green = green; blue = blue }

-- the table that a table's bytes hold is that table
pub gamma_with-gamma_bytes : (g : Gamma) → IsGammaTable g → gamma_with (gamma_bytes g) ≡ g
gamma_with-gamma_bytes g is =
    let reds : slice_range (gamma_bytes g) 0 256 ≡ g.red = front g.red (g.green ++ g.blue) 256 is.red in
    let greens : slice_range (gamma_bytes g) 256 512
    ≡ g.green = ap (take 256) (back g.red (g.green ++ g.blue) 256 0 256 is.red refl) ∙ front g.green g.blue 256 is.green in
    let blues : slice_range (gamma_bytes g) 512 768 ≡ g.blue =
    ap (take 256) (back g.red (g.green ++ g.blue) 256 256 512 is.red refl ∙ back g.green g.blue 256 0 256 is.green refl) ∙ take_all 256
    g.blue (omega (arith, is.blue)) in
    (λ i. table (reds i) (greens i) (blues i))

-- and so is the table that its words hold
pub gamma_back : (g : Gamma) → IsGammaTable g → gamma_with (bytes_of_words (gamma_words (Some g))) ≡ g
gamma_back g is = ap gamma_with (words_back 192 (gamma_bytes g) (table_long g is) (table_bytes g is)) ∙ gamma_with-gamma_bytes g is

-- What a blob holds

upper_small : (bytes : List ℕ) (at : ℕ) → AreBytes bytes → two_at bytes at / 256 < 256
upper_small bytes at small =
    let low : get_or (slice_range bytes at (at + 2)) 0 0 < 256 = part_at (at + 2) 0 in
    let high : get_or (slice_range bytes at (at + 2)) 1 0 < 256 = part_at (at + 2) 1 in
    omega (arith, low, high)
  where
    part_at : (end i : ℕ) → get_or (slice_range bytes at end) i 0 < 256
    part_at end i = elim (cases_lt i (end - at)) [
      | inl within ↦ rw (get_or-take (end - at) (drop at bytes) i 0 within, get_or-drop at bytes i 0) (small_at bytes (at + i) small)
      | inr past ↦ rw (get_or_past (take (end - at) (drop at bytes)) i 0 (simp length-take (omega arith))) (omega arith)
    ]

each_small : (f : ℕ → ℕ) → ((v : ℕ) → f v < 256) → (a n : ℕ) → AreBytes (map f (range_with_len a n))
each_small f each a zero = tt
each_small f each a (suc n) = (each a, each_small f each (a + 1) n)

channel_long : (bytes : List ℕ) (channel : ℕ) → length (channel_values bytes channel) ≡ 256
channel_long bytes channel = length-map-range_with_len (λ value. two_at bytes (8 * value + 2 * channel) / 256) 0 256

channel_small : (bytes : List ℕ) (channel : ℕ) → AreBytes bytes → AreBytes (channel_values bytes channel)
channel_small bytes channel small = each_small (λ value. two_at bytes (8 * value + 2 * channel) / 256)
    (λ value. upper_small bytes (8 * value + 2 * channel) small) 0 256

-- the table that bytes hold has a byte for each value
pub held-table : (bytes : List ℕ) → AreBytes bytes → IsGammaTable (gamma_held bytes)
held-table bytes small = record {
  red = channel_long bytes 0;
  green = channel_long bytes 1;
  blue = channel_long bytes 2;
  red_bytes = channel_small bytes 0 small;
  green_bytes = channel_small bytes 1 small;
  blue_bytes = channel_small bytes 2 small;
}

-- a table that a blob holds
pub blob-table : (bytes : List ℕ) (g : Gamma) → AreBytes bytes → gamma_of_bytes bytes ≡ Some g → IsGammaTable g
blob-table bytes g small e = go (length bytes == 2048) e
  where
    go : (long : Bool) → (if long then Some (gamma_held bytes) else None) ≡ Some g → IsGammaTable g
    go true is = (let same : gamma_held bytes ≡ g = cc in subst IsGammaTable same (held-table bytes small))
    go false is = absurd cc
