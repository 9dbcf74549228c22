-- Bytes, those of a mode, and bytes as little-endian words and back.
use Rattle.std.proofs.Common.{◌≡◌, ℕ, zero, suc, ◌*◌, ◌/◌, ◌%◌, ◌<◌, List, [], ◌∷◌, ◌++◌, length, get_or, refl, arith}
use Rattle.std.specs.Int.{w32, to_le_bytes, from_le_bytes}
use Rattle.std.proofs.lemmas.Nat.{le_bytes_4}
use Rattle.kms_model.specs.declared.objects.Mode.{Mode}
use Rattle.kms_model.specs.Device.ModeBytes.{AreBytes, mode_bytes}
use Rattle.kms_model.specs.Machine.Registers.{bytes_of_words, words_of_bytes}

pub small_at : (bytes : List ℕ) (i : ℕ) → AreBytes bytes → get_or bytes i 0 < 256
small_at [] i small = omega arith
small_at (b ∷ bytes) zero small = small.0
small_at (b ∷ bytes) (suc i) small = small_at bytes i small.1

pub bytes-append : (xs ys : List ℕ) → AreBytes xs → AreBytes ys → AreBytes (xs ++ ys)
bytes-append [] ys small more = more
bytes-append (x ∷ xs) ys small more = (small.0, bytes-append xs ys small.1 more)

-- Modes

two_and : {P : Type 0} (n : ℕ) → P → (n % 256 < 256) × (((n / 256) % 256 < 256) × P)
two_and n p = (omega arith, (omega arith, p))

four_and : {P : Type 0} (n : ℕ) → P → (n % 256 < 256)
    × (((n / 256) % 256 < 256) × (((n / 65536) % 256 < 256) × (((n / 16777216) % 256 < 256) × P)))
four_and n p = (omega arith, (omega arith, (omega arith, (omega arith, p))))

pub mode_small : (m : Mode) → AreBytes m.name → AreBytes (mode_bytes m)
mode_small m name =
    four_and m.clock
    (two_and m.hdisplay (two_and m.hsync_start (two_and m.hsync_end (two_and m.htotal (two_and m.hskew
    (two_and m.vdisplay (two_and m.vsync_start (two_and m.vsync_end (two_and m.vtotal (two_and m.vscan
    (four_and m.vrefresh (four_and m.flags (four_and m.kind name)))))))))))))

pub mode_long : (m : Mode) → length m.name ≡ 32 → length (mode_bytes m) ≡ 68
mode_long m name = omega (arith, name)

-- Words

-- bytes, four at a time, are those of their words
pub words_back : (n : ℕ) (bytes : List ℕ) → length bytes ≡ 4 * n → AreBytes bytes → bytes_of_words (words_of_bytes bytes) ≡ bytes
unfolding words_of_bytes
words_back zero [] e small = refl
words_back zero (a ∷ rest) e small = absurd (omega arith)
words_back (suc n) [] e small = absurd (omega arith)
words_back (suc n) (a ∷ []) e small = absurd (omega arith)
words_back (suc n) (a ∷ b ∷ []) e small = absurd (omega arith)
words_back (suc n) (a ∷ b ∷ c ∷ []) e small = absurd (omega arith)
words_back (suc n) (a ∷ b ∷ c ∷ d ∷ rest) e small =
    let four : AreBytes (a ∷ b ∷ c ∷ d ∷ []) = (small.0, (small.1.0, (small.1.1.0, (small.1.1.1.0, tt)))) in
    let word : to_le_bytes w32 (from_le_bytes w32 (a ∷ b ∷ c ∷ d ∷ [])) ≡ a ∷ b ∷ c ∷ d
    ∷ [] = le_bytes_4 (a ∷ b ∷ c ∷ d ∷ []) (from_le_bytes w32 (a ∷ b ∷ c ∷ d ∷ [])) refl (λ i. small_at (a ∷ b ∷ c ∷ d ∷ []) i four)
    refl in
    (λ i. word i ++ words_back n rest (omega arith) small.1.1.1.1 i)
