-- Lists that a loop reads item by item.
use Rattle.std.proofs.Common.{◌≡◌, ℕ, suc, ◌+◌, ◌-◌, ◌<◌, ◌≤◌, List, [], ◌∷◌, ◌++◌, length, take, drop, get_or, append-nil, Option, Some}
use Rattle.std.proofs.Common.{None, refl, sym, ap, arith}
use Rattle.std.specs.Prelude.{option_map}
use Rattle.std.proofs.lemmas.List.{append_assoc}
use Rattle.std.proofs.Math.Seq.{take-length}
use Rattle.kms_model.specs.declared.objects.Format.{Format}
use Rattle.kms_model.specs.Script.CommandLines.{pixels_at}
use Rattle.kms_model.specs.Script.Grammar.{hex_pair, hex_bytes, pixel_at}
use Rattle.kms_model.specs.Script.Words.{◌>>=◌}

-- items read so far, and those to come
abbrev pub joined : {A : Type 0} → List A → Option (List A) → Option (List A)
joined xs o = option_map (λ ys. xs ++ ys) o

more_items : {A : Type 0} (xs : List A) (y : A) (o : Option (List A)) → joined xs (o >>= (λ ys. Some (y ∷ ys))) ≡ joined (xs ++ y ∷ []) o
more_items xs y None = refl
more_items xs y (Some ys) = ap Some (sym (append_assoc xs (y ∷ []) ys))

-- the pair of digits at the front
pub next_pair : (xs bytes : List ℕ) (x : ℕ) → 2 ≤ length bytes → Some x ≡ hex_pair (get_or bytes 0 0) (get_or bytes 1 0)
    → joined xs (hex_bytes bytes) ≡ joined (xs ++ x ∷ []) (hex_bytes (take (length bytes - 2) (drop 2 bytes)))
unfolding hex_bytes
next_pair xs [] x long e = absurd (omega arith)
next_pair xs (a ∷ []) x long e = absurd (omega arith)
next_pair xs (a ∷ b ∷ more) x long e = let k : length (a ∷ b ∷ more) - 2 ≡ length more = omega arith
    in rw (← e, k, take-length more) (more_items xs x (hex_bytes more))

pub no_pair : (bytes : List ℕ) → 2 ≤ length bytes → None ≡ hex_pair (get_or bytes 0 0) (get_or bytes 1 0) → None ≡ hex_bytes bytes
unfolding hex_bytes
no_pair [] long e = absurd (omega arith)
no_pair (a ∷ []) long e = absurd (omega arith)
no_pair (a ∷ b ∷ more) long e = rw (← e) refl

pub all_pairs : (xs bytes : List ℕ) → length bytes < 1 → Some xs ≡ joined xs (hex_bytes bytes)
unfolding hex_bytes
all_pairs xs [] short = ap Some (sym (append-nil xs))
all_pairs xs (b ∷ bs) short = absurd (omega arith)

pub odd_digit : (bytes : List ℕ) → 1 ≤ length bytes → length bytes < 2 → None ≡ hex_bytes bytes
unfolding hex_bytes
odd_digit [] long short = absurd (omega arith)
odd_digit (a ∷ []) long short = refl
odd_digit (a ∷ b ∷ more) long short = absurd (omega arith)

abbrev Taken : Type 0
Taken = Option (ℕ × List ℕ)

abbrev taken : ℕ → List ℕ → Taken
taken word after = Some (word, after)

one_more : (n k : ℕ) → k < n → n - k ≡ suc (n - (k + 1))
one_more n k lt = omega arith

-- the pixel at the front, with n pixels in all and k before it
pub next_pixel : (xs : List ℕ) (format : Format) (n k : ℕ) (bytes after : List ℕ) (word : ℕ) → k < n
    → taken word after ≡ pixel_at format bytes
    → joined xs (pixels_at format (n - k) bytes) ≡ joined (xs ++ word ∷ []) (pixels_at format (n - (k + 1)) after)
next_pixel xs format n k bytes after word lt e = rw (one_more n k lt, ← e) (more_items xs word (pixels_at format (n - (k + 1)) after))
