-- The bytes of all buffers, with one more.
use Rattle.std.proofs.Common.{◌≡◌, ◌+◌, ◌≤◌, ℕ, List, [], ◌∷◌, ◌++◌, ap, ◌∙◌, sym, add_assoc, arith}
use Rattle.kms_model.specs.declared.things.Buffer.{Buffer}
use Rattle.kms_model.specs.declared.tables.Slot.{Slot}
use Rattle.kms_model.specs.Things.Kept.{bytes_of, area_bytes, largest_bytes}
use Rattle.kms_buffers.specs.Within.{IsCounted}

abbrev pub area_of : Slot Buffer → ℕ
area_of s = area_bytes s.value.width s.value.height s.value.format

bytes_of-push : (buffers : List (Slot Buffer)) (s : Slot Buffer) → bytes_of (buffers ++ s ∷ []) ≡ bytes_of buffers + area_of s
bytes_of-push [] s = omega arith
bytes_of-push (b ∷ buffers) s = ap (λ (n : ℕ). area_of b + n) (bytes_of-push buffers s) ∙ sym
    (add_assoc (area_of b) (bytes_of buffers) (area_of s))

pub counted-push : (total : ℕ) (buffers : List (Slot Buffer)) (s : Slot Buffer) → total ≡ bytes_of buffers + area_of s → total
    ≤ largest_bytes → IsCounted total (buffers ++ s ∷ [])
counted-push total buffers s is fits = record {
  counted = is ∙ sym (bytes_of-push buffers s);
  within = fits;
}
