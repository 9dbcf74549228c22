-- The length of a frame.
use Rattle.std.proofs.Common.{◌≡◌, ℕ, ◌*◌, length, Option, refl, sym, ap, ◌∙◌}
use Rattle.std.proofs.Math.Nat.{mul_comm, mul_assoc}
use Rattle.kms_model.specs.declared.pictures.Shown.{Shown}
use Rattle.kms_model.specs.Frames.FrameBytes.{pixel, row_bytes, frame_of}
use Rattle.kms_model.specs.declared.pictures.Picture.TheVariants.{On}
use Rattle.kms_compose.proofs.Canvas.{range_length}

-- three bytes for each pixel
pub length-frame : (words : ℕ → ℕ → ℕ → Option ℕ) (p : Shown) → length (frame_of words (On p)) ≡ 3 * (p.mode.hdisplay * p.mode.vdisplay)
length-frame words p =
    let w = p.mode.hdisplay in
    let h = p.mode.vdisplay in
    range_length (row_bytes words p) (w * 3) 0 h (λ y. range_length (λ (x : ℕ). pixel words p.gamma p.layers x y) 3 0 w (λ x. refl))
    ∙ sym (mul_assoc h w 3) ∙ mul_comm (h * w) 3 ∙ ap (λ (k : ℕ). 3 * k) (mul_comm h w)
