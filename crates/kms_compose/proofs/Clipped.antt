-- What a part shows of some pixels of a row.
use Rattle.std.proofs.Common.{◌≡◌, ◌<◌, ◌≤◌, ℕ, ◌+◌, ◌-◌, max, min, List, length, slice_index, Some, None, refl, ap, ◌∙◌, ⊎_elim, arith}
use Rattle.std.proofs.lemmas.Bool.{cases_lt}
use Rattle.kms_model.specs.Frames.FrameBytes.{colour_of}
use Rattle.kms_compose.specs.declared.parts.VisiblePart.{VisiblePart}
use Rattle.kms_compose.specs.Parts.{shown_at, on_row, part_colour, run_colour}
use Rattle.kms_compose.proofs.Canvas.{before_run, behind_run, inside_run}

-- a part that begins behind some pixels, or ends before them, shows nothing there
pub none_there : (p : VisiblePart) (y start from end long x : ℕ) → from ≡ max p.left start → end ≡ min (p.left + p.width) (start + long)
    → end ≤ from → x < long →
    part_colour p (start + x) y ≡ None
none_there p y start from end long x first last empty below =
    ⊎_elim
    (λ h. let off = before_run p.left p.width (start + x) h in rw off refl)
    (λ h. let off = behind_run p.left p.width (start + x) (omega (arith, first, last, empty, below, h)) in rw off refl)
    (cases_lt (start + x) p.left)

-- the words of a row of the image that a part shows on some pixels, of which the first is `from`
pub run_there : (p : VisiblePart) (row words : List ℕ) (start from end long x : ℕ) → from ≡ max p.left start → end
    ≡ min (p.left + p.width) (start + long) → from < end → x < long →
    length words ≡ end - from → ((k : ℕ) → k < end - from → slice_index words k ≡ slice_index row (shown_at p.columns (from - p.left + k)))
    →
    run_colour p.layer.fb.format words (from - start) x ≡ on_row p (Some row) (start + x)
run_there p row words start from end long x first last some below count each =
    ⊎_elim
    (λ h.
    let here = before_run (from - start) (length words) x (omega (arith, h, first)) in
    let there = before_run p.left p.width (start + x) (omega (arith, h, first)) in
    rw (here, there) refl)
    (λ h. ⊎_elim
    (λ k.
    let here = inside_run (from - start) (length words) x (omega (arith, h, first)) (omega (arith, k, count, first)) in
    let there = inside_run p.left p.width (start + x) (omega (arith, h, first)) (omega (arith, k, last)) in
    let word = each (x - (from - start)) (omega (arith, h, k, first)) in
    let column : from - p.left + (x - (from - start)) ≡ start + x - p.left = omega (arith, h, first) in
    rw (here, there) (ap (λ (w : ℕ). Some (colour_of p.layer.fb.format w))
    (word ∙ ap (λ (j : ℕ). slice_index row (shown_at p.columns j)) column)))
    (λ k.
    let here = behind_run (from - start) (length words) x (omega (arith, k, count, first, some)) in
    let there = behind_run p.left p.width (start + x) (omega (arith, k, last, below)) in
    rw (here, there) refl)
    (cases_lt (start + x) end))
    (cases_lt (start + x) from)
