-- A frame as text: a portable pixmap in its plain form. From: the Netpbm manual, "ppm".
use Rattle.std.specs.Prelude.{ℕ, ◌*◌, zero, suc, List, [], ◌∷◌, ◌++◌, map, take, drop, codes}
use Rattle.std.specs.Fmt.{decimal}
use Rattle.kms_model.specs.Report.TextLines.{line}

-- so many lines of so many numbers each
abbrev pub number_lines : ℕ → ℕ → List ℕ → List ℕ
number_lines zero size numbers = []
number_lines (suc n) size numbers = line (map decimal (take size numbers)) ++ number_lines n size (drop size numbers)

-- the kind, the size, the greatest number, and a line for each row of pixels, three numbers a pixel
abbrev pub ppm : List ℕ → ℕ → ℕ → List ℕ
ppm frame width height =
    line (codes "P3" ∷ []) ++ line (decimal width ∷ decimal height ∷ []) ++ line (codes "255" ∷ []) ++ number_lines height (3 * width) frame
