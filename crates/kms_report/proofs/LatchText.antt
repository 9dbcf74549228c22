-- The line of a latch, from its pieces.
use Rattle.std.proofs.Common.{◌≡◌, ℕ, Bool, List, [], ◌∷◌, ◌++◌, sym, ap, ◌∙◌, append_assoc}
use Rattle.std.specs.Prelude.{codes}
use Rattle.std.specs.Fmt.{decimal}
use Rattle.kms_model.specs.declared.pictures.Picture.TheVariants.{On}
use Rattle.kms_model.specs.declared.pictures.Shown.{Shown}
use Rattle.kms_model.specs.declared.runs.Latch.{Latch}
use Rattle.kms_model.specs.Frames.FrameBytes.{frame_bytes}
use Rattle.kms_model.specs.Frames.Ppm.{ppm}
use Rattle.kms_model.specs.Machine.State.{Machine}
use Rattle.kms_model.specs.Report.History.{digest_of}
use Rattle.kms_model.specs.Report.History.{if_wanted, latch_line, shown_line}
use Rattle.kms_model.specs.Report.TextLines.{line}
use Rattle.kms_report.specs.Telling.{latch_front, lit_line}

-- a word behind the front, and the end of the line
front-line : (l : Latch) (word rest : List ℕ)
    → latch_front l ++ ((word ++ 10 ∷ []) ++ rest)
    ≡ line (codes "L" ∷ decimal l.crtc ∷ decimal l.commit ∷ decimal l.count ∷ word ∷ []) ++ rest
front-line l word rest = simp append_assoc

pub on-line : (m : Machine) (pixmap : Bool) (l : Latch) (shown : Shown) (old frame : List ℕ) → l.picture ≡ On shown
    → frame ≡ frame_bytes m.device.world.things l.picture
    → (old ++ latch_front l) ++ lit_line pixmap shown.mode frame ≡ old ++ latch_line m pixmap l
on-line m pixmap l shown old frame is bytes =
    append_assoc old (latch_front l) (lit_line pixmap shown.mode frame)
    ∙ ap (λ (text : List ℕ). old ++ text)
    (ap (λ (f : List ℕ). latch_front l ++ lit_line pixmap shown.mode f) (bytes ∙ ap (frame_bytes m.device.world.things) is)
    ∙ front-line l (digest_of (frame_bytes m.device.world.things (On shown)))
    (if_wanted pixmap (ppm (frame_bytes m.device.world.things (On shown)) shown.mode.hdisplay shown.mode.vdisplay))
    ∙ ap (shown_line m pixmap l) (sym is))
