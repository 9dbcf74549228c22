-- The rules that refuse an older call before it is translated, in the order in which they are tried. They are a table of
-- their own: such a call leaves no request, and no reply tells their numbers, which are this device's own.
use Rattle.std.specs.Prelude.{List, ℕ, [], ◌∷◌, codes}
use Rattle.kms_model.specs.declared.legacy.LegacyRefusal.{LegacyRefusal}
use Rattle.kms_model.specs.declared.legacy.TheConstants.LegacyRefusal as legacy
use Rattle.kms_model.specs.Report.Rules.{RuleRow, EBUSY, EINVAL}

abbrev refuses_call : LegacyRefusal → List ℕ → List ℕ → List ℕ → List ℕ → RuleRow
refuses_call r name errno text source = record { number = r.0; name = name; errno = errno; text = text; source = source }

abbrev pub legacy_rule_rows : List RuleRow
legacy_rule_rows =
    refuses_call legacy.NO_PLANE (codes "NO_PLANE") EINVAL
    (codes "the call needs the CRTC's primary plane or its cursor plane, and there is none") (codes "own")
    ∷ refuses_call legacy.NOT_SHOWN (codes "NOT_SHOWN") EBUSY (codes "the primary plane is not on the CRTC")
    (codes "drm_mode_page_flip_ioctl")
    ∷ refuses_call legacy.FORMAT_CHANGES (codes "FORMAT_CHANGES") EINVAL
    (codes "the framebuffer has another format than the one that is shown") (codes "drm_mode_page_flip_ioctl")
    ∷ []
