-- The next L line of a CRTC, looked for one line after the other.
use Rattle.std.proofs.Common.{◌≡◌, ℕ, ◌+◌, ◌<◌, ◌≤◌, false, List, [], length, get_or, drop, Option, Some, None, refl, ap, ◌∙◌, arith}
use Rattle.std.proofs.lemmas.List.{drop_all, drop_more, length-drop}
use Rattle.std.proofs.lemmas.List.Quantifiers.{position-Some}
use Rattle.std.specs.Prelude.{◌==◌}
use Rattle.std.specs.List.{position}
use Rattle.std.specs.Option.{option_map_or}
use Rattle.kms_audit.proofs.Tracks.{at_other}
use Rattle.kms_audit.specs.Latching.{LatchFields, line_from}

module _ (lines : List LatchFields) (crtc m : ℕ) where
  abbrev at_rest : List LatchFields → ℕ
  at_rest rest = option_map_or (λ p. m + p) (position (λ (l : LatchFields). l.0 == crtc) rest) (length lines)

  pub line-next : (d : LatchFields) → m < length lines → ((get_or lines m d).0 == crtc) ≡ false
      → line_from lines crtc m ≡ line_from lines crtc (m + 1)
  line-next d within other = ap at_rest (drop_more lines m d within) ∙ at_other lines crtc [] m (get_or lines m d)
      (drop (m + 1) lines) other

  pub line-none : length lines ≤ m → line_from lines crtc m ≡ length lines
  line-none past = ap at_rest (drop_all m lines past)

  pub line-within : line_from lines crtc m ≤ length lines
  line-within = by_place (position (λ (l : LatchFields). l.0 == crtc) (drop m lines)) refl where
    by_place : (o : Option ℕ) → position (λ (l : LatchFields). l.0 == crtc) (drop m lines) ≡ o
        → option_map_or (λ p. m + p) o (length lines) ≤ length lines
    by_place None e = omega arith
    by_place (Some k) e =
        let found = position-Some (λ (l : LatchFields). l.0 == crtc) (drop m lines) k (0, 0, 0, None) e in
        omega (arith, found.0, length-drop m lines)
