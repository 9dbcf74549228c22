-- How far what CRTCs show agrees with their L lines.
use Rattle.std.specs.Prelude.{◌≡◌, ◌≤◌, ◌<◌, ℕ, ◌+◌, Bool, true, false, ◌&&◌, ◌==◌, nat_lt, List, [], ◌∷◌, length, map, drop, Option, Some}
use Rattle.std.specs.Prelude.{None, slice_get, slice_index_or, if◌then◌else◌}
use Rattle.std.specs.List.{position, range_with_len}
use Rattle.std.specs.Option.{option_map_or}
use Rattle.kms_audit.specs.declared.latches.Showing.{Showing}
use Rattle.kms_audit.specs.declared.latches.Track.{Track}
use Rattle.kms_audit.specs.Sections.{earliest, tells_picture}
use Rattle.kms_model.specs.declared.objects.Kind.TheVariants.{Crtc}
use Rattle.kms_model.specs.declared.reports.Report.{Report}
use Rattle.kms_model.specs.declared.scripts.Script.{Script}
use Rattle.kms_model.specs.Device.Masks.{has_bit}
use Rattle.kms_model.specs.Device.Objects.{object_id}
use Rattle.kms_model.specs.Device.Serial.{Entry, Pictured, pictured, show}
use Rattle.kms_model.specs.Report.Right.{latch_from}
use Rattle.kms_serial.specs.Device.{Device}

-- what a line says: the CRTC's index, the commit, the count, and the digest
abbrev pub LatchFields : Type 0
LatchFields = ℕ × ℕ × ℕ × Option (List ℕ)

-- the place of the first line of a CRTC from a place on; the number of all lines where there is none
abbrev pub line_from : List LatchFields → ℕ → ℕ → ℕ
line_from lines crtc from = option_map_or (λ p. from + p) (position (λ l. l.0 == crtc) (drop from lines)) (length lines)

-- that of a CRTC that showed nothing yet
abbrev pub no_track : List LatchFields → ℕ → Track
no_track lines crtc = record { line = line_from lines crtc 0; agrees = true }

-- the track of a CRTC, by its index
abbrev pub track_on : List Track → ℕ → Track
track_on tracks crtc = slice_index_or tracks crtc (record { line = 0; agrees = false })

-- what a CRTC shows behind a commit
abbrev pub pictured_now : Device → ℕ → ℕ → Pictured
pictured_now d crtc commit = pictured d.topology d.world (object_id Crtc crtc) commit

-- a line, if there is one, tells of a commit and its picture
abbrev pub line_tells : Option LatchFields → Pictured → Bool
line_tells None p = false
line_tells (Some l) p = tells_picture (latch_from l) (Some p)

-- how far it agrees with one more picture
abbrev pub track_with : List LatchFields → ℕ → Pictured → Track → Track
track_with lines crtc p t =
    if t.agrees && line_tells (slice_get lines t.line) p
    then record { line = line_from lines crtc (t.line + 1); agrees = true }
    else record { line = t.line; agrees = false }

-- of each CRTC the next line is one of so many, or behind them
pub record AreWithin (count : ℕ) (showing : Showing) : Type 0 where
  pub tracks : length showing.tracks ≡ 4
  pub kept : length showing.kept ≡ 4
  pub line : (crtc : ℕ) → crtc < 4 → (track_on showing.tracks crtc).line ≤ count

-- each CRTC of a set shows what it shows behind a commit
abbrev pub ShowsAll : List LatchFields → Device → ℕ → ℕ → List Track → List Track → Type 0
ShowsAll lines d named commit old new =
    (crtc : ℕ) → crtc < 4 → track_on new crtc
    ≡ (if has_bit named crtc then track_with lines crtc (pictured_now d crtc commit) (track_on old crtc) else track_on old crtc)

-- how far it agrees with pictures, one after the other
unfoldable pub track_of : List LatchFields → ℕ → Track → List Pictured → Track
track_of lines crtc t [] = t
track_of lines crtc t (p ∷ ps) = track_of lines crtc (track_with lines crtc p t) ps

-- the tracks are those of what the device of one thread shows when it executes a journal
abbrev pub AreTracks : Script → Report → List Entry → Showing → Type 0
AreTracks s r journal showing =
    (crtc : ℕ) → crtc < s.topology.crtcs → track_on showing.tracks crtc
    ≡ track_of r.latches crtc (no_track r.latches crtc) (show s journal (object_id Crtc crtc))

-- the place of the first line that is not met, of so many lines, where there is one
abbrev pub unmet : ℕ → Track → Option ℕ
unmet count t = if nat_lt t.line count then Some t.line else None

-- the first of those of the first CRTCs
abbrev pub first_of_all : List (Option ℕ) → Option ℕ
first_of_all [] = None
first_of_all (x ∷ xs) = earliest x (first_of_all xs)

abbrev pub first_unmet : ℕ → List Track → ℕ → Option ℕ
first_unmet count tracks crtcs = first_of_all (map (λ crtc. unmet count (track_on tracks crtc)) (range_with_len 0 crtcs))
