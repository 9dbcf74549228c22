-- The table of the commits that touched each object last.
use Rattle.std.specs.Prelude.{◌≡◌, ◌<◌, ℕ, Bool, false, List, length, Option, Some, None, slice_index_or, true, if◌then◌else◌}
use Rattle.kms_audit.specs.declared.touches.Touches.{Touches}
use Rattle.kms_model.specs.declared.objects.Kind.TheVariants.{Crtc, Plane, Conn}
use Rattle.kms_model.specs.declared.scripts.Script.{Script}
use Rattle.kms_model.specs.declared.states.Mask.{Mask}
use Rattle.kms_model.specs.Device.Masks.{has_bit}
use Rattle.kms_model.specs.Device.Objects.{index_of, is_id_of}
use Rattle.kms_model.specs.Device.Serial.{Entry}
use Rattle.kms_model.specs.Machine.Commits.{has_number, lockable}
use Rattle.kms_model.specs.Report.RightAnswers.{last_touch}

-- the last commit that touched an object, after one that may touch it
abbrev pub noted : Option ℕ → Bool → ℕ → Option ℕ
noted last is_touched commit = if is_touched then Some commit else last

-- a row of the table behind a commit
abbrev pub IsNotedRow : List (Option ℕ) → List (Option ℕ) → ℕ → ℕ → Type 0
IsNotedRow old new touched commit =
    (i : ℕ) → i < length old → slice_index_or new i None ≡ noted (slice_index_or old i None) (has_bit touched i) commit

-- an object is one of a set: a CRTC, a plane or a connector of the largest device
abbrev pub is_touched_in : Mask → ℕ → Bool
is_touched_in mask object =
    if is_id_of Crtc object then has_bit mask.crtcs (index_of object)
    else (if is_id_of Plane object then has_bit mask.planes (index_of object)
    else (if is_id_of Conn object then has_bit mask.conns (index_of object) else false))

-- what the table tells of an object
abbrev pub last_in : Touches → ℕ → Option ℕ
last_in t object =
    if is_id_of Crtc object then slice_index_or t.crtcs (index_of object) None
    else (if is_id_of Plane object then slice_index_or t.planes (index_of object) None
    else (if is_id_of Conn object then slice_index_or t.conns (index_of object) None else None))

-- the table tells the last commit of a journal that touched each object of a device
abbrev pub TellTouches : Script → List Entry → Touches → Type 0
TellTouches s journal t = (object : ℕ) → has_number (lockable s.topology) object ≡ true → last_in t object ≡ last_touch s journal object
