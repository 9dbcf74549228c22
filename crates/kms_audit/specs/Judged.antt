-- The device of one thread at a place of the journal, and late refusals by what it tells.
use Rattle.std.specs.Prelude.{◌≡◌, ℕ, ◌+◌, ◌*◌, ◌%◌, Bool, ◌&&◌, ◌==◌, nat_lt, nat_le, length, take}
use Rattle.kms_audit.specs.declared.touches.Touches.{Touches}
use Rattle.kms_audit.specs.Touching.{TellTouches, is_touched_in, last_in}
use Rattle.kms_model.specs.declared.reports.Report.{Report}
use Rattle.kms_model.specs.declared.scripts.Script.{Script}
use Rattle.kms_model.specs.declared.states.Mask.{Mask}
use Rattle.kms_model.specs.Device.Masks.{has_bit}
use Rattle.kms_model.specs.Device.Sound.{IsDevice}
use Rattle.kms_model.specs.Firsts.{one_if}
use Rattle.kms_model.specs.Machine.State.{has_value}
use Rattle.kms_model.specs.Report.RightAnswers.{entries_in, world_at}
use Rattle.kms_model.specs.Request.Flags.{is_nonblock, wants_event}
use Rattle.kms_serial.specs.Device.{Device}

-- The device has executed the first entries of the journal, so many.
pub record StandsAt (s : Script) (r : Report) (place : ℕ) (d : Device) : Type 0 where
  pub topology : d.topology ≡ s.topology
  pub world : d.world ≡ world_at s r place

-- And the table tells who touched what last there.
pub record IsAt (s : Script) (r : Report) (place : ℕ) (d : Device) (t : Touches) : Type 0 where
  pub device : IsDevice s.topology
  pub stands : StandsAt s r place d
  pub touches : TellTouches s (take place (entries_in r)) t

-- the device has executed all entries
abbrev pub IsBehind : Script → Report → Device → Type 0
IsBehind s r d = StandsAt s r (length (entries_in r)) d

-- how many of the first four objects are in a set
abbrev pub count_in : ℕ → ℕ
count_in mask = one_if (has_bit mask 0) + (one_if (has_bit mask 1) + (one_if (has_bit mask 2) + one_if (has_bit mask 3)))

abbrev pub may_lack_space_by : ℕ → ℕ → ℕ → Bool
may_lack_space_by flags named used =
    wants_event flags && ((used % 32 == 0) && (nat_le used 4096 && nat_lt 4096 (used + 32 * count_in named)))

abbrev pub may_be_busy_by : ℕ → Mask → Touches → ℕ → ℕ → Bool
may_be_busy_by flags touched touches object commit =
    is_nonblock flags && (is_touched_in touched object && has_value commit (last_in touches object))
