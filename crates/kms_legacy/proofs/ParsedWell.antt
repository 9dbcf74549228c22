-- What is read of a whole input, or its first fault.
use Rattle.std.proofs.Common.{ℕ, ◌≤◌, List, length, Ok, Err, refl, sym, subst}
use Rattle.std.specs.Prelude.{IfOk, Result}
use Rattle.std.proofs.lemmas.Bool.{le-ltb}
use Rattle.kms_model.specs.declared.legacy.LegacyScript.{LegacyScript}
use Rattle.kms_model.specs.declared.objects.Topology.{Topology}
use Rattle.kms_model.specs.Device.Sound.{IsDevice}
use Rattle.kms_model.specs.Legacy.LegacyLines.{SpellsLegacy, legacy_input}
use Rattle.kms_model.specs.Script.InputLines.{input_limit}
use Rattle.kms_model.specs.Script.WholeInput.{device_of}
use Rattle.kms_script.specs.declared.faults.ParseError.{ParseError}
use Rattle.kms_script.specs.declared.faults.ParseError.TheVariants as errors
use Rattle.kms_script.specs.Stated.{Gives, GivesDevice}
use Rattle.kms_legacy.specs.Reading.{IsOfDevice}
use Rattle.kms_legacy.specs.Translating.{IsWellFormedLegacy}
use Rattle.kms_legacy.proofs.DeviceFront.{device_fault}
use Rattle.kms_legacy.proofs.SpeltWhereRead.{spelt_where_read}

-- a fault of the device at the front is the input's
pub fault_given : (bytes : List ℕ) (e : ParseError) → length bytes ≤ input_limit → GivesDevice (Err e) (device_of bytes)
    → Gives (λ (s : LegacyScript). s) (Err e) (legacy_input bytes)
unfolding legacy_input
fault_given bytes (errors.Fault line why) le is =
    rw (le-ltb input_limit (length bytes) le, device_fault bytes (record { line = line; why = why }) is) refl
fault_given bytes errors.NoMemory le is = tt

pub spelt_given : (bytes : List ℕ) (r : Result LegacyScript ParseError) → Gives (λ (s : LegacyScript). s) r (legacy_input bytes)
    → IfOk r (SpellsLegacy bytes)
spelt_given bytes (Ok s) is = spelt_where_read bytes s is
spelt_given bytes (Err e) is = tt

pub formed_given : (bytes : List ℕ) (t : Topology) (r : Result LegacyScript ParseError)
    → Gives (λ (s : LegacyScript). s) r (legacy_input bytes) → IfOk r (IsOfDevice t) → IsDevice t → IfOk r IsWellFormedLegacy
formed_given bytes t (Ok s) is of device = record
    { device = subst IsDevice (sym of.topology) device; few = of.few; bytes = bytes; spells = spelt_where_read bytes s is }
formed_given bytes t (Err e) is of device = tt
