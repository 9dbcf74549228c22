-- Rows behind the line `client`, one after the other.
use Rattle.std.proofs.Common.{◌≡◌, ℕ, ◌+◌, false, List, [], ◌∷◌, length, Ok, Err, refl}
use Rattle.std.specs.Prelude.{Result}
use Rattle.std.proofs.lemmas.List.{nil_from_length}
use Rattle.kms_model.specs.declared.legacy.LegacyScript.{LegacyScript}
use Rattle.kms_model.specs.Legacy.LegacyLines.{LegacyDraft, legacy_drafted, legacy_line_after, legacy_lines_after, legacy_script_in}
use Rattle.kms_model.specs.Script.InputLines.{Fault, Row, rows_of}
use Rattle.kms_model.specs.Script.WholeInput.{is_nil}
use Rattle.kms_script.specs.declared.stop.Stop.{Stop}
use Rattle.kms_script.specs.declared.stop.Stop.TheVariants as stops
use Rattle.kms_script.specs.Drafted.{error_at}
use Rattle.kms_script.specs.Stated.{Gives}
use Rattle.kms_legacy.specs.Reading.{Becomes, BeginsClient, device_draft}
use Rattle.kms_model.specs.declared.objects.Topology.{Topology}

-- what is read of rows, as a script
abbrev pub read_on : LegacyDraft → ℕ → List Row → Result LegacyScript Fault
read_on d n rows = legacy_drafted (legacy_lines_after d n rows)

pub next_line : (d next : LegacyDraft) (n : ℕ) (row : Row) (rows : List Row) → legacy_line_after d row ≡ Ok next
    → legacy_lines_after d n (row ∷ rows) ≡ legacy_lines_after next (n + 1) rows
unfolding legacy_lines_after
next_line d next n row rows e = rw e refl

pub stopped : (d after : LegacyDraft) (n : ℕ) (row : Row) (rows : List Row) (stop : Stop)
    → Becomes (Err stop) (legacy_line_after d row) after
    → Gives (λ (s : LegacyScript). s) (Err (error_at n stop)) (read_on d n (row ∷ rows))
unfolding legacy_lines_after
stopped d after n row rows (stops.Fault why) e = rw e refl
stopped d after n row rows stops.NoMemory e = tt

pub client_stopped : (t : Topology) (size n : ℕ) (row : Row) (rows : List Row) (stop : Stop)
    → BeginsClient t (Err stop) (legacy_line_after (device_draft t false size) row)
    → Gives (λ (s : LegacyScript). s) (Err (error_at n stop)) (read_on (device_draft t false size) n (row ∷ rows))
unfolding legacy_lines_after
client_stopped t size n row rows (stops.Fault why) e = rw e refl
client_stopped t size n row rows stops.NoMemory e = tt

pub lines_end : (d : LegacyDraft) (n : ℕ) (bytes : List ℕ) → length bytes ≡ 0 → is_nil d.draft.conns ≡ false
    → read_on d n (rows_of bytes) ≡ Ok (legacy_script_in d)
unfolding legacy_lines_after rows_of
lines_end d n bytes none some = let empty : bytes ≡ [] = nil_from_length bytes none in rw (empty, some) refl
