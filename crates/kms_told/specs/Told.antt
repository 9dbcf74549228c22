-- What the lists of a history tell of one another. This device's own.
use Rattle.std.specs.Prelude.{◌≡◌, ◌<◌, ℕ, Bool, false, List, None, [], if◌then◌else◌, ◌∷◌, ◌++◌, length, filter, reverse}
use Rattle.std.specs.Option.{option_map_or}
use Rattle.kms_model.specs.declared.replies.Event.{Event}
use Rattle.kms_model.specs.declared.replies.Step.{Step}
use Rattle.kms_model.specs.declared.reports.Report.{Report}
use Rattle.kms_model.specs.declared.runs.Latch.{Latch}
use Rattle.kms_model.specs.declared.scripts.Script.{Script}
use Rattle.kms_model.specs.Machine.Histories.{at, journal, read_by}
use Rattle.kms_model.specs.Machine.State.{Machine}
use Rattle.kms_model.specs.Promises.{FreesEachOnce, InEachHistory, event_of_latch}
use Rattle.kms_model.specs.Report.History.{text}
use Rattle.kms_model.specs.Report.ReportLines.{report_text}
use Rattle.kms_model.specs.Report.Right.{first_wrong}
use Rattle.kms_model.specs.Report.RightAnswers.{commits_of, same_event}
use Rattle.kms_model.specs.Report.SeenReport.{seen_report}

-- the commits of the machine are those of the entries of its journal that are requests
abbrev pub CommitsAreOfJournal : Type 0
CommitsAreOfJournal = InEachHistory (λ s h. commits_of s (journal (at s h)) ≡ (at s h).device.commits)

-- a latch tells a client an event
abbrev pub tells_event : Script → Machine → ℕ → Event → Latch → Bool
tells_event s m client e l = option_map_or (same_event e) (event_of_latch s.topology m.device.commits client l) false

-- Of the events that a client read, fewer before one are the same than there are latches that tell it.
abbrev pub HasLatches : Script → Machine → ℕ → Type 0
HasLatches s m client =
    (before later : List Event) (e : Event) → read_by m client ≡ before ++ e ∷ later
    → length (filter (same_event e) before) < length (filter (tells_event s m client e) (reverse m.records.latches))

abbrev pub EventsFit : Type 0
EventsFit = InEachHistory (λ s h. (client : ℕ) → HasLatches s (at s h) client)

-- the report of a history as a value, with its steps where they are traced
abbrev pub seen_with : Script → List Step → Bool → Report
seen_with s h trace = record (seen_report s h) { steps = if trace then h else [] }

-- The report of a history has no wrong line, where what it frees is as the law of `kms_core` says of each.
abbrev pub ReportsAreRight : Type 0
ReportsAreRight = InEachHistory (λ s h. FreesEachOnce s h → (trace : Bool) → first_wrong s (seen_with s h trace) ≡ None)

-- The text of a report without pixmaps is that of the report as a value.
abbrev pub TextsAreSeen : Type 0
TextsAreSeen = (s : Script) (h : List Step) (trace : Bool) → text s h (record { trace = trace; ppm = false })
    ≡ report_text (seen_with s h trace)
