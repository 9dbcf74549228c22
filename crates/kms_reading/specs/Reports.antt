-- What the reader of reports answers, and what it holds between two lines.
use Rattle.std.specs.Prelude.{◌≡◌, ℕ, Bool, ◌==◌, List, [], ◌∷◌, ◌++◌, Option, Some, None, Result, Ok, Err, is_some, if◌then◌else◌, not, ⊤}
use Rattle.std.specs.List.{filter_map}
use Rattle.kms_model.specs.declared.reports.End.{End}
use Rattle.kms_model.specs.declared.reports.Report.{Report}
use Rattle.kms_model.specs.declared.reports.ReportLine.{ReportLine}
use Rattle.kms_model.specs.declared.reports.ReportLine.TheVariants as says
use Rattle.kms_model.specs.Report.ReportLines.{answer_said, end_said, entry_said, event_said, freed_said, latch_said, step_said}
use Rattle.kms_reading.specs.declared.reports.ReportError.{ReportError}
use Rattle.kms_reading.specs.declared.reports.ReportError.TheVariants as errors
use Rattle.kms_reading.specs.declared.reports.Said.{Said}

-- What was read, exactly where that is stated, and the first line that may not stand exactly where that is it; want of
-- memory may come anywhere.
abbrev pub Reads : Result Report ReportError → Result Report ℕ → Type 0
Reads (Ok r) stated = stated ≡ Ok r
Reads (Err (errors.BadLine line)) stated = stated ≡ Err line
Reads (Err errors.NoMemory) stated = ⊤

abbrev pub no_lines : Said
no_lines = record { least = 0; journal = []; replies = []; latches = []; events = []; freed = []; end = None; steps = [] }

-- what lines say with one more
abbrev pub with_said : Said → ReportLine → Said
with_said d (says.Entry client command) = record d { least = 0; journal = d.journal ++ (client, command) ∷ [] }
with_said d (says.Answer client command place answer) = record d { least = 1; replies = d.replies ++ (client, command, place, answer) ∷ [] }
with_said d (says.Latch crtc commit count digest) = record d { least = 2; latches = d.latches ++ (crtc, commit, count, digest) ∷ [] }
with_said d (says.Event client event) = record d { least = 3; events = d.events ++ (client, event) ∷ [] }
with_said d (says.Freed label id) = record d { least = 4; freed = d.freed ++ (label, id) ∷ [] }
with_said d (says.Ended end) = record d { least = 6; end = Some end }
with_said d (says.Stepped step) = record d { least = 6; steps = d.steps ++ step ∷ [] }

-- T lines may follow exactly where there was a D line
abbrev pub is_sound : Said → Bool
is_sound d = if is_some d.end then d.least == 6 else not (d.least == 6)

-- the end of lines, where there may have been a D line before
abbrev pub end_after : Option End → List ReportLine → End
end_after (Some end) ls = end
end_after None ls = end_said ls

-- the report of the lines so far and of others behind them
abbrev pub report_with : Said → List ReportLine → Report
report_with d ls = record {
  journal = d.journal ++ filter_map entry_said ls;
  replies = d.replies ++ filter_map answer_said ls;
  latches = d.latches ++ filter_map latch_said ls;
  events = d.events ++ filter_map event_said ls;
  freed = d.freed ++ filter_map freed_said ls;
  end = end_after d.end ls;
  steps = d.steps ++ filter_map step_said ls;
}

-- the same, where the others can be read
abbrev pub continued : Said → Result (List ReportLine) ℕ → Result Report ℕ
continued d (Err number) = Err number
continued d (Ok ls) = Ok (report_with d ls)
