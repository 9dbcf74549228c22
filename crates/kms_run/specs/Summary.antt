-- What `gen` writes: a generated script, or the summary of the history that one thread makes of it. This device's own.
use Rattle.std.specs.Prelude.{◌≡◌, ℕ, Bool, true, false, List, [], ◌∷◌, ◌++◌, length, codes}
use Rattle.std.specs.Fmt.{decimal}
use Rattle.std.specs.List.{flat_map}
use Rattle.kms_model.specs.declared.replies.Step.{Step}
use Rattle.kms_model.specs.declared.scripts.Script.{Script}
use Rattle.kms_model.specs.Headline.{Headline}
use Rattle.kms_model.specs.Machine.Framebuffers.{freed}
use Rattle.kms_model.specs.Machine.Histories.{at, client_numbers, is_drained, is_history, journal, read_by}
use Rattle.kms_model.specs.Machine.State.{Machine}
use Rattle.kms_model.specs.Order.Rounds.{IsOne}
use Rattle.kms_model.specs.Report.History.{digest_of, end_words, text}
use Rattle.kms_model.specs.Report.TextLines.{line}
use Rattle.kms_model.specs.Script.Generated.{generated}
use Rattle.kms_model.specs.Script.Spelling.{Spells}
use Rattle.kms_report.specs.Telling.{history_options}
use Rattle.kms_run.specs.declared.generated.Counts.{Counts}
use Rattle.kms_run.specs.declared.words.Generation.{Generation}
use Rattle.kms_run.specs.Words.{no_options}

-- how many events the clients of a script have read
abbrev pub events_read : Script → Machine → ℕ
events_read s m = length (flat_map (read_by m) (client_numbers s))

-- how many entries the journal of a history has, and how many latches, events read and framebuffers freed there are
abbrev pub counts : Script → List Step → Counts
counts s h = let m = at s h in record {
  journal = length (journal m);
  latches = length m.records.latches;
  events = events_read s m;
  freed = length (freed s h);
}

-- a name and a number
abbrev pub count_line : List ℕ → ℕ → List ℕ
count_line name count = line (name ∷ decimal count ∷ [])

-- six lines: the counts, a digest, and how a history ended
abbrev pub six_lines : Counts → List ℕ → List (List ℕ) → List ℕ
six_lines counts digest ended =
    count_line (codes "journal") counts.journal
    ++ (count_line (codes "latches") counts.latches
    ++ (count_line (codes "events") counts.events
    ++ (count_line (codes "freed") counts.freed
    ++ (line (codes "report" ∷ digest ∷ [])
    ++ line ended))))

-- the SHA-256 (FIPS 180-4) of the report of a history without options, in lower-case hexadecimal
abbrev pub report_digest : Script → List Step → List ℕ
report_digest s h = digest_of (text s h (history_options no_options))

-- what a history comes to
abbrev pub summary : Script → List Step → List ℕ
summary s h = six_lines (counts s h) (report_digest s h) (end_words s (at s h) (length h))

-- The text is the summary of the history that one thread makes of a script; it is drained, and the headline holds of it.
pub record IsSummaryOf (s : Script) (output : List ℕ) : Type 0 where
  pub history : List Step
  pub is_history : is_history s history ≡ true
  pub is_one : IsOne s history
  pub is_drained : is_drained s (at s history) ≡ true
  pub text : output ≡ summary s history
  pub headline : Headline s history

-- the text that spells a script; or, where it is run, its summary
abbrev pub IsTextOf : Bool → Script → List ℕ → Type 0
IsTextOf false s output = Spells output s
IsTextOf true s output = IsSummaryOf s output

-- what `gen` writes
abbrev pub IsGenerated : Generation → List ℕ → Type 0
IsGenerated asks output = IsTextOf asks.run (generated asks.seed asks.commits) output
