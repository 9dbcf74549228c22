-- What a call of the program reads and writes, by its status. This device's own.
use Rattle.std.specs.Prelude.{◌≡◌, ◌≢◌, ◌↔◌, ℕ, ◌<◌, ◌≤◌, ◌+◌, List, [], codes, length, Err, None, Option, Some, ◌⊎◌, ⊤}
use Rattle.std.specs.Io.KnownBytes.{Appends, IsAtEnd}
use Rattle.kms_io.specs.Bytes.{Begins, Moved}
use Rattle.kms_io.specs.Causes.{Rose}
use Rattle.kms_model.specs.declared.objects.ObjId.{ObjId}
use Rattle.kms_model.specs.declared.scripts.Part.TheVariants as part
use Rattle.kms_model.specs.declared.scripts.Why.{Why}
use Rattle.kms_model.specs.Legacy.LegacyLines.{legacy_input}
use Rattle.kms_model.specs.Script.FewerCommands.{input_within}
use Rattle.kms_model.specs.Script.InputLines.{input_limit}
use Rattle.kms_model.specs.Script.Longer.{most_before_two}
use Rattle.kms_model.specs.Script.Schedules.{input_of}
use Rattle.kms_one_thread.specs.declared.ending.End.{End}
use Rattle.kms_one_thread.specs.declared.ending.End.TheVariants as end
use Rattle.kms_run.specs.declared.status.Status.{Status}
use Rattle.kms_run.specs.declared.status.Status.TheVariants as status
use Rattle.kms_run.specs.declared.words.Task.TheVariants.{Audit, Execute, Generate, Suspend, Translate}
use Rattle.kms_run.specs.declared.words.Execution.{Execution}
use Rattle.kms_run.specs.declared.words.Generation.{Generation}
use Rattle.kms_run.specs.Answers.{IsIllegal, IsReport}
use Rattle.kms_run.specs.Auditing.{HasRightReport, HasWrongLine}
use Rattle.kms_run.specs.Slept.{IsClosed, IsSleepReport}
use Rattle.kms_run.specs.Summary.{IsGenerated}
use Rattle.kms_run.specs.Translation.{IsTranslationOf}
use Rattle.kms_run.specs.Words.{asked, part_of}

-- All that the source had left was read, or, of a longer input, one byte more than an input may have.
pub record ReadsAll (left : Option (List ℕ)) (input : List ℕ) : Type 0 where
  pub most : length input ≤ input_limit + 1
  pub end : length input < input_limit + 1 → IsAtEnd left

-- The whole input was read, and what was written is its report, of a history that ended so.
pub record WritesReport (asks : Execution) (ended : End) (left : Option (List ℕ)) (input output : List ℕ) : Type 0 where
  pub whole : ReadsAll left input
  pub report : IsReport asks ended input output

-- The whole input was read, and what was written is a front part of its report.
pub record WritesFront (asks : Execution) (left : Option (List ℕ)) (input output : List ℕ) : Type 0 where
  pub whole : ReadsAll left input
  pub ended : End
  pub text : List ℕ
  pub report : IsReport asks ended input text
  pub front : Begins text output

-- The whole input was read, this is its first fault, and nothing was written.
pub record TellsFault (asks : Execution) (left : Option (List ℕ)) (line : ℕ) (why : Why) (input output : List ℕ) : Type 0 where
  pub whole : ReadsAll left input
  pub fault : input_of (part_of asks.action) input ≡ Err (record { line = line; why = why })
  pub nothing : output ≡ []

-- The whole input was read, this step of its schedule is the first that is not legal, and nothing was written.
pub record TellsIllegal (asks : Execution) (left : Option (List ℕ)) (place : ℕ) (input output : List ℕ) : Type 0 where
  pub whole : ReadsAll left input
  pub illegal : IsIllegal asks place input
  pub nothing : output ≡ []

-- What was written is a front part of what `gen` writes.
pub record IsGeneratedFront (asks : Generation) (output : List ℕ) : Type 0 where
  pub text : List ℕ
  pub generated : IsGenerated asks text
  pub front : Begins text output

-- The whole input was read, and what was written is its translation.
pub record WritesTranslation (left : Option (List ℕ)) (input output : List ℕ) : Type 0 where
  pub whole : ReadsAll left input
  pub translation : IsTranslationOf input output

-- The whole input was read, and what was written is a front part of its translation.
pub record WritesTranslationFront (left : Option (List ℕ)) (input output : List ℕ) : Type 0 where
  pub whole : ReadsAll left input
  pub text : List ℕ
  pub translation : IsTranslationOf input text
  pub front : Begins text output

-- The whole input was read, this is its first fault as a script with older calls, and nothing was written.
pub record TellsLegacyFault (left : Option (List ℕ)) (line : ℕ) (why : Why) (input output : List ℕ) : Type 0 where
  pub whole : ReadsAll left input
  pub fault : legacy_input input ≡ Err (record { line = line; why = why })
  pub nothing : output ≡ []

-- `suspend`: the whole input was read, and what was written is its report, by how the history ended.
pub record WritesSleep (ended : End) (left : Option (List ℕ)) (input output : List ℕ) : Type 0 where
  pub whole : ReadsAll left input
  pub report : IsSleepReport ended input output

-- The whole input was read, and what was written is a front part of its report.
pub record WritesSleepFront (left : Option (List ℕ)) (input output : List ℕ) : Type 0 where
  pub whole : ReadsAll left input
  pub ended : End
  pub text : List ℕ
  pub report : IsSleepReport ended input text
  pub front : Begins text output

-- The whole input was read, this is its first fault where clients have at most 4094 commands, and nothing was written.
pub record TellsSleepFault (left : Option (List ℕ)) (line : ℕ) (why : Why) (input output : List ℕ) : Type 0 where
  pub whole : ReadsAll left input
  pub fault : input_within most_before_two input ≡ Err (record { line = line; why = why })
  pub nothing : output ≡ []

-- The whole input was read, its history is drained, this is the first object that cannot be brought back, and nothing was written.
pub record TellsClosed (left : Option (List ℕ)) (object : ℕ) (input output : List ℕ) : Type 0 where
  pub whole : ReadsAll left input
  pub closed : IsClosed object input
  pub nothing : output ≡ []

-- what is written of a report that is right
abbrev pub yes_text : List ℕ
yes_text = codes "audit yes\n"

-- `audit`: the whole input was read, each line of the report behind its script is right, and that was written.
pub record WritesYes (left : Option (List ℕ)) (input output : List ℕ) : Type 0 where
  pub whole : ReadsAll left input
  pub right : HasRightReport input
  pub text : output ≡ yes_text

-- The same, and what was written is a front part of that.
pub record WritesYesFront (left : Option (List ℕ)) (input output : List ℕ) : Type 0 where
  pub whole : ReadsAll left input
  pub right : HasRightReport input
  pub front : Begins yes_text output

-- The whole input was read, this line of the report, counted from 1, is the first that is not right, and nothing was written.
pub record TellsWrong (left : Option (List ℕ)) (line : ℕ) (input output : List ℕ) : Type 0 where
  pub whole : ReadsAll left input
  pub wrong : HasWrongLine input line
  pub nothing : output ≡ []

-- The whole input was read, this is its first fault before the report, and nothing was written. Where the line `report` is missing,
-- it is the number after the last line.
pub record TellsNoReport (left : Option (List ℕ)) (line : ℕ) (why : Why) (input output : List ℕ) : Type 0 where
  pub whole : ReadsAll left input
  pub fault : input_of part.Report input ≡ Err (record { line = line; why = why })
  pub nothing : output ≡ []

-- nothing was written
abbrev pub WritesNothing : List ℕ → List ℕ → Type 0
WritesNothing input output = output ≡ []

-- the statuses of a call of `one`, `replay`, `run`, `legacy`, `suspend` or `audit` that may have read and has written nothing
abbrev pub IsSilent : Status → Type 0
IsSilent s = (s ≡ status.ReadFault) ⊎ (s ≡ status.NoMemory)

-- the statuses of `one`, `replay` and `run`
abbrev pub IsOfExecution : Status → Type 0
IsOfExecution status.Usage = ⊥
IsOfExecution (status.AuditNo line) = ⊥
IsOfExecution (status.Closed object) = ⊥
IsOfExecution _ = ⊤

-- the statuses of `gen`
abbrev pub IsOfGeneration : Status → Type 0
IsOfGeneration status.Ok = ⊤
IsOfGeneration status.WriteFault = ⊤
IsOfGeneration status.NoMemory = ⊤
IsOfGeneration _ = ⊥

-- the statuses of `legacy`
abbrev pub IsOfTranslation : Status → Type 0
IsOfTranslation status.Ok = ⊤
IsOfTranslation status.ReadFault = ⊤
IsOfTranslation status.WriteFault = ⊤
IsOfTranslation (status.Script line why) = ⊤
IsOfTranslation status.NoMemory = ⊤
IsOfTranslation _ = ⊥

-- the statuses of `suspend`
abbrev pub IsOfSuspension : Status → Type 0
IsOfSuspension status.Ok = ⊤
IsOfSuspension status.Stalled = ⊤
IsOfSuspension status.ReadFault = ⊤
IsOfSuspension status.WriteFault = ⊤
IsOfSuspension status.NoMemory = ⊤
IsOfSuspension (status.Script line why) = ⊤
IsOfSuspension (status.Closed object) = ⊤
IsOfSuspension _ = ⊥

-- the statuses of `audit`
abbrev pub IsOfAudit : Status → Type 0
IsOfAudit status.Ok = ⊤
IsOfAudit status.ReadFault = ⊤
IsOfAudit status.WriteFault = ⊤
IsOfAudit status.NoMemory = ⊤
IsOfAudit (status.Script line why) = ⊤
IsOfAudit (status.AuditNo line) = ⊤
IsOfAudit _ = ⊥

-- What `one`, `replay` or `run` read and wrote where it ended so; left is what the source has left afterwards.
abbrev pub Meets : Execution → Status → Option (List ℕ) → List ℕ → List ℕ → Type 0
Meets asks status.Ok left input output = WritesReport asks end.Drained left input output
Meets asks status.Stalled left input output = WritesReport asks end.Dead left input output
Meets asks status.Open left input output = WritesReport asks end.Open left input output
Meets asks status.WriteFault left input output = WritesFront asks left input output
Meets asks (status.Script line why) left input output = TellsFault asks left line why input output
Meets asks (status.Illegal place) left input output = TellsIllegal asks left place input output
Meets asks status.ReadFault left input output = WritesNothing input output
Meets asks status.NoMemory left input output = WritesNothing input output
Meets asks status.Usage left input output = ⊥
Meets asks (status.AuditNo line) left input output = ⊥
Meets asks (status.Closed object) left input output = ⊥

-- What `gen` wrote where it ended so.
abbrev pub MeetsGenerated : Generation → Status → List ℕ → Type 0
MeetsGenerated asks status.Ok output = IsGenerated asks output
MeetsGenerated asks status.WriteFault output = IsGeneratedFront asks output
MeetsGenerated asks status.NoMemory output = output ≡ []
MeetsGenerated asks _ output = ⊥

-- What `legacy` read and wrote where it ended so; left is what the source has left afterwards.
abbrev pub MeetsTranslation : Status → Option (List ℕ) → List ℕ → List ℕ → Type 0
MeetsTranslation status.Ok left input output = WritesTranslation left input output
MeetsTranslation status.WriteFault left input output = WritesTranslationFront left input output
MeetsTranslation (status.Script line why) left input output = TellsLegacyFault left line why input output
MeetsTranslation status.ReadFault left input output = WritesNothing input output
MeetsTranslation status.NoMemory left input output = WritesNothing input output
MeetsTranslation _ left input output = ⊥

-- What `suspend` read and wrote where it ended so.
abbrev pub MeetsSleep : Status → Option (List ℕ) → List ℕ → List ℕ → Type 0
MeetsSleep status.Ok left input output = WritesSleep end.Drained left input output
MeetsSleep status.Stalled left input output = WritesSleep end.Dead left input output
MeetsSleep status.WriteFault left input output = WritesSleepFront left input output
MeetsSleep (status.Script line why) left input output = TellsSleepFault left line why input output
MeetsSleep (status.Closed object) left input output = TellsClosed left object.0 input output
MeetsSleep status.ReadFault left input output = WritesNothing input output
MeetsSleep status.NoMemory left input output = WritesNothing input output
MeetsSleep _ left input output = ⊥

-- What `audit` read and wrote where it ended so.
abbrev pub MeetsAudit : Status → Option (List ℕ) → List ℕ → List ℕ → Type 0
MeetsAudit status.Ok left input output = WritesYes left input output
MeetsAudit status.WriteFault left input output = WritesYesFront left input output
MeetsAudit (status.Script line why) left input output = TellsNoReport left line why input output
MeetsAudit (status.AuditNo line) left input output = TellsWrong left line input output
MeetsAudit status.ReadFault left input output = WritesNothing input output
MeetsAudit status.NoMemory left input output = WritesNothing input output
MeetsAudit _ left input output = ⊥

-- bytes were put behind what was written, and P holds of them
pub record Wrote (written written_after : Option (List ℕ)) (P : List ℕ → Type 0) : Type 0 where
  pub put : List ℕ
  pub added : Appends written written_after put
  pub holds : P put

-- When the statuses come that the bytes do not determine: a read failed exactly where the status says so, and a write
-- likewise, as far as a count at its type's end can tell.
pub record TellsFaults (ended : Status) (reads reads_after writes writes_after : ℕ) : Type 0 where
  pub read : ended ≡ status.ReadFault → Rose reads reads_after
  pub no_read : ended ≢ status.ReadFault → reads_after ≡ reads
  pub write : ended ≡ status.WriteFault → Rose writes writes_after
  pub no_write : ended ≢ status.WriteFault → writes_after ≡ writes

-- What a call does that is given these words and ended so: what the source had left and the sink had written before and
-- afterwards, and how often each had failed.
module _ (words : List (List ℕ)) (ended : Status) (left left_after written written_after : Option (List ℕ))
    (read_faults read_faults_after write_faults write_faults_after : ℕ) where
  abbrev Moves : (List ℕ → List ℕ → Type 0) → Type 0
  Moves says = Moved left left_after written written_after says

  abbrev Writes : (List ℕ → Type 0) → Type 0
  Writes says = Wrote written written_after says

  -- `one`, `replay` and `run`
  pub record Executes (asks : Execution) : Type 0 where
    -- The whole input was read, and what was written is the report of what was asked for with it, or a front of the report. The
    -- status tells how the history ended: drained, dead, or, of a schedule alone, neither.
    pub ok : ended ≡ status.Ok → Moves (WritesReport asks end.Drained left_after)
    pub stalled : ended ≡ status.Stalled → Moves (WritesReport asks end.Dead left_after)
    pub left_open : ended ≡ status.Open → Moves (WritesReport asks end.Open left_after)
    pub cut : ended ≡ status.WriteFault → Moves (WritesFront asks left_after)
    -- A fault is the whole input's first, an illegal step the first of its schedule, and then nothing was written.
    pub script : (line : ℕ) (why : Why) → ended ≡ status.Script line why → Moves (TellsFault asks left_after line why)
    pub illegal : (place : ℕ) → ended ≡ status.Illegal place → Moves (TellsIllegal asks left_after place)
    -- Otherwise nothing was written.
    pub read_only : IsSilent ended → Moves WritesNothing
    -- A failed read, a failed write and want of memory are all that may come in the way besides.
    pub faults : TellsFaults ended read_faults read_faults_after write_faults write_faults_after
    pub no_other : IsOfExecution ended

  -- `gen`
  pub record Generates (asks : Generation) : Type 0 where
    -- Nothing was read, and no read failed.
    pub unread : left_after ≡ left
    pub no_read_fault : read_faults_after ≡ read_faults
    -- What was written is the generated script or its summary, or a front of it.
    pub ok : ended ≡ status.Ok → Writes (IsGenerated asks)
    pub cut : ended ≡ status.WriteFault → Writes (IsGeneratedFront asks)
    pub silent : ended ≡ status.NoMemory → Writes (λ output. output ≡ [])
    -- A failing write and want of memory are all that may come in the way.
    pub write_fault : ended ≡ status.WriteFault → Rose write_faults write_faults_after
    pub no_write_fault : ended ≢ status.WriteFault → write_faults_after ≡ write_faults
    pub no_other : IsOfGeneration ended

  -- `legacy`
  pub record Translates : Type 0 where
    -- The whole input was read, and what was written is the text of its translation, or a front of it.
    pub ok : ended ≡ status.Ok → Moves (WritesTranslation left_after)
    pub cut : ended ≡ status.WriteFault → Moves (WritesTranslationFront left_after)
    -- A fault is the whole input's first, and then nothing was written.
    pub script : (line : ℕ) (why : Why) → ended ≡ status.Script line why → Moves (TellsLegacyFault left_after line why)
    -- Otherwise nothing was written.
    pub read_only : IsSilent ended → Moves WritesNothing
    -- What may come in the way is as above.
    pub faults : TellsFaults ended read_faults read_faults_after write_faults write_faults_after
    pub no_other : IsOfTranslation ended

  -- `suspend`
  pub record Suspends : Type 0 where
    -- The whole input was read, and what was written, without options, is the report of the longer script and its history, with
    -- which the device was turned off and brought back; or, where the history of the script as it was read is dead, of that; or a
    -- front of the report.
    pub ok : ended ≡ status.Ok → Moves (WritesSleep end.Drained left_after)
    pub stalled : ended ≡ status.Stalled → Moves (WritesSleep end.Dead left_after)
    pub cut : ended ≡ status.WriteFault → Moves (WritesSleepFront left_after)
    -- A fault is the whole input's first, a closed object the first of a history that is drained, and then nothing was written.
    pub script : (line : ℕ) (why : Why) → ended ≡ status.Script line why → Moves (TellsSleepFault left_after line why)
    pub closed : (object : ObjId) → ended ≡ status.Closed object → Moves (TellsClosed left_after object.0)
    -- Otherwise nothing was written.
    pub read_only : IsSilent ended → Moves WritesNothing
    -- What may come in the way is as above.
    pub faults : TellsFaults ended read_faults read_faults_after write_faults write_faults_after
    pub no_other : IsOfSuspension ended

  -- `audit`
  pub record Audits : Type 0 where
    -- The whole input was read, each line of the report behind its script is right, and `audit yes` was written, or a front of it.
    pub ok : ended ≡ status.Ok → Moves (WritesYes left_after)
    pub cut : ended ≡ status.WriteFault → Moves (WritesYesFront left_after)
    -- A line is the first of the report that is not right, a fault the whole input's first, and then nothing was written.
    pub wrong : (line : ℕ) → ended ≡ status.AuditNo line → Moves (TellsWrong left_after line)
    pub script : (line : ℕ) (why : Why) → ended ≡ status.Script line why → Moves (TellsNoReport left_after line why)
    -- Otherwise nothing was written.
    pub read_only : IsSilent ended → Moves WritesNothing
    -- What may come in the way is as above.
    pub faults : TellsFaults ended read_faults read_faults_after write_faults write_faults_after
    pub no_other : IsOfAudit ended

  -- no legal words
  pub record Refuses : Type 0 where
    -- Nothing was read or written, and no read or write failed.
    pub unread : left_after ≡ left
    pub no_read_fault : read_faults_after ≡ read_faults
    pub unwritten : written_after ≡ written
    pub no_write_fault : write_faults_after ≡ write_faults

  pub record HasEnded : Type 0 where
    pub usage : (ended ≡ status.Usage) ↔ (asked words ≡ None)
    pub refused : asked words ≡ None → Refuses
    pub executed : (asks : Execution) → asked words ≡ Some (Execute asks) → Executes asks
    pub generated : (asks : Generation) → asked words ≡ Some (Generate asks) → Generates asks
    pub translated : asked words ≡ Some Translate → Translates
    pub slept : asked words ≡ Some Suspend → Suspends
    pub audited : asked words ≡ Some Audit → Audits
