-- Inputs in which a schedule or a report follows the script: the steps that lines spell, and the first fault.
use Rattle.std.specs.Prelude.{◌≡◌, ℕ, ◌+◌, ◌≤◌, Bool, true, false, not, ◌&&◌, nat_lt, List, [], ◌∷◌, ◌++◌, length, Option, Some, None}
use Rattle.std.specs.Prelude.{Result, Ok, Err, codes, if◌then◌else◌, ⊤}
use Rattle.std.specs.List.{list_all}
use Rattle.std.specs.Str.{bytes_eq}
use Rattle.kms_model.specs.declared.objects.Kind.{Kind}
use Rattle.kms_model.specs.declared.replies.Step.{Step}
use Rattle.kms_model.specs.declared.replies.Step.TheVariants.{Begin, Lock, BackOff, Relock, Refuse, Test, Swap, Make, Signal, Claim, Write}
use Rattle.kms_model.specs.declared.replies.Step.TheVariants.{Flush, HwDone, Vblank, Cleanup, Read, Return, Stall}
use Rattle.kms_model.specs.declared.scripts.Part.{Part}
use Rattle.kms_model.specs.declared.scripts.Part.TheVariants as part
use Rattle.kms_model.specs.declared.scripts.Script.{Script}
use Rattle.kms_model.specs.declared.scripts.Why.TheVariants.{Bytes, Cut, Form, Limit}
use Rattle.kms_model.specs.Report.History.{step_line}
use Rattle.kms_model.specs.Script.Grammar.{is_printable, object}
use Rattle.kms_model.specs.Script.InputLines.{Row, Fault, rows_of, input_limit}
use Rattle.kms_model.specs.Script.WholeInput.{Draft, blank_draft, is_nil, line_after, missing_line, or_fault, script_in}
use Rattle.kms_model.specs.Script.Words.{◌>>=◌, strip, field_at, dec_at, end_at}

-- Steps

-- the greatest number of a client or a commit that a line of a step may have
abbrev pub greatest_number : ℕ
greatest_number = 4294967295

-- a step of a client or of a commit
unfoldable pub numbered_step : (ℕ → Step) → List ℕ → Option Step
numbered_step step bytes = do
  n ← dec_at greatest_number bytes
  _ ← end_at n.1
  Some (step n.0)

-- the object at the end of a line
unfoldable pub object_at : List ℕ → Option (Kind × ℕ)
object_at bytes = do
  f ← field_at bytes
  _ ← end_at f.1
  object f.0

-- a step with an object of a client, of a commit, or by itself
unfoldable pub step_with_object : (ℕ → Kind → ℕ → Step) → List ℕ → Option Step
step_with_object step bytes = do
  n ← dec_at greatest_number bytes
  o ← object_at n.1
  Some (step n.0 o.0 o.1)

unfoldable pub step_on_object : (Kind → ℕ → Step) → List ℕ → Option Step
step_on_object step bytes = do
  o ← object_at bytes
  Some (step o.0 o.1)

unfoldable pub lone_step : Step → List ℕ → Option Step
lone_step step bytes = do
  _ ← end_at bytes
  Some step

-- a step of a worker or of the hardware, or one that a client waits for, by its word and the fields behind it
abbrev pub worker_step : List ℕ → List ℕ → Option Step
worker_step word fields =
    if bytes_eq word (codes "claim") then numbered_step (λ n. Claim n) fields
    else (if bytes_eq word (codes "write") then step_with_object (λ n kind index. Write n kind index) fields
    else (if bytes_eq word (codes "flush") then step_with_object (λ n kind index. Flush n kind index) fields
    else (if bytes_eq word (codes "hwdone") then numbered_step (λ n. HwDone n) fields
    else (if bytes_eq word (codes "vblank") then step_on_object (λ kind index. Vblank kind index) fields
    else (if bytes_eq word (codes "cleanup") then numbered_step (λ n. Cleanup n) fields
    else (if bytes_eq word (codes "read") then numbered_step (λ n. Read n) fields
    else (if bytes_eq word (codes "return") then numbered_step (λ n. Return n) fields
    else (if bytes_eq word (codes "stall") then lone_step Stall fields
    else None))))))))

-- the step of a word, with the fields behind it
unfoldable pub step_of_word : List ℕ → List ℕ → Option Step
step_of_word word fields =
    if bytes_eq word (codes "begin") then numbered_step (λ n. Begin n) fields
    else (if bytes_eq word (codes "lock") then step_with_object (λ n kind index. Lock n kind index) fields
    else (if bytes_eq word (codes "backoff") then numbered_step (λ n. BackOff n) fields
    else (if bytes_eq word (codes "relock") then numbered_step (λ n. Relock n) fields
    else (if bytes_eq word (codes "refuse") then numbered_step (λ n. Refuse n) fields
    else (if bytes_eq word (codes "test") then numbered_step (λ n. Test n) fields
    else (if bytes_eq word (codes "swap") then numbered_step (λ n. Swap n) fields
    else (if bytes_eq word (codes "make") then numbered_step (λ n. Make n) fields
    else (if bytes_eq word (codes "signal") then numbered_step (λ n. Signal n) fields
    else worker_step word fields))))))))

-- the step that a line spells, without its line feed: `T` and the words of the step
unfoldable pub step_read : List ℕ → Option Step
step_read bytes = do
  fields ← strip (codes "T") bytes
  word ← field_at fields
  step_of_word word.0 word.1

-- Each step that a line can spell has one spelling, and it is read back.

abbrev pub IsFitNumber : ℕ → Type 0
IsFitNumber n = n ≤ greatest_number

abbrev pub IsFitIndex : ℕ → Type 0
IsFitIndex index = index ≤ 255

-- a step whose client or commit, and whose object, if it has one, have numbers that a line can spell
abbrev pub IsFitStep : Step → Type 0
IsFitStep (Begin client) = IsFitNumber client
IsFitStep (Lock client kind index) = IsFitNumber client × IsFitIndex index
IsFitStep (BackOff client) = IsFitNumber client
IsFitStep (Relock client) = IsFitNumber client
IsFitStep (Refuse client) = IsFitNumber client
IsFitStep (Test client) = IsFitNumber client
IsFitStep (Swap client) = IsFitNumber client
IsFitStep (Make client) = IsFitNumber client
IsFitStep (Signal client) = IsFitNumber client
IsFitStep (Claim k) = IsFitNumber k
IsFitStep (Write k kind index) = IsFitNumber k × IsFitIndex index
IsFitStep (Flush k kind index) = IsFitNumber k × IsFitIndex index
IsFitStep (HwDone k) = IsFitNumber k
IsFitStep (Vblank kind index) = IsFitIndex index
IsFitStep (Cleanup k) = IsFitNumber k
IsFitStep (Read client) = IsFitNumber client
IsFitStep (Return client) = IsFitNumber client
IsFitStep Stall = ⊤

pub record IsSpeltOnce : Type 0 where
  pub one : (bytes : List ℕ) (step : Step) → step_read bytes ≡ Some step → bytes ++ 10 ∷ [] ≡ step_line step
  pub back : (bytes : List ℕ) (step : Step) → IsFitStep step → bytes ++ 10 ∷ [] ≡ step_line step → step_read bytes ≡ Some step

-- Inputs

-- what an input has: its script, the steps of its schedule, and where its report begins, else its length
pub record Parts : Type 0 where
  pub script : Script
  pub steps : List Step
  pub rest : ℕ

-- the line that ends the script, where something may follow it
abbrev pub last_words : Part → List ℕ
last_words part.Script = []
last_words part.Schedule = codes "schedule"
last_words part.Report = codes "report"

abbrev pub may_be_followed : Part → Bool
may_be_followed part.Script = false
may_be_followed part.Schedule = true
may_be_followed part.Report = true

-- A line ends the script: it comes behind the last connector.
abbrev pub ends_script : Part → Draft → Row → Bool
ends_script p d row = may_be_followed p && (row.is_ended && (bytes_eq row.text (last_words p) && not (is_nil d.conns)))

-- a step, or the first fault of its line
unfoldable pub step_in_row : ℕ → Row → Result Step Fault
step_in_row line row =
    if not (list_all is_printable row.text) then Err (record { line = line; why = Bytes })
    else (if not row.is_ended then Err (record { line = line; why = Cut })
    else step_or_form (step_read row.text))
  where
    step_or_form : Option Step → Result Step Fault
    step_or_form None = Err (record { line = line; why = Form })
    step_or_form (Some step) = Ok step

abbrev pub with_step : Result Step Fault → Result (List Step) Fault → Result (List Step) Fault
with_step (Err fault) steps = Err fault
with_step (Ok step) (Err fault) = Err fault
with_step (Ok step) (Ok steps) = Ok (step ∷ steps)

-- the steps of lines, of which the first has a number
unfoldable pub steps_in : ℕ → List Row → Result (List Step) Fault
steps_in line [] = Ok []
steps_in line (row ∷ rows) = with_step (step_in_row line row) (steps_in (line + 1) rows)

abbrev pub with_schedule : ℕ → Draft → Result (List Step) Fault → Result Parts Fault
with_schedule size d (Err fault) = Err fault
with_schedule size d (Ok steps) = Ok (record { script = script_in d; steps = steps; rest = size })

-- what follows the line that ends the script
abbrev pub behind_script : Part → ℕ → Draft → ℕ → Row → List Row → Result Parts Fault
behind_script part.Report size d line row rows = Ok (record { script = script_in d; steps = []; rest = d.size + length row.text + 1 })
behind_script p size d line row rows = with_schedule size d (steps_in (line + 1) rows)

-- The lines end without that line: a report is demanded, a schedule is not.
abbrev pub at_end_of_lines : Part → ℕ → Draft → ℕ → Result Parts Fault
at_end_of_lines part.Report size d line = Err (missing_line line)
at_end_of_lines p size d line = if is_nil d.conns then Err (missing_line line)
    else Ok (record { script = script_in d; steps = []; rest = size })

-- lines that follow lines, of an input of a size
unfoldable pub parts_after : Part → ℕ → Draft → ℕ → List Row → Result Parts Fault
parts_after p size d line [] = at_end_of_lines p size d line
parts_after p size d line (row ∷ rows) =
    if ends_script p d row then behind_script p size d line row rows
    else or_fault line (line_after d row) (λ next. parts_after p size next (line + 1) rows)

-- what an input spells, or its first fault; a fault at line 0 is of the input's size
unfoldable pub input_of : Part → List ℕ → Result Parts Fault
input_of p bytes =
    if nat_lt input_limit (length bytes) then Err (record { line = 0; why = Limit })
    else parts_after p (length bytes) blank_draft 1 (rows_of bytes)
