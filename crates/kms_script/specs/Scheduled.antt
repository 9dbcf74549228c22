-- The line of a step in the schedule of a script, and the parts that a reader takes of it.
use Rattle.std.specs.Prelude.{◌≡◌, ◌≤◌, ◌⊎◌, ℕ, List, [], ◌++◌, length, Option, Some, None, Ok, codes}
use Rattle.std.specs.List.{flat_map}
use Rattle.kms_model.specs.declared.objects.Kind.{Kind}
use Rattle.kms_model.specs.declared.replies.Step.{Step}
use Rattle.kms_model.specs.declared.replies.Step.TheVariants.{Lock, Write, Flush, Vblank}
use Rattle.kms_model.specs.declared.scripts.Part.TheVariants as part
use Rattle.kms_model.specs.declared.scripts.Script.{Script}
use Rattle.kms_model.specs.Promises.{InEachHistory}
use Rattle.kms_model.specs.Report.History.{step_line, step_words}
use Rattle.kms_model.specs.Script.InputLines.{input_limit}
use Rattle.kms_model.specs.Script.Schedules.{IsFitStep, greatest_number, input_of, object_at}
use Rattle.kms_model.specs.Script.Spelling.{spelling}
use Rattle.kms_model.specs.Script.WholeInput.{script_limit}
use Rattle.kms_model.specs.Script.Words.{◌>>=◌, dec_at, end_at}
use Rattle.kms_words.specs.Printed.{fields}
use Rattle.kms_script.specs.Stated.{parts_of}

-- the line of a step, without its line feed: `T`, and the step's words with one blank before each
abbrev pub step_text : Step → List ℕ
step_text step = codes "T" ++ fields (step_words step)

-- bytes are the line of a step, whose numbers are such as a line may have
pub record IsStepLine (bytes : List ℕ) (step : Step) : Type 0 where
  pub fits : IsFitStep step
  pub text : bytes ≡ step_text step

-- the text of a script with a schedule behind it
abbrev pub scheduled : Script → List Step → List ℕ
scheduled s h = spelling s ++ (codes "schedule\n" ++ flat_map step_line h)

-- bytes are the text of a script with its schedule, which may be left out where it has no steps
abbrev pub IsScheduleText : List ℕ → Script → List Step → Type 0
IsScheduleText bytes s steps = (bytes ≡ scheduled s steps) ⊎ ((bytes ≡ spelling s) × (steps ≡ []))

-- Each history is read back of its schedule behind the text of its script, where both are within the limits: the script's
-- text alone, and the whole.
abbrev pub SchedulesAreReadBack : Type 0
SchedulesAreReadBack = InEachHistory (λ s h.
    length (spelling s) ≤ script_limit → length (scheduled s h) ≤ input_limit
    → input_of part.Schedule (scheduled s h) ≡ Ok (parts_of s h (length (scheduled s h))))

-- the index of the object that a step names
abbrev pub index_in_step : Step → Option ℕ
index_in_step (Lock client kind index) = Some index
index_in_step (Write k kind index) = Some index
index_in_step (Flush k kind index) = Some index
index_in_step (Vblank kind index) = Some index
index_in_step step = None

-- the number of a client or a commit, at the end of a line
unfoldable pub last_number : List ℕ → Option ℕ
last_number bytes = do
  n ← dec_at greatest_number bytes
  _ ← end_at n.1
  Some n.0

-- that number with an object behind it
unfoldable pub number_and_object : List ℕ → Option (ℕ × Kind × ℕ)
number_and_object bytes = do
  n ← dec_at greatest_number bytes
  o ← object_at n.1
  Some (n.0, o.0, o.1)
