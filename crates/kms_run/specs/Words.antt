-- The words of the command line, without the program's own name. This device's own.
use Rattle.std.specs.Prelude.{ℕ, ◌≤◌, ◌^◌, ◌-◌, ◌==◌, Bool, true, false, not, ◌&&◌, List}
use Rattle.std.specs.Prelude.{[], ◌∷◌, codes, Option, Some, None, if◌then◌else◌, ⊤}
use Rattle.std.specs.Str.{bytes_eq}
use Rattle.kms_model.specs.declared.scripts.Part.{Part}
use Rattle.kms_model.specs.declared.scripts.Part.TheVariants as part
use Rattle.kms_report.specs.declared.histories.Options.{Options}
use Rattle.kms_model.specs.Script.Words.{◌>>=◌, dec}
use Rattle.kms_run.specs.declared.words.Action.{Action}
use Rattle.kms_run.specs.declared.words.Action.TheVariants.{One, Replay, Run}
use Rattle.kms_run.specs.declared.words.Task.{Task}
use Rattle.kms_run.specs.declared.words.Task.TheVariants.{Audit, Execute, Generate, Suspend, Translate}
use Rattle.kms_run.specs.declared.words.Count.{Count}
use Rattle.kms_run.specs.declared.words.Count.TheVariants.{Untold, Awaited, Told}
use Rattle.kms_run.specs.declared.words.Execution.{Execution}
use Rattle.kms_run.specs.declared.words.Generation.{Generation}
use Rattle.kms_run.specs.declared.words.RunWords.{RunWords}
use Rattle.kms_run.specs.declared.words.ThreadedRun.{ThreadedRun}

-- the action that the first word names, but for `run`
abbrev pub action_of : List ℕ → Option Action
action_of word = if bytes_eq word (codes "one") then Some One else (if bytes_eq word (codes "replay") then Some Replay else None)

-- what may follow the script: a schedule for `replay`, and nothing for `one` and `run`
abbrev pub part_of : Action → Part
part_of One = part.Script
part_of Replay = part.Schedule
part_of (Run threads) = part.Script

-- threads do the steps, which wait for one another
abbrev pub needs_threads : Action → Bool
needs_threads (Run threads) = true
needs_threads _ = false

abbrev pub no_options : Options
no_options = record { trace = false; ppm = false }

-- options with one more, which they do not have yet
abbrev pub with_option : Options → List ℕ → Option Options
with_option o word =
    if bytes_eq word (codes "--trace") && not o.trace then Some (record { trace = true; ppm = o.ppm })
    else (if bytes_eq word (codes "--ppm") && not o.ppm then Some (record { trace = o.trace; ppm = true })
    else None)

-- options with those that words name, each at most once, in any order
unfoldable pub options_after : Options → List (List ℕ) → Option Options
options_after o [] = Some o
options_after o (word ∷ words) = with_option o word >>= (λ more. options_after more words)

-- what `one` or `replay` asks for, followed by options
unfoldable pub execution_of : List ℕ → List (List ℕ) → Option Execution
execution_of word words = do
  action ← action_of word
  options ← options_after no_options words
  Some (record { action = action; options = options })

-- what `run` asks for, as what is done with a script
abbrev pub run_execution : ThreadedRun → Execution
run_execution asks = record { action = Run asks.threads; options = asks.options }

-- the number from 1 to the most that a word spells
unfoldable pub number_in_word : ℕ → List ℕ → Option ℕ
number_in_word most word = dec most word >>= (λ n. if n == 0 then None else Some n)

-- what words behind `run` tell with one more: the number behind `--threads`, or `--threads`, which comes once, or an option
unfoldable pub with_word_at : Count → Options → List ℕ → Option RunWords
with_word_at Awaited o word = number_in_word 16 word >>= (λ n. Some (record { threads = Told n; options = o }))
with_word_at Untold o word =
    if bytes_eq word (codes "--threads") then Some (record { threads = Awaited; options = o })
    else with_option o word >>= (λ more. Some (record { threads = Untold; options = more }))
with_word_at (Told n) o word = with_option o word >>= (λ more. Some (record { threads = Told n; options = more }))

-- what words have told that ask for a run once a number of threads was told
abbrev pub run_with : Count → Options → Option Execution
run_with (Told n) o = Some (record { action = Run n; options = o })
run_with Untold o = None
run_with Awaited o = None

-- what more words behind `run` ask for, in any order
unfoldable pub run_after : RunWords → List (List ℕ) → Option Execution
run_after told [] = run_with told.threads told.options
run_after told (word ∷ words) = with_word_at told.threads told.options word >>= (λ more. run_after more words)

-- no word behind `run`
abbrev pub no_words : RunWords
no_words = record { threads = Untold; options = no_options }

-- whether the script is run: `--run`, or nothing
abbrev pub run_flag : List (List ℕ) → Option Bool
run_flag [] = Some false
run_flag (word ∷ []) = if bytes_eq word (codes "--run") then Some true else None
run_flag (word ∷ more ∷ words) = None

-- what `gen` asks for, by the words behind it: a seed, a number of commits, and whether the script is run
unfoldable pub generation_of : List (List ℕ) → Option Generation
generation_of [] = None
generation_of (word ∷ []) = None
generation_of (seed_word ∷ commits_word ∷ words) = do
  seed ← dec (2 ^ 64 - 1) seed_word
  commits ← number_in_word 4000 commits_word
  run ← run_flag words
  Some (record { seed = seed; commits = commits; run = run })

-- what `legacy` asks for, which no word follows
abbrev pub translation_of : List (List ℕ) → Option Task
translation_of [] = Some Translate
translation_of (word ∷ words) = None

-- what `suspend` asks for, which no word follows
abbrev pub suspension_of : List (List ℕ) → Option Task
suspension_of [] = Some Suspend
suspension_of (word ∷ words) = None

-- what `audit` asks for, which no word follows
abbrev pub audit_of : List (List ℕ) → Option Task
audit_of [] = Some Audit
audit_of (word ∷ words) = None

-- `legacy`, `suspend`, `audit`, or `one` and `replay`: one thread does what these ask for
unfoldable pub asked_of_one : List ℕ → List (List ℕ) → Option Task
asked_of_one word words =
    if bytes_eq word (codes "legacy") then translation_of words
    else (if bytes_eq word (codes "suspend") then suspension_of words
    else (if bytes_eq word (codes "audit") then audit_of words
    else execution_of word words >>= (λ asks. Some (Execute asks))))

-- What the legal words ask for: `gen`, `run`, `legacy`, `suspend`, `audit`, or `one` and `replay`. All other words are not legal.
unfoldable pub asked : List (List ℕ) → Option Task
asked [] = None
asked (word ∷ words) =
    if bytes_eq word (codes "gen") then generation_of words >>= (λ asks. Some (Generate asks))
    else (if bytes_eq word (codes "run") then run_after no_words words >>= (λ asks. Some (Execute asks))
    else asked_of_one word words)

-- what is asked for is a run
abbrev pub asks_run : Option Task → Bool
asks_run (Some (Execute asks)) = needs_threads asks.action
asks_run (Some (Generate asks)) = false
asks_run (Some Translate) = false
asks_run (Some Suspend) = false
asks_run (Some Audit) = false
asks_run None = false

-- the words are legal words of `run`
abbrev pub is_run : List (List ℕ) → Bool
is_run words = asks_run (asked words)

-- a script of so many commits is generated
pub record HasFewCommits (asks : Generation) : Type 0 where
  pub some : 1 ≤ asks.commits
  pub few : asks.commits ≤ 4000

-- from 1 to 16 threads
abbrev pub AreFewThreads : ℕ → Type 0
AreFewThreads n = (1 ≤ n) × (n ≤ 16)

abbrev pub HasFewThreads : Action → Type 0
HasFewThreads (Run n) = AreFewThreads n
HasFewThreads One = ⊤
HasFewThreads Replay = ⊤

abbrev pub IsFewCount : Count → Type 0
IsFewCount (Told n) = AreFewThreads n
IsFewCount Untold = ⊤
IsFewCount Awaited = ⊤

abbrev pub AsksForFew : Task → Type 0
AsksForFew (Execute asks) = HasFewThreads asks.action
AsksForFew (Generate asks) = HasFewCommits asks
AsksForFew Translate = ⊤
AsksForFew Suspend = ⊤
AsksForFew Audit = ⊤
