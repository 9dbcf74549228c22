-- The faults of a command's line.
use Rattle.std.proofs.Common.{◌≡◌, ℕ, ◌+◌, ◌≤◌, Bool, true, false, List, length, Option, Some, None, Ok, Err, refl, sym, ap, ◌∙◌, arith}
use Rattle.std.specs.Prelude.{◌&&◌, codes, nat_lt, Result}
use Rattle.std.specs.Str.{bytes_eq}
use Rattle.std.proofs.lemmas.Bool.{false≢true}
use Rattle.std.proofs.lemmas.Bool.Decides.{nat_tests}
use Rattle.kms_model.specs.declared.scripts.Command.{Command}
use Rattle.kms_model.specs.declared.scripts.Command.TheVariants as command
use Rattle.kms_model.specs.declared.scripts.Why.{Why}
use Rattle.kms_model.specs.declared.scripts.Why.TheVariants.{Bytes, Cut, Form, Label, Limit}
use Rattle.kms_model.specs.Script.CommandLines.{Names, atomic_read, command_read, is_over, line_read, or_form, place, unless, unmade}
use Rattle.kms_model.specs.Script.CommandLines.{words_in}
use Rattle.kms_model.specs.Script.Words.{from, until}
use Rattle.kms_model.specs.Script.WellFormed.{IsFitCommand}
use Rattle.kms_words.specs.Fitting.{HasFilled}
use Rattle.kms_script.specs.Lines.{GivesLine, checked, line_of}
use Rattle.kms_script.specs.Overlong.{blank_count, has_many}
use Rattle.kms_script.specs.Stated.{GivesCommand, line_error}
use Rattle.kms_script.specs.declared.stop.Stop.{Stop}
use Rattle.kms_script.specs.declared.stop.Stop.TheVariants as stops
use Rattle.kms_script.proofs.EachCommand.{IsRequest, command_each}
use Rattle.kms_script.proofs.ManyFields.{assigns_count, request_blanks, words_blanks}

-- Commands that are no requests

-- what was read has no more than 256 assignments
abbrev IsFew : Command × Names → Type 0
IsFew r = is_over r.0 ≡ false

-- Requests

-- a request with no more fields than 256 assignments take
atomic_few : (names : Names) (bytes : List ℕ) (p : IsRequest names bytes) → has_many bytes ≡ false → nat_lt 256 (length p.sets.0) ≡ false
atomic_few names bytes p few =
    let count : length p.sets.0 ≡ blank_count p.user.1 = assigns_count p.words names p.sets p.given ∙ words_blanks p.user.1 p.words p.rest
    in
    test (length p.sets.0) (within (length p.sets.0) (request_blanks bytes p.flags p.user p.first p.second) count)
  where
    below : (n : ℕ) → nat_lt 258 n ≡ false → n ≤ 258
    below n lt = grind (arith, nat_tests)

    within : (n : ℕ) {b : ℕ} → blank_count bytes ≡ 2 + b → n ≡ b → n ≤ 256
    within n fields count = omega (arith, below (blank_count bytes) few, fields, count)

    test : (n : ℕ) → n ≤ 256 → nat_lt 256 n ≡ false
    test n le = grind (arith, nat_tests)

-- a line with no more fields than a request may have is that of a command with no more assignments
few_assigns : (names : Names) (text : List ℕ) (r : Command × Names)
    → (bytes_eq (until 32 text) (codes "atomic") && has_many (from 32 text)) ≡ false → command_read names text ≡ Some r → IsFew r
few_assigns names text r few e = command_each names
    (λ k bytes r. (bytes_eq k (codes "atomic") && has_many bytes) ≡ false → IsFew r) (record {
      atomic = atomic_few names;
      wait = λ bytes end few. refl;
      naming = λ k f of bytes label alone few. of.few (place label names);
      making_one = λ k f of bytes label alone few. of.few (place label names);
      buffer = λ bytes p few. refl;
      addfb = λ bytes p few. refl;
      mode = λ bytes p few. refl;
      blob = λ bytes p few. refl;
    }) text r e few

fits : (c : Command) → HasFilled c → is_over c ≡ false → IsFitCommand c
fits (command.Buffer label width height format pattern) filled few = filled
fits (command.Atomic r) filled few = within (length r.assigns) few
  where
    within : (n : ℕ) → nat_lt 256 n ≡ false → n ≤ 256
    within n e = grind (arith, nat_tests)
fits (command.AddFb label buffer) filled few = tt
fits (command.Mode label m) filled few = tt
fits (command.Blob label bytes) filled few = tt
fits (command.Destroy label) filled few = tt
fits (command.CloseFb label) filled few = tt
fits (command.Fence label) filled few = tt
fits (command.Signal label) filled few = tt
fits command.Wait filled few = tt

-- such a command is within the limits of one
pub fit_command : (names after : Names) (text : List ℕ) (c : Command)
    → (bytes_eq (until 32 text) (codes "atomic") && has_many (from 32 text)) ≡ false → command_read names text ≡ Some (c, after)
    → HasFilled c → IsFitCommand c
fit_command names after text c few e filled = fits c filled (few_assigns names text (c, after) few e)

-- Lines

pub atomic_line : (names : Names) (text : List ℕ) → bytes_eq (until 32 text) (codes "atomic") ≡ true
    → line_of names text ≡ checked (atomic_read names (from 32 text))
unfolding command_read
atomic_line names text e = rw e refl

pub line_read_well : (names after : Names) (text : List ℕ) (c : Command)
    → (bytes_eq (until 32 text) (codes "atomic") && has_many (from 32 text)) ≡ false → command_read names text ≡ Some (c, after)
    → after.is_twice ≡ false → line_of names text ≡ Ok (c, after)
line_read_well names after text c few e once = rw (e, once, few_assigns names text (c, after) few e) refl

-- A line alone

-- a command with the names after it
abbrev well : Command × Names → Result (Command × Names) Why
well r = Ok r

-- a command with the words of the names after it
abbrev with_words : Command × Names → Result (Command × List (List ℕ)) Why
with_words r = Ok (r.0, words_in r.1)

-- what was read of a line alone, or its fault
abbrev alone : Option (Command × Names) → Result (Command × List (List ℕ)) Why
alone o = or_form o (λ r. unless r.1.is_twice Label (unless (is_over r.0) Limit (with_words r)))

read_step : (o : Option (Command × Names)) (c : Command) (after : Names) → checked o ≡ well (c, after) → alone o ≡ with_words (c, after)
read_step None c after e = absurd cc
read_step (Some r) c after e = step r.1.is_twice (is_over r.0) e
  where
    step : (twice over : Bool) → unless twice Label (unless over Limit (well r)) ≡ well (c, after)
        → unless twice Label (unless over Limit (with_words r)) ≡ with_words (c, after)
    step true over e = absurd cc
    step false true e = absurd cc
    step false false e = let same : r ≡ (c, after) = cc in rw same refl

-- a command with the names after it
pub alone_read : (profile : ℕ) (words : List (List ℕ)) (text : List ℕ) (c : Command) (after : Names)
    → line_of (unmade profile words) text ≡ Ok (c, after) → line_read profile words text ≡ Ok (c, words_in after)
unfolding line_read
alone_read profile words text c after e = read_step (command_read (unmade profile words) text) c after e

-- a line of a command has one of three faults
abbrev is_of_line : Why → Bool
is_of_line Form = true
is_of_line Label = true
is_of_line Limit = true
is_of_line Bytes = false
is_of_line Cut = false

-- a fault is one of these, and the same
record FaultAlone (stated : Result (Command × List (List ℕ)) Why) (why : Why) : Type 0 where
  same : stated ≡ Err why
  of_line : is_of_line why ≡ true

fault_step : (o : Option (Command × Names)) (why : Why) → checked o ≡ Err why → FaultAlone (alone o) why
fault_step None why e = let is : Form ≡ why = cc in record { same = ap Err is; of_line = sym (ap is_of_line is) }
fault_step (Some r) why e = step r.1.is_twice (is_over r.0) e
  where
    step : (twice over : Bool) → unless twice Label (unless over Limit (Ok r)) ≡ Err why
        → FaultAlone (unless twice Label (unless over Limit (with_words r))) why
    step true over e = let is : Label ≡ why = cc in record { same = ap Err is; of_line = sym (ap is_of_line is) }
    step false true e = let is : Limit ≡ why = cc in record { same = ap Err is; of_line = sym (ap is_of_line is) }
    step false false e = absurd cc

error_step : (stated : Result (Command × List (List ℕ)) Why) (after : List (List ℕ)) (why : Why) → FaultAlone stated why
    → GivesCommand (Err (line_error (stops.Fault why))) stated after
error_step stated after Form f = f.same
error_step stated after Label f = f.same
error_step stated after Limit f = f.same
error_step stated after Bytes f = absurd (false≢true f.of_line)
error_step stated after Cut f = absurd (false≢true f.of_line)

-- the error of a line
pub alone_stopped : (profile : ℕ) (words after : List (List ℕ)) (text : List ℕ) (names : Names) (stop : Stop)
    → GivesLine (Err stop) (line_of (unmade profile words) text) names
    → GivesCommand (Err (line_error stop)) (line_read profile words text) after
unfolding line_read
alone_stopped profile words after text names (stops.Fault why) e =
    error_step _ after why (fault_step (command_read (unmade profile words) text) why e)
alone_stopped profile words after text names stops.NoMemory e = tt
