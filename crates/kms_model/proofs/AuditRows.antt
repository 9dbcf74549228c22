-- Worked examples of audits, computed: which line of a report is the first that is not right.
use Rattle.std.proofs.Common.{◌≡◌, ℕ, List, [], ◌∷◌, ◌++◌, map, drop, refl, codes, Option, Some, None, Result, Ok, Err}
use Rattle.kms_model.specs.declared.objects.Format.TheVariants.{Xr24}
use Rattle.kms_model.specs.declared.scripts.Command.{Command}
use Rattle.kms_model.specs.declared.scripts.Command.TheVariants as command
use Rattle.kms_model.specs.declared.scripts.Part.TheVariants as part
use Rattle.kms_model.specs.declared.scripts.Pattern.TheVariants.{Solid}
use Rattle.kms_model.specs.declared.scripts.Script.{Script}
use Rattle.kms_model.specs.Report.Right.{wrong_line}
use Rattle.kms_model.specs.Script.InputLines.{Fault}
use Rattle.kms_model.specs.Script.Schedules.{Parts, input_of}
use Rattle.kms_model.proofs.OnAudits.{on_audits}
use Rattle.kms_model.proofs.Rows.{device, head, made, script}

-- The report of the first script, and changes of it

abbrev wrong_behind : List ℕ → Result Parts Fault → Option ℕ
wrong_behind bytes (Err fault) = Some 0
wrong_behind bytes (Ok parts) = wrong_line parts.script (drop parts.rest bytes)

-- the same of the report behind the script of an input
abbrev audited : List ℕ → Option ℕ
audited bytes = wrong_behind bytes (input_of part.Report bytes)

abbrev pub lit : List ℕ
lit = codes "L 0 0 1 ba7816bf8f01cfea414140de5dae2223b00361a396177a9cb410ff61f20015ad\n"

abbrev drained : List ℕ
drained = codes "D drained\n"

-- its lines, with the eighth, the ninth and what follows
abbrev lines_with : List ℕ → List ℕ → List ℕ → List ℕ
lines_with eighth ninth rest =
    codes "J 1 1\nJ 1 2\nJ 1 3\nJ 1 4\nR 1 1 0 made 1000\nR 1 2 1 made 1001\nR 1 3 2 made 1002\n" ++ (eighth ++ (ninth ++ rest))

abbrev committed : List ℕ
committed = codes "R 1 4 3 commit 0\n"

abbrev lights : List ℕ
lights =
    codes "atomic 0x400 0 crtc0.ACTIVE=1 crtc0.MODE_ID=@m conn0.CRTC_ID=crtc0 plane0.FB_ID=@f plane0.CRTC_ID=crtc0 "
    ++ codes "plane0.CRTC_W=1 plane0.CRTC_H=1 plane0.SRC_W=65536 plane0.SRC_H=65536\n"

pub first_report_is_right : audited (head ++ made ++ lights ++ codes "report\n" ++ lines_with committed lit drained) ≡ None
unfolding on_audits
first_report_is_right = refl

abbrev changes : List (List ℕ)
changes =
    -- number of another commit
    lines_with (codes "R 1 4 3 commit 1\n") lit drained
    -- count of 0
    ∷ lines_with committed (codes "L 0 0 0 ba7816bf8f01cfea414140de5dae2223b00361a396177a9cb410ff61f20015ad\n") drained
    -- no L line: `drained` is not right then
    ∷ lines_with committed [] drained
    -- no D line
    ∷ lines_with committed lit []
    -- another place
    ∷ lines_with (codes "R 1 4 2 commit 0\n") lit drained
    -- another digest
    ∷ lines_with committed (codes "L 0 0 1 aa7816bf8f01cfea414140de5dae2223b00361a396177a9cb410ff61f20015ad\n") drained
    -- CRTC that is off
    ∷ lines_with committed (codes "L 0 0 1 off\n") drained
    -- CRTC that is not there: its number would be the id of a plane
    ∷ lines_with committed (codes "L 100 0 1 ba7816bf8f01cfea414140de5dae2223b00361a396177a9cb410ff61f20015ad\n") drained
    -- L line that is one too many
    ∷ lines_with committed lit (lit ++ drained)
    -- no R line of an entry
    ∷ lines_with [] lit drained
    -- label that is no fence's
    ∷ lines_with committed lit (codes "D stalled m\n")
    -- no R line of an entry, before an L line that is one too many
    ∷ lines_with [] lit (lit ++ drained)
    ∷ []

pub each_change_has_its_line : map (wrong_line (script 0x400 0)) changes
    ≡ Some 8 ∷ Some 9 ∷ Some 9 ∷ Some 10 ∷ Some 8 ∷ Some 9 ∷ Some 9 ∷ Some 9 ∷ Some 10 ∷ Some 8 ∷ Some 10 ∷ Some 8 ∷ []
unfolding on_audits
each_change_has_its_line = refl

-- A report that is open has fewer L lines than are shown, and its T lines say nothing.
pub open_report_is_right : wrong_line (script 0x400 0) (lines_with committed [] (codes "D open 8\nT stall\n")) ≡ None
unfolding on_audits
open_report_is_right = refl

-- Small scripts

abbrev pub script_of : List (List ℕ) → List (List Command) → Script
script_of names clients = record { version = 1; topology = device; names = names; clients = clients }

-- Journals and boundaries: two fences of the first client, and one of the second

abbrev fences : Script
fences = script_of (codes "a" ∷ codes "b" ∷ codes "c" ∷ []) ((command.Fence 0 ∷ command.Fence 1 ∷ []) ∷ (command.Fence 2 ∷ []) ∷ [])

abbrev entries_of_fences : List ℕ
entries_of_fences = codes "J 1 1\nJ 1 2\nJ 2 1\n"

abbrev reports_of_fences : List (List ℕ)
reports_of_fences =
    (entries_of_fences ++ codes "R 1 1 0 made 1000\nR 1 2 1 made 1001\nR 2 1 2 made 1002\nD drained\n")
    -- command that is an entry twice
    ∷ codes "J 1 1\nJ 1 2\nJ 1 2\nD open 0\n"
    -- lower command behind a higher one
    ∷ codes "J 1 2\nJ 1 1\nD open 0\n"
    -- command that is not there
    ∷ codes "J 3 1\nD open 0\n"
    -- second entry of the first client without an R line: the line of the next client is not right
    ∷ (entries_of_fences ++ codes "R 1 1 0 made 1000\nR 2 1 2 made 1002\nD open 0\n")
    -- last client without an R line
    ∷ (entries_of_fences ++ codes "R 1 1 0 made 1000\nR 1 2 1 made 1001\nD open 0\n")
    -- first client without an R line: nothing stands before the first R line
    ∷ (entries_of_fences ++ codes "R 2 1 2 made 1002\nD open 0\n")
    -- no R line of an entry: the first line that is no J line is not right
    ∷ (entries_of_fences ++ codes "D open 0\n")
    -- clients that fall
    ∷ (entries_of_fences ++ codes "R 2 1 2 made 1002\nR 1 1 0 made 1000\nR 1 2 1 made 1001\nD open 0\n")
    -- R line of an entry that stands too late: the line before it is right
    ∷ (entries_of_fences ++ codes "R 1 1 0 made 1000\nR 2 1 2 made 1002\nR 1 2 1 made 1001\nD open 0\n")
    -- second command first
    ∷ codes "R 1 2 0 made 1000\nD open 0\n"
    -- place behind the journal's end
    ∷ codes "R 1 1 1 made 1000\nD open 0\n"
    -- reply that accepts what is no entry
    ∷ codes "R 1 1 0 made 1000\nD open 0\n"
    ∷ []

pub each_report_of_fences_has_its_line : map (wrong_line fences) reports_of_fences
    ≡ None ∷ Some 3 ∷ Some 2 ∷ Some 1 ∷ Some 5 ∷ Some 6 ∷ Some 5 ∷ Some 4 ∷ Some 5 ∷ Some 6 ∷ Some 1 ∷ Some 1 ∷ Some 1 ∷ []
unfolding on_audits
each_report_of_fences_has_its_line = refl

-- Three clients with a fence each

abbrev three_fences : Script
three_fences = script_of (codes "a" ∷ codes "b" ∷ codes "c" ∷ [])
    ((command.Fence 0 ∷ []) ∷ (command.Fence 1 ∷ []) ∷ (command.Fence 2 ∷ []) ∷ [])

abbrev entries_of_three : List ℕ
entries_of_three = codes "J 1 1\nJ 2 1\nJ 3 1\n"

abbrev reports_of_three : List (List ℕ)
reports_of_three =
    -- client without an R line between two others, below them, and above them: the first line behind those of another client
    (entries_of_three ++ codes "R 1 1 0 made 1000\nR 3 1 2 made 1002\nD open 0\n")
    ∷ (entries_of_three ++ codes "R 2 1 1 made 1001\nR 3 1 2 made 1002\nD open 0\n")
    ∷ (entries_of_three ++ codes "R 1 1 0 made 1000\nR 2 1 1 made 1001\nD open 0\n")
    -- R line of one client alone
    ∷ (entries_of_three ++ codes "R 1 1 0 made 1000\nD open 0\n")
    ∷ (entries_of_three ++ codes "R 3 1 2 made 1002\nD open 0\n")
    -- second client without a reply
    ∷ codes "J 1 1\nR 1 1 0 made 1000\nD drained\n"
    -- command that is not there
    ∷ codes "J 1 1\nR 1 1 0 made 1000\nR 1 2 1 none\nD open 0\n"
    -- places of two clients need not rise
    ∷ codes "J 3 1\nJ 1 1\nR 1 1 1 made 1001\nR 3 1 0 made 1000\nD open 0\n"
    ∷ []

pub each_report_of_three_has_its_line : map (wrong_line three_fences) reports_of_three
    ≡ Some 5 ∷ Some 5 ∷ Some 5 ∷ Some 5 ∷ Some 5 ∷ Some 3 ∷ Some 3 ∷ None ∷ []
unfolding on_audits
each_report_of_three_has_its_line = refl

-- Fences that are signalled, a history that waits for one, and framebuffers that are freed

abbrev pub closing : Script
closing = script_of (codes "b" ∷ codes "f" ∷ codes "n" ∷ codes "q" ∷ [])
    ((command.Buffer 0 1 1 Xr24 (Solid 0) ∷ command.AddFb 1 0 ∷ command.CloseFb 1 ∷ command.Fence 2
    ∷ command.Signal 2 ∷ command.Signal 3 ∷ []) ∷ [])

abbrev closed_with : List ℕ → List ℕ
closed_with rest =
    codes "J 1 1\nJ 1 2\nJ 1 3\nJ 1 4\nR 1 1 0 made 1000\nR 1 2 1 made 1001\nR 1 3 2 done\nR 1 4 3 made 1002\n" ++ rest

abbrev pub closing_report : List ℕ
closing_report = closed_with (codes "R 1 5 4 done\nR 1 6 4 EINVAL 35\nX f 1001\nD drained\n")

abbrev reports_of_closing : List (List ℕ)
reports_of_closing =
    closing_report
    -- signal as an entry
    ∷ codes "J 1 1\nJ 1 2\nJ 1 3\nJ 1 4\nJ 1 5\nD open 0\n"
    -- signal that is not done
    ∷ closed_with (codes "R 1 5 4 EINVAL 35\nD open 0\n")
    -- signal of what is no fence
    ∷ closed_with (codes "R 1 5 4 done\nR 1 6 4 done\nD open 0\n")
    -- framebuffer that is freed twice, under another label, and a buffer
    ∷ closed_with (codes "X f 1001\nX f 1001\nD open 0\n")
    ∷ closed_with (codes "X b 1001\nD open 0\n")
    ∷ closed_with (codes "X b 1000\nD open 0\n")
    -- command without a reply
    ∷ closed_with (codes "X f 1001\nD drained\n")
    -- fence that was made, label of a framebuffer, and a label that nothing has
    ∷ closed_with (codes "D stalled n\n")
    ∷ closed_with (codes "D stalled f\n")
    ∷ closed_with (codes "D stalled z\n")
    -- place that does not rise behind an entry, and one that falls
    ∷ closed_with (codes "R 1 5 3 EINVAL 35\nD open 0\n")
    ∷ closed_with (codes "R 1 5 4 done\nR 1 6 3 EINVAL 35\nD open 0\n")
    -- command that is left out, and one that is not the first
    ∷ closed_with (codes "R 1 6 4 EINVAL 35\nD open 0\n")
    ∷ codes "R 1 6 0 EINVAL 35\nD open 0\n"
    -- framebuffer that is open
    ∷ codes "J 1 1\nJ 1 2\nR 1 1 0 made 1000\nR 1 2 1 made 1001\nX f 1001\nD open 0\n"
    -- fence that the journal did not make
    ∷ codes "J 1 1\nJ 1 2\nJ 1 3\nR 1 1 0 made 1000\nR 1 2 1 made 1001\nR 1 3 2 done\nD stalled n\n"
    -- X line that is not right, before such a D line
    ∷ closed_with (codes "X b 1001\nD stalled f\n")
    ∷ []

pub each_report_of_closing_has_its_line : map (wrong_line closing) reports_of_closing
    ≡ None ∷ Some 5 ∷ Some 9 ∷ Some 10 ∷ Some 10 ∷ Some 9 ∷ Some 9 ∷ Some 10 ∷ None ∷ Some 9 ∷ Some 9
    ∷ Some 9 ∷ Some 10 ∷ Some 9 ∷ Some 1 ∷ Some 5 ∷ Some 7 ∷ Some 9 ∷ []
unfolding on_audits
each_report_of_closing_has_its_line = refl
