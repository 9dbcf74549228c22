-- Worked examples of audits, computed: latches, events, framebuffers that are freed, and the end.
use Rattle.std.proofs.Common.{◌≡◌, ℕ, true, false, List, [], ◌∷◌, ◌++◌, map, take, refl, codes, Some, None}
use Rattle.kms_model.specs.declared.objects.Format.TheVariants.{Xr24}
use Rattle.kms_model.specs.declared.objects.Kind.TheVariants as kind
use Rattle.kms_model.specs.declared.properties.TheConstants.{ACTIVE, ALPHA, FB_ID, OUT_FENCE_PTR}
use Rattle.kms_model.specs.declared.replies.Event.{Event}
use Rattle.kms_model.specs.declared.replies.Reply.{Reply}
use Rattle.kms_model.specs.declared.replies.Reply.TheVariants as reply
use Rattle.kms_model.specs.declared.reports.End.TheVariants.{Drained}
use Rattle.kms_model.specs.declared.reports.Report.{Report}
use Rattle.kms_model.specs.declared.scripts.Command.{Command}
use Rattle.kms_model.specs.declared.scripts.Command.TheVariants as command
use Rattle.kms_model.specs.declared.scripts.Pattern.TheVariants.{Solid}
use Rattle.kms_model.specs.declared.scripts.Script.{Script}
use Rattle.kms_model.specs.declared.scripts.Value.TheVariants as value
use Rattle.kms_model.specs.Report.Right.{LatchLine, event_is_right, events_are_whole, has_a_line, latch_is_right, uses_a_line, wrong_line}
use Rattle.kms_model.specs.Report.RightAnswers.{first_off}
use Rattle.kms_model.proofs.AuditRows.{lit, script_of}
use Rattle.kms_model.proofs.AuditAnswerRows.{lit_and_put_off, lit_report, with_event}
use Rattle.kms_model.proofs.OnAudits.{on_audits}
use Rattle.kms_model.proofs.ReportRows.{event}
use Rattle.kms_model.proofs.Rows.{device, named_tiny}
use Rattle.kms_model.proofs.VerdictRows.{light, number, request, sets, put_off}

-- Counts and latches of the framebuffer that is lit and put off

abbrev line_of : ℕ → ℕ → LatchLine
line_of commit count = record { crtc = 0; commit = commit; count = count; digest = None }

-- behind a line with the count 1
pub count_of_a_crtc_that_is_off_may_stay :
    map (λ count. latch_is_right lit_and_put_off lit_report (line_of 0 1 ∷ []) (line_of 1 count)) (0 ∷ 1 ∷ 2 ∷ [])
    ≡ false ∷ true ∷ true ∷ []
unfolding on_audits
count_of_a_crtc_that_is_off_may_stay = refl

abbrev read_events : List (ℕ × Event)
read_events = (1, event 7 1 100) ∷ (1, event 7 1 100) ∷ []

-- Two L lines serve two equal E lines, and no third: as many as fit are left, or the first that is left is used.
pub each_latch_serves_one_event :
    map (λ n. has_a_line lit_and_put_off lit_report (take n read_events) (1, event 7 1 100)) (0 ∷ 1 ∷ 2 ∷ []) ≡ true ∷ true ∷ false ∷ []
unfolding on_audits
each_latch_serves_one_event = refl

pub first_that_is_left_is_used :
    map (λ n. uses_a_line lit_and_put_off lit_report (take n read_events) (1, event 7 1 100)) (0 ∷ 1 ∷ 2 ∷ []) ≡ true ∷ true ∷ false ∷ []
unfolding on_audits
first_that_is_left_is_used = refl

-- events of two counts by turns, and L lines for three of them: both rules leave out the fourth
abbrev by_turns : List (ℕ × Event)
by_turns = (1, event 7 2 100) ∷ (1, event 7 1 100) ∷ (1, event 7 2 100) ∷ (1, event 7 1 100) ∷ []

abbrev turning : Report
turning = record lit_report { latches = (0, 0, 2, None) ∷ (0, 1, 1, None) ∷ (0, 0, 4294967298, None) ∷ [] }

pub fourth_has_no_line : first_off (has_a_line lit_and_put_off turning) [] by_turns ≡ Some 3
unfolding on_audits
fourth_has_no_line = refl

pub fourth_uses_no_line : first_off (uses_a_line lit_and_put_off turning) [] by_turns ≡ Some 3
unfolding on_audits
fourth_uses_no_line = refl

-- no L line fits other data, another sequence, another CRTC or another client
abbrev other_events : List (ℕ × Event)
other_events = (1, event 6 1 100) ∷ (1, event 7 2 100) ∷ (1, event 7 1 101) ∷ (2, event 7 1 100) ∷ []

pub no_latch_serves_another_event : map (has_a_line lit_and_put_off lit_report []) other_events ≡ false ∷ false ∷ false ∷ false ∷ []
unfolding on_audits
no_latch_serves_another_event = refl

-- Two CRTCs that stay off, so without a digest

abbrev dark : Script
dark = record {
  version = 1;
  topology = record device { crtcs = 2 };
  names = [];
  clients =
      (request 0x0 (sets kind.Crtc 0 ACTIVE (number 0) ∷ sets kind.Crtc 1 ACTIVE (number 0) ∷ [])
      ∷ request 0x0 (sets kind.Crtc 1 ACTIVE (number 0) ∷ [])
      ∷ []) ∷ [];
}

abbrev dark_with : List ℕ → List ℕ
dark_with rest = codes "J 1 1\nJ 1 2\nR 1 1 0 commit 0\nR 1 2 1 commit 1\n" ++ rest

abbrev reports_of_two_crtcs : List (List ℕ)
reports_of_two_crtcs =
    -- each CRTC has its own lines and count
    dark_with (codes "L 0 0 3 off\nL 1 0 0 off\nL 1 1 0 off\nD drained\n")
    -- CRTCs that fall
    ∷ dark_with (codes "L 1 0 0 off\nL 1 1 0 off\nL 0 0 0 off\nD drained\n")
    -- L line of the second CRTC left out
    ∷ dark_with (codes "L 0 0 3 off\nL 1 0 0 off\nD drained\n")
    -- count that falls
    ∷ dark_with (codes "L 0 0 0 off\nL 1 0 2 off\nL 1 1 1 off\nD drained\n")
    -- commit that does not name the CRTC
    ∷ dark_with (codes "L 0 1 0 off\nD open 0\n")
    -- CRTC that is not there
    ∷ dark_with (codes "L 0 0 0 off\nL 2 0 0 off\nD open 0\n")
    -- L line of the first CRTC left out
    ∷ dark_with (codes "L 1 0 0 off\nL 1 1 0 off\nD drained\n")
    ∷ []

pub each_report_of_two_crtcs_has_its_line : map (wrong_line dark) reports_of_two_crtcs
    ≡ None ∷ Some 7 ∷ Some 7 ∷ Some 7 ∷ Some 5 ∷ Some 6 ∷ Some 7 ∷ []
unfolding on_audits
each_report_of_two_crtcs_has_its_line = refl

-- a count is compared with that of the line before, and not with the first
abbrev puts_off : Command
puts_off = request 0x0 (sets kind.Crtc 0 ACTIVE (number 0) ∷ [])

abbrev thrice_with : List ℕ → List ℕ
thrice_with rest =
    codes "J 1 1\nJ 1 2\nJ 1 3\nR 1 1 0 commit 0\nR 1 2 1 commit 1\nR 1 3 2 commit 2\nL 0 0 1 off\nL 0 1 3 off\n" ++ rest

pub third_count_is_not_below_the_second :
    map (wrong_line (script_of [] ((puts_off ∷ puts_off ∷ puts_off ∷ []) ∷ [])))
    (thrice_with (codes "L 0 2 3 off\nD drained\n") ∷ thrice_with (codes "L 0 2 2 off\nD open 0\n") ∷ [])
    ≡ None ∷ Some 9 ∷ []
unfolding on_audits
third_count_is_not_below_the_second = refl

-- framebuffers are named in any order
abbrev two_closed : Script
two_closed = script_of (codes "b" ∷ codes "f" ∷ codes "g" ∷ [])
    ((command.Buffer 0 1 1 Xr24 (Solid 0) ∷ command.AddFb 1 0 ∷ command.AddFb 2 0 ∷ command.CloseFb 1 ∷ command.CloseFb 2 ∷ []) ∷ [])

pub framebuffers_are_freed_in_any_order :
    wrong_line two_closed
    (codes "J 1 1\nJ 1 2\nJ 1 3\nJ 1 4\nJ 1 5\nR 1 1 0 made 1000\nR 1 2 1 made 1001\nR 1 3 2 made 1002\nR 1 4 3 done\nR 1 5 4 done\n"
    ++ codes "X g 1002\nX f 1001\nD drained\n") ≡ None
unfolding on_audits
framebuffers_are_freed_in_any_order = refl

-- A flip whose event is read, with every letter

abbrev flip : Script
flip = script_of (codes "b" ∷ codes "f" ∷ codes "m" ∷ codes "b2" ∷ codes "f2" ∷ [])
    ((command.Buffer 0 1 1 Xr24 (Solid 0x00616263) ∷ command.AddFb 1 0 ∷ command.Mode 2 named_tiny ∷ request 0x400 light
    ∷ command.Buffer 3 1 1 Xr24 (Solid 0x00666f6f) ∷ command.AddFb 4 3
    ∷ command.Atomic (record { flags = 0x1; user_data = 7; assigns = sets kind.Plane 0 FB_ID (value.Named 4) ∷ [] })
    ∷ command.Wait ∷ command.CloseFb 1 ∷ command.Wait ∷ []) ∷ [])

-- its report with what the two `wait` were told, and with the lines behind the first L line
abbrev flip_with : List ℕ → List ℕ → List ℕ → List ℕ
flip_with first second rest =
    codes "J 1 1\nJ 1 2\nJ 1 3\nJ 1 4\nJ 1 5\nJ 1 6\nJ 1 7\nJ 1 9\nR 1 1 0 made 1000\nR 1 2 1 made 1001\nR 1 3 2 made 1002\n"
    ++ (codes "R 1 4 3 commit 0\nR 1 5 4 made 1003\nR 1 6 5 made 1004\nR 1 7 6 commit 1\nR 1 8 7 " ++ (first
    ++ (codes "\nR 1 9 7 done\nR 1 10 8 " ++ (second ++ (codes "\n" ++ (lit ++ rest))))))

abbrev shown_second : List ℕ
shown_second = codes "L 0 1 2 2c26b46b68ffc68ff99b453c1d30413413422d706483bfa0f98a5e886266e7ae\n"

abbrev told : List ℕ
told = codes "event 7 2 100"

abbrev nothing : List ℕ
nothing = codes "none"

abbrev reports_of_events : List (List ℕ)
reports_of_events =
    flip_with told nothing (shown_second ++ codes "E 1 7 2 100\nX f 1001\nD drained\n")
    -- no event was there, which nothing tells
    ∷ flip_with nothing nothing (shown_second ++ codes "X f 1001\nD drained\n")
    -- `wait` that was answered something else
    ∷ flip_with (codes "commit 1") nothing (shown_second ++ codes "X f 1001\nD drained\n")
    -- E line left out: the X line is not right then
    ∷ flip_with told nothing (shown_second ++ codes "X f 1001\nD drained\n")
    -- E line twice, and told twice too: there is one latch
    ∷ flip_with told nothing (shown_second ++ codes "E 1 7 2 100\nE 1 7 2 100\nX f 1001\nD drained\n")
    ∷ flip_with told told (shown_second ++ codes "E 1 7 2 100\nE 1 7 2 100\nX f 1001\nD drained\n")
    -- other data, and no L line
    ∷ flip_with told nothing (shown_second ++ codes "E 1 8 2 100\nX f 1001\nD drained\n")
    ∷ flip_with told nothing (codes "E 1 7 2 100\nX f 1001\nD open 0\n")
    -- event of a commit that asks for none
    ∷ flip_with (codes "event 0 1 100") nothing (shown_second ++ codes "E 1 0 1 100\nX f 1001\nD drained\n")
    ∷ []

pub each_report_of_events_has_its_line : map (wrong_line flip) reports_of_events
    ≡ None ∷ None ∷ Some 16 ∷ Some 21 ∷ Some 22 ∷ Some 22 ∷ Some 21 ∷ Some 20 ∷ Some 21 ∷ []
unfolding on_audits
each_report_of_events_has_its_line = refl

abbrev reports_behind_events : List (List ℕ)
reports_behind_events =
    -- framebuffer that is open, one that is named twice, and another end
    flip_with told nothing (shown_second ++ codes "E 1 7 2 100\nX f2 1004\nD drained\n")
    ∷ flip_with told nothing (shown_second ++ codes "E 1 7 2 100\nX f 1001\nX f 1001\nD drained\n")
    ∷ flip_with told nothing (shown_second ++ codes "E 1 7 2 100\nX f 1001\nD stalled f\n")
    -- commit of the line before, and count that stays where the CRTC is on
    ∷ flip_with told nothing (codes "L 0 0 2 2c26b46b68ffc68ff99b453c1d30413413422d706483bfa0f98a5e886266e7ae\nD open 0\n")
    ∷ flip_with told nothing (codes "L 0 1 1 2c26b46b68ffc68ff99b453c1d30413413422d706483bfa0f98a5e886266e7ae\nD open 0\n")
    -- event left out, before an X line that is not right
    ∷ flip_with told nothing (shown_second ++ codes "X f 1001\nX f 1001\nD drained\n")
    ∷ []

pub each_report_behind_events_has_its_line : map (wrong_line flip) reports_behind_events
    ≡ Some 22 ∷ Some 23 ∷ Some 23 ∷ Some 20 ∷ Some 20 ∷ Some 21 ∷ []
unfolding on_audits
each_report_behind_events_has_its_line = refl

-- The order of E lines, without a digest

abbrev answered_event : ℕ → ℕ → Event → ℕ × ℕ × ℕ × Reply
answered_event client command e = (client, command, 5, reply.Event e)

-- its L lines with counts that are 2 and 1 modulo 2^32, and such replies
abbrev report_with : List (ℕ × ℕ × ℕ × Reply) → Report
report_with replies = record lit_report { replies = replies; latches = (0, 0, 4294967298, Some []) ∷ (0, 1, 1, None) ∷ [] }

abbrev both_told : Report
both_told = report_with (answered_event 1 7 (event 7 2 100) ∷ answered_event 1 8 (event 7 1 100) ∷ [])

-- the first of another client, whose events do not count
abbrev other_told : Report
other_told = report_with (answered_event 2 1 (event 7 2 100) ∷ answered_event 1 7 (event 7 1 100) ∷ [])

-- the next that was told, and no other; clients do not fall, and one has several lines; another client's events do not count
pub events_come_in_the_order_of_replies :
    (event_is_right lit_and_put_off both_told [] (1, event 7 2 100)
    ∷ event_is_right lit_and_put_off both_told [] (1, event 7 1 100)
    ∷ event_is_right lit_and_put_off both_told ((1, event 7 2 100) ∷ []) (1, event 7 1 100)
    ∷ event_is_right lit_and_put_off both_told ((1, event 7 2 100) ∷ (1, event 7 1 100) ∷ []) (1, event 7 1 100)
    ∷ event_is_right lit_and_put_off both_told ((2, event 7 1 100) ∷ []) (1, event 7 2 100)
    ∷ event_is_right lit_and_put_off other_told [] (1, event 7 1 100)
    ∷ [])
    ≡ true ∷ false ∷ true ∷ false ∷ false ∷ true ∷ []
unfolding on_audits
events_come_in_the_order_of_replies = refl

-- Two clients read one event each, and both tell the same, of counts that are 1 modulo 2^32

abbrev two_readers : Script
two_readers = script_of (codes "b" ∷ codes "f" ∷ codes "m" ∷ [])
    ((command.Buffer 0 1 1 Xr24 (Solid 0x00616263) ∷ command.AddFb 1 0 ∷ command.Mode 2 named_tiny ∷ with_event light ∷ command.Wait ∷ [])
    ∷ (with_event put_off ∷ command.Wait ∷ [])
    ∷ [])

abbrev read_by_both : List (ℕ × Event) → Report
read_by_both events = record {
  journal = (1, 1) ∷ (1, 2) ∷ (1, 3) ∷ (1, 4) ∷ (2, 1) ∷ [];
  replies = answered_event 1 5 (event 7 1 100) ∷ answered_event 2 2 (event 7 1 100) ∷ [];
  latches = (0, 0, 1, Some []) ∷ (0, 1, 4294967297, None) ∷ [];
  events = events;
  freed = [];
  end = Drained;
  steps = [];
}

pub each_client_reads_its_own : event_is_right two_readers (read_by_both []) ((1, event 7 1 100) ∷ []) (2, event 7 1 100) ≡ true
unfolding on_audits
each_client_reads_its_own = refl

pub events_of_each_client_are_whole :
    map (λ events. events_are_whole (read_by_both events))
    ([] ∷ ((1, event 7 1 100) ∷ []) ∷ ((2, event 7 1 100) ∷ []) ∷ ((1, event 7 1 100) ∷ (2, event 7 1 100) ∷ []) ∷ [])
    ≡ false ∷ false ∷ false ∷ true ∷ []
unfolding on_audits
events_of_each_client_are_whole = refl

-- An out-fence is no fence of a command

-- the first script and a request for an out-fence
abbrev out_fenced : Script
out_fenced = script_of (codes "b" ∷ codes "f" ∷ codes "m" ∷ codes "o" ∷ [])
    ((command.Buffer 0 1 1 Xr24 (Solid 0x00616263) ∷ command.AddFb 1 0 ∷ command.Mode 2 named_tiny ∷ request 0x400 light
    ∷ request 0x0 (sets kind.Plane 0 ALPHA (number 65535) ∷ sets kind.Crtc 0 OUT_FENCE_PTR (value.New 3) ∷ []) ∷ []) ∷ [])

abbrev out_fenced_with : List ℕ → List ℕ
out_fenced_with rest =
    codes "J 1 1\nJ 1 2\nJ 1 3\nJ 1 4\nJ 1 5\n"
    ++ (codes "R 1 1 0 made 1000\nR 1 2 1 made 1001\nR 1 3 2 made 1002\nR 1 4 3 commit 0\nR 1 5 4 commit 1\n" ++ rest)

pub no_history_waits_for_an_out_fence :
    map (wrong_line out_fenced) (out_fenced_with (codes "D open 0\n") ∷ out_fenced_with (codes "D stalled o\n") ∷ []) ≡ None ∷ Some 11 ∷ []
unfolding on_audits
no_history_waits_for_an_out_fence = refl
