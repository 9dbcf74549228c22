-- Worked examples of the grammar of reports, computed: what bytes spell, and the first line that no report has there.
use Rattle.std.proofs.Common.{◌≡◌, ℕ, List, [], ◌∷◌, ◌++◌, map, replicate, refl, codes, Some, None, Ok}
use Rattle.std.specs.Result.{result_err}
use Rattle.kms_model.specs.declared.objects.Format.TheVariants.{Xr24}
use Rattle.kms_model.specs.declared.objects.Kind.TheVariants as kind
use Rattle.kms_model.specs.declared.properties.TheConstants.{ALPHA, IN_FENCE_FD}
use Rattle.kms_model.specs.declared.replies.Event.{Event}
use Rattle.kms_model.specs.declared.replies.Reply.TheVariants as reply
use Rattle.kms_model.specs.declared.replies.Step.{Step}
use Rattle.kms_model.specs.declared.replies.Step.TheVariants as step
use Rattle.kms_model.specs.declared.reports.End.TheVariants.{Open}
use Rattle.kms_model.specs.declared.reports.Report.{Report}
use Rattle.kms_model.specs.declared.scripts.Command.TheVariants as command
use Rattle.kms_model.specs.declared.scripts.Pattern.TheVariants.{Solid}
use Rattle.kms_model.specs.declared.scripts.Script.{Script}
use Rattle.kms_model.specs.declared.scripts.Value.TheVariants as value
use Rattle.kms_model.specs.Order.Rounds.{finished_within}
use Rattle.kms_model.specs.Report.History.{text}
use Rattle.kms_model.specs.Report.ReportLines.{report_read, report_text}
use Rattle.kms_model.specs.Report.SeenReport.{seen_report}
use Rattle.kms_model.proofs.AuditRows.{closing, closing_report, lit, script_of}
use Rattle.kms_model.proofs.MachineInputs.{plain}
use Rattle.kms_model.proofs.OnAudits.{on_audits}
use Rattle.kms_model.proofs.Rows.{named_tiny, script}
use Rattle.kms_model.proofs.VerdictRows.{light, number, request, sets}

-- Both ways

-- every line, and the replies of every form
abbrev every_line : List ℕ
every_line =
    codes "J 1 1\nJ 16 4294967295\n"
    ++ (codes "R 1 1 0 made 1000\nR 1 2 1 done\nR 1 3 1 commit 4294967295\nR 1 4 2 tested\nR 1 5 2 ENOENT 4\n"
    ++ (codes "R 1 6 2 ENOMEM events 25 4096\nR 1 7 2 EBUSY 26 plane3 7\nR 1 8 2 EBUSY 26 crtc255 7\nR 1 9 2 EPERM 34\n"
    ++ (codes "R 1 10 2 event 18446744073709551615 4294967295 101\nR 1 11 2 none\n"
    ++ (codes "R 1 12 2 EINVAL 1\nR 1 13 2 EINVAL 24\nR 1 14 2 EINVAL 31\nR 1 15 2 EINVAL 35\n"
    ++ (codes "L 0 0 18446744073709551615 00ff0000000000000000000000000000000000000000000000000000000000a9\nL 3 1 0 off\n"
    ++ codes "E 1 5 1 101\nX f_1 1001\nD open 18446744073709551615\nT swap 1\nT write 0 enc255\n")))))

abbrev digest : List ℕ
digest = 0x00 ∷ 0xff ∷ replicate 29 0 ++ 0xa9 ∷ []

abbrev pub event : ℕ → ℕ → ℕ → Event
event user_data sequence crtc = record { user_data = user_data; sequence = sequence; crtc = crtc }

-- what it says, with an id for the object that no device has: 0 where it was read
abbrev every_value : ℕ → Report
every_value far = record {
  journal = (1, 1) ∷ (16, 4294967295) ∷ [];
  replies =
      (1, 1, 0, reply.Made 1000)
      ∷ (1, 2, 1, reply.Done)
      ∷ (1, 3, 1, reply.Commit 4294967295)
      ∷ (1, 4, 2, reply.Tested)
      ∷ (1, 5, 2, reply.Refused (record { 0 = 4 }))
      ∷ (1, 6, 2, reply.Space 4096)
      ∷ (1, 7, 2, reply.Busy (record { 0 = 203 }) 7)
      ∷ (1, 8, 2, reply.Busy (record { 0 = far }) 7)
      ∷ (1, 9, 2, reply.Denied 34)
      ∷ (1, 10, 2, reply.Event (event 18446744073709551615 4294967295 101))
      ∷ (1, 11, 2, reply.NoEvent)
      ∷ (1, 12, 2, reply.Refused (record { 0 = 1 }))
      ∷ (1, 13, 2, reply.Refused (record { 0 = 24 }))
      ∷ (1, 14, 2, reply.Denied 31)
      ∷ (1, 15, 2, reply.Denied 35)
      ∷ [];
  latches = (0, 0, 18446744073709551615, Some digest) ∷ (3, 1, 0, None) ∷ [];
  events = (1, event 5 1 101) ∷ [];
  freed = (codes "f_1", 1001) ∷ [];
  end = Open 18446744073709551615;
  steps = step.Swap 1 ∷ step.Write 0 kind.Enc 255 ∷ [];
}

pub every_line_is_read : report_read every_line ≡ Ok (every_value 0)
unfolding on_audits
every_line_is_read = refl

-- but for that object, it is written again as it was
pub every_line_is_written : report_read (report_text (every_value 100)) ≡ Ok (every_value 100)
unfolding on_audits
every_line_is_written = refl

-- a text, and its first line that no report has there
record Outside : Type 0 where
  bytes : List ℕ
  number : ℕ

abbrev outside : List ℕ → ℕ → Outside
outside bytes number = record { bytes = bytes; number = number }

abbrev outsides : List Outside
outsides =
    -- empty report
    outside [] 1
    -- no line feed
    ∷ outside (codes "D drained") 1
    -- no D line
    ∷ outside (codes "J 1 1\n") 2
    -- second D line
    ∷ outside (codes "D drained\nD drained\n") 2
    -- T line before the D line
    ∷ outside (codes "T make 1\nD drained\n") 1
    -- letters that fall
    ∷ outside (codes "R 1 1 0 done\nJ 1 1\nD drained\n") 2
    ∷ outside (codes "D drained\nT make 1\nJ 1 1\n") 3
    -- pixmap
    ∷ outside (codes "L 0 0 1 off\nP3\n1 1\n255\n97 98 99\nD drained\n") 2
    -- number of 33 bits
    ∷ outside (codes "J 4294967296 1\nD drained\n") 1
    -- number of 65 bits
    ∷ outside (codes "L 0 0 18446744073709551616 off\nD drained\n") 1
    -- second spelling of a number
    ∷ outside (codes "J 01 1\nD drained\n") 1
    -- two blanks, and a blank at the end
    ∷ outside (codes "J 1  1\nD drained\n") 1
    ∷ outside (codes "J 1 1 \nD drained\n") 1
    -- error number of another refusal
    ∷ outside (codes "R 1 1 0 EINVAL 4\nD drained\n") 1
    -- numbers that are no refusal, or one of another form
    ∷ outside (codes "R 1 1 0 EINVAL 27\nD drained\n") 1
    ∷ outside (codes "R 1 1 0 ENOMEM 25\nD drained\n") 1
    ∷ outside (codes "R 1 1 0 EBUSY 26\nD drained\n") 1
    -- index of an object above 255
    ∷ outside (codes "R 1 1 0 EBUSY 26 crtc256 0\nD drained\n") 1
    -- capital digit, and one too few
    ∷ outside (codes "L 0 0 1 000000000000000000000000000000000000000000000000000000000000000A\nD drained\n") 1
    ∷ outside (codes "L 0 0 1 000000000000000000000000000000000000000000000000000000000000000\nD drained\n") 1
    -- stalled without a label
    ∷ outside (codes "D stalled\n") 1
    -- word too many, and one too few
    ∷ outside (codes "R 1 1 0 done 1\nD drained\n") 1
    ∷ outside (codes "L 0 0 1 off 1\nD drained\n") 1
    ∷ outside (codes "D drained 0\n") 1
    ∷ outside (codes "R 1 1 0 made\nD drained\n") 1
    ∷ outside (codes "D open\n") 1
    -- numbers beside those of refusals
    ∷ outside (codes "R 1 1 0 EINVAL 0\nD drained\n") 1
    ∷ outside (codes "R 1 1 0 EINVAL 30\nD drained\n") 1
    ∷ outside (codes "R 1 1 0 EINVAL 36\nD drained\n") 1
    -- two digits too many
    ∷ outside (codes "L 0 0 1 000000000000000000000000000000000000000000000000000000000000000000\nD drained\n") 1
    -- label that begins with a digit
    ∷ outside (codes "X 1f 1001\nD drained\n") 1
    -- other fields that are too wide
    ∷ outside (codes "X f 4294967296\nD drained\n") 1
    ∷ outside (codes "R 1 1 4294967296 done\nD drained\n") 1
    ∷ outside (codes "E 1 1 4294967296 100\nD drained\n") 1
    ∷ outside (codes "E 1 18446744073709551616 1 100\nD drained\n") 1
    ∷ outside (codes "D open 18446744073709551616\n") 1
    ∷ outside (codes "L 4294967296 0 1 off\nD drained\n") 1
    ∷ outside (codes "L 0 4294967296 1 off\nD drained\n") 1
    ∷ outside (codes "R 4294967296 1 0 done\nD drained\n") 1
    ∷ outside (codes "R 1 4294967296 0 done\nD drained\n") 1
    ∷ outside (codes "E 4294967296 1 1 100\nD drained\n") 1
    -- word behind the number of steps
    ∷ outside (codes "D open 0 1\nD drained\n") 1
    -- no letter, and another one
    ∷ outside (codes "\nD drained\n") 1
    ∷ outside (codes "Q 1 1\nD drained\n") 1
    -- T line that is no step
    ∷ outside (codes "D drained\nT swap\n") 2
    ∷ []

pub each_text_has_its_first_line_outside : map (λ o. result_err (report_read o.bytes)) outsides ≡ map (λ o. Some o.number) outsides
unfolding on_audits
each_text_has_its_first_line_outside = refl

-- The first script's history of one thread, as a value and as text

abbrev first_history : List Step
first_history = finished_within (script 0x400 0) 64 []

abbrev pub first_report : List ℕ
first_report =
    codes "J 1 1\nJ 1 2\nJ 1 3\nJ 1 4\nR 1 1 0 made 1000\nR 1 2 1 made 1001\nR 1 3 2 made 1002\nR 1 4 3 commit 0\n"
    ++ codes "L 0 0 1 ba7816bf8f01cfea414140de5dae2223b00361a396177a9cb410ff61f20015ad\nD drained\n"

pub text_of_the_history : text (script 0x400 0) first_history plain ≡ first_report
unfolding on_audits
text_of_the_history = refl

pub text_of_the_seen_report : report_text (seen_report (script 0x400 0) first_history) ≡ first_report
unfolding on_audits
text_of_the_seen_report = refl

-- The same of its history without a step, of one in which a framebuffer is freed, and of one with an event that is read and a
-- fence that nobody signals

-- a history as text, and as a value that is written as text
abbrev both_texts : Script → List Step → List (List ℕ)
both_texts s h = text s h plain ∷ report_text (seen_report s h) ∷ []

abbrev twice : List ℕ → List (List ℕ)
twice bytes = bytes ∷ bytes ∷ []

pub open_history_is_seen : both_texts (script 0x400 0) [] ≡ twice (codes "D open 0\n")
unfolding on_audits
open_history_is_seen = refl

pub freed_framebuffer_is_seen : both_texts closing (finished_within closing 64 []) ≡ twice closing_report
unfolding on_audits
freed_framebuffer_is_seen = refl

abbrev waiting : Script
waiting = script_of (codes "b" ∷ codes "f" ∷ codes "m" ∷ codes "n" ∷ [])
    ((command.Buffer 0 1 1 Xr24 (Solid 0x00616263) ∷ command.AddFb 1 0 ∷ command.Mode 2 named_tiny
    ∷ command.Atomic (record { flags = 0x401; user_data = 7; assigns = light }) ∷ command.Wait ∷ command.Fence 3
    ∷ request 0x0 (sets kind.Plane 0 ALPHA (number 1) ∷ sets kind.Plane 0 IN_FENCE_FD (value.Named 3) ∷ []) ∷ []) ∷ [])

abbrev waiting_report : List ℕ
waiting_report =
    codes "J 1 1\nJ 1 2\nJ 1 3\nJ 1 4\nJ 1 6\nJ 1 7\nR 1 1 0 made 1000\nR 1 2 1 made 1001\nR 1 3 2 made 1002\nR 1 4 3 commit 0\n"
    ++ (codes "R 1 5 4 event 7 1 100\nR 1 6 4 made 1003\nR 1 7 5 commit 1\n" ++ (lit ++ codes "E 1 7 1 100\nD stalled n\n"))

pub read_event_and_awaited_fence_are_seen : both_texts waiting (finished_within waiting 64 []) ≡ twice waiting_report
unfolding on_audits
read_event_and_awaited_fence_are_seen = refl
