-- Worked examples of audits, computed: replies of requests that are refused late, tested or refused, at their places.
use Rattle.std.proofs.Common.{◌≡◌, ℕ, Bool, true, false, List, [], ◌∷◌, ◌++◌, map, length, refl, codes, Option, Some, None}
use Rattle.kms_model.specs.declared.objects.Format.TheVariants.{Xr24}
use Rattle.kms_model.specs.declared.objects.Kind.TheVariants as kind
use Rattle.kms_model.specs.declared.properties.TheConstants.{ACTIVE, ALPHA, CRTC_ID, MODE_ID}
use Rattle.kms_model.specs.declared.replies.Answered.{Answered}
use Rattle.kms_model.specs.declared.replies.Reply.TheVariants as reply
use Rattle.kms_model.specs.declared.reports.End.TheVariants.{Drained}
use Rattle.kms_model.specs.declared.reports.Report.{Report}
use Rattle.kms_model.specs.declared.scripts.Assign.{Assign}
use Rattle.kms_model.specs.declared.scripts.Command.{Command}
use Rattle.kms_model.specs.declared.scripts.Command.TheVariants as command
use Rattle.kms_model.specs.declared.scripts.Pattern.TheVariants.{Solid}
use Rattle.kms_model.specs.declared.scripts.Script.{Script}
use Rattle.kms_model.specs.declared.scripts.Value.TheVariants as value
use Rattle.kms_model.specs.Report.Right.{first_wrong, wrong_line}
use Rattle.kms_model.specs.Report.RightAnswers.{answers_in, entries_in, reply_is_right}
use Rattle.kms_model.proofs.AuditRows.{script_of}
use Rattle.kms_model.proofs.OnAudits.{on_audits}
use Rattle.kms_model.proofs.Rows.{device, named_tiny}
use Rattle.kms_model.proofs.VerdictRows.{light, number, put_off, request, sets}

-- Busy: two requests that do not wait, of a plane that is on no CRTC

abbrev quick : ℕ → Command
quick alpha = request 0x200 (sets kind.Plane 0 ALPHA (number alpha) ∷ [])

abbrev quick_twice : Script
quick_twice = script_of [] ((quick 2 ∷ quick 1 ∷ []) ∷ [])

abbrev busy_with : List ℕ → List ℕ
busy_with words = codes "J 1 1\nR 1 1 0 commit 0\nR 1 2 1 " ++ (words ++ codes "\nD drained\n")

-- The object is one that both touch, and the commit is the last that did. The requests set a plane whose CRTC has the number
-- 0, which is also what an object beyond index 99 is read as: it is none of the device's.
abbrev late_refusals : List (List ℕ)
late_refusals =
    codes "EBUSY 26 plane0 0" ∷ codes "EBUSY 26 plane0 1" ∷ codes "EBUSY 26 crtc0 0" ∷ codes "EBUSY 26 crtc255 0" ∷ codes "EBUSY 26 enc0 0"
    ∷ codes "ENOMEM events 25 4096" ∷ codes "EBUSY 26 crtc100 0" ∷ []

pub busy_names_an_object_and_its_last_commit : map (λ words. wrong_line quick_twice (busy_with words)) late_refusals
    ≡ None ∷ Some 3 ∷ Some 3 ∷ Some 3 ∷ Some 3 ∷ Some 3 ∷ Some 3 ∷ []
unfolding on_audits
busy_names_an_object_and_its_last_commit = refl

-- a CRTC and a connector are busy as a plane is
abbrev leaves : Command
leaves = request 0x200 (sets kind.Crtc 0 ACTIVE (number 0) ∷ sets kind.Conn 0 CRTC_ID (number 0) ∷ [])

abbrev leaving_with : List ℕ → List ℕ
leaving_with words = codes "J 1 1\nR 1 1 0 commit 0\nR 1 2 1 " ++ (words ++ codes "\nD open 0\n")

pub crtcs_and_connectors_are_busy :
    map (λ words. wrong_line (script_of [] ((leaves ∷ leaves ∷ []) ∷ [])) (leaving_with words))
    (codes "EBUSY 26 crtc0 0" ∷ codes "EBUSY 26 conn0 0" ∷ codes "EBUSY 26 plane0 0" ∷ codes "EBUSY 26 enc0 0" ∷ [])
    ≡ None ∷ None ∷ Some 3 ∷ Some 3 ∷ []
unfolding on_audits
crtcs_and_connectors_are_busy = refl

-- Two commits of a plane, one of the CRTC, and a request behind them
abbrev late_script : Command → Script
late_script c = script_of [] ((quick 3 ∷ quick 2 ∷ request 0x200 (sets kind.Crtc 0 ACTIVE (number 0) ∷ []) ∷ c ∷ []) ∷ [])

abbrev late_line : Command → List ℕ → Option ℕ
late_line c words =
    wrong_line (late_script c)
    (codes "J 1 1\nJ 1 2\nJ 1 3\nR 1 1 0 commit 0\nR 1 2 1 commit 1\nR 1 3 2 commit 2\nR 1 4 3 " ++ (words ++ codes "\nD open 0\n"))

-- busy with the last commit that touched the object, and with no other, nor for an object that it does not touch
pub busy_with_the_last_commit_of_an_object :
    map (late_line (quick 1))
    (codes "EBUSY 26 plane0 1" ∷ codes "EBUSY 26 plane0 0" ∷ codes "EBUSY 26 plane0 2" ∷ codes "EBUSY 26 crtc0 2" ∷ [])
    ≡ None ∷ Some 7 ∷ Some 7 ∷ Some 7 ∷ []
unfolding on_audits
busy_with_the_last_commit_of_an_object = refl

abbrev sets_alpha : List Assign
sets_alpha = sets kind.Plane 0 ALPHA (number 1) ∷ []

-- nothing that blocks, is a test or is refused anyway is busy
pub busy_is_an_accepted_request_that_does_not_wait :
    map (λ c. late_line c (codes "EBUSY 26 plane0 1")) (request 0x0 sets_alpha ∷ request 0x300 sets_alpha ∷ quick 65536 ∷ [])
    ≡ Some 7 ∷ Some 7 ∷ Some 7 ∷ []
unfolding on_audits
busy_is_an_accepted_request_that_does_not_wait = refl

pub test_and_refusal_are_told :
    (late_line (request 0x300 sets_alpha) (codes "tested") ∷ map (late_line (quick 65536)) (codes "EINVAL 7" ∷ codes "EINVAL 6" ∷ []))
    ≡ None ∷ None ∷ Some 7 ∷ []
unfolding on_audits
test_and_refusal_are_told = refl

pub entry_is_not_busy : wrong_line quick_twice (codes "J 1 1\nJ 1 2\nR 1 1 0 commit 0\nR 1 2 1 EBUSY 26 plane0 0\nD open 0\n") ≡ Some 4
unfolding on_audits
entry_is_not_busy = refl

-- A commit counts by the entries before the place, and an entry's place is its own, though the reply is the same at another.
abbrev two_quick : Script
two_quick = script_of (codes "a" ∷ []) ((quick 1 ∷ quick 2 ∷ []) ∷ (command.Fence 0 ∷ quick 3 ∷ []) ∷ [])

abbrev two_with : List ℕ → List ℕ
two_with words =
    codes "J 2 1\nJ 1 1\nJ 2 2\nR 1 1 1 commit 0\nR 1 2 2 EBUSY 26 "
    ++ (words ++ codes "\nR 2 1 0 made 1000\nR 2 2 2 commit 1\nD drained\n")

pub places_count_entries :
    map (wrong_line two_quick)
    (two_with (codes "plane0 0") ∷ two_with (codes "plane0 1")
    ∷ codes "J 2 1\nJ 1 1\nR 1 1 0 commit 0\nR 2 1 0 made 1000\nD open 0\n" ∷ [])
    ≡ None ∷ Some 5 ∷ Some 3 ∷ []
unfolding on_audits
places_count_entries = refl

-- Space, counts and events: a framebuffer that is lit and put off, each with an event, and a request with an event that is none
-- of the journal's

abbrev pub with_event : List Assign → Command
with_event assigns = command.Atomic (record { flags = 0x401; user_data = 7; assigns = assigns })

abbrev pub lit_and_put_off : Script
lit_and_put_off = script_of (codes "b" ∷ codes "f" ∷ codes "m" ∷ [])
    ((command.Buffer 0 1 1 Xr24 (Solid 0x00616263) ∷ command.AddFb 1 0 ∷ command.Mode 2 named_tiny ∷ with_event light ∷ with_event put_off
    ∷ with_event light ∷ []) ∷ [])

-- its journal, and two L lines that tell of one event: the first has a count that is 1 modulo 2^32
abbrev pub lit_report : Report
lit_report = record {
  journal = (1, 1) ∷ (1, 2) ∷ (1, 3) ∷ (1, 4) ∷ (1, 5) ∷ [];
  replies = [];
  latches = (0, 0, 4294967297, Some []) ∷ (0, 1, 1, None) ∷ [];
  events = [];
  freed = [];
  end = Drained;
  steps = [];
}

abbrev no_space : ℕ → Answered
no_space used = record { client = 1; command = 6; place = 5; reply = reply.Space used }

pub space_is_a_multiple_of_32_that_is_too_much :
    map (λ used. reply_is_right lit_and_put_off lit_report (no_space used)) (4096 ∷ 4064 ∷ 4080 ∷ 4128 ∷ [])
    ≡ true ∷ false ∷ false ∷ false ∷ []
unfolding on_audits
space_is_a_multiple_of_32_that_is_too_much = refl

abbrev lit_again : Script
lit_again = script_of (codes "b" ∷ codes "f" ∷ codes "m" ∷ [])
    ((command.Buffer 0 1 1 Xr24 (Solid 0x00616263) ∷ command.AddFb 1 0 ∷ command.Mode 2 named_tiny ∷ with_event light ∷ with_event put_off
    ∷ request 0x400 light ∷ []) ∷ [])

pub request_without_an_event_has_space : reply_is_right lit_again lit_report (no_space 4096) ≡ false
unfolding on_audits
request_without_an_event_has_space = refl

-- two of three CRTCs are named: their events take 64 bytes
abbrev two_lit : Script
two_lit = record {
  version = 1;
  topology = record device { crtcs = 3; conns = 1 ∷ 2 ∷ [] };
  names = codes "m" ∷ [];
  clients =
      (command.Mode 0 named_tiny
      ∷ with_event
      (sets kind.Crtc 0 ACTIVE (number 1)
      ∷ sets kind.Crtc 0 MODE_ID (value.Named 0)
      ∷ sets kind.Conn 0 CRTC_ID (value.Crtc 0)
      ∷ sets kind.Crtc 1 ACTIVE (number 1)
      ∷ sets kind.Crtc 1 MODE_ID (value.Named 0)
      ∷ sets kind.Conn 1 CRTC_ID (value.Crtc 1)
      ∷ [])
      ∷ []) ∷ [];
}

abbrev used_with : List ℕ → List ℕ
used_with used = codes "J 1 1\nR 1 1 0 made 1000\nR 1 2 1 ENOMEM events 25 " ++ (used ++ codes "\nD open 0\n")

pub each_named_crtc_takes_space :
    map (λ used. wrong_line two_lit (used_with used)) (codes "4096" ∷ codes "4064" ∷ codes "4032" ∷ []) ≡ None ∷ None ∷ Some 3 ∷ []
unfolding on_audits
each_named_crtc_takes_space = refl

-- A false neighbour: replies compared with those of the device at the journal's end. The report of a client that destroys a
-- blob before it makes it, and is right, would not be.

abbrev too_early : Script
too_early = script_of (codes "m" ∷ []) ((command.Destroy 0 ∷ command.Mode 0 named_tiny ∷ []) ∷ [])

abbrev early_report : Report
early_report = record {
  journal = (1, 2) ∷ [];
  replies = (1, 1, 0, reply.Denied 33) ∷ (1, 2, 0, reply.Made 1000) ∷ [];
  latches = [];
  events = [];
  freed = [];
  end = Drained;
  steps = [];
}

abbrev is_right_at_the_end : Script → Report → Answered → Bool
is_right_at_the_end s r a = reply_is_right s r (record a { place = length (entries_in r) })

pub report_of_replies_at_their_places_is_right : first_wrong too_early early_report ≡ None
unfolding on_audits
report_of_replies_at_their_places_is_right = refl

pub replies_are_right_at_their_places : map (reply_is_right too_early early_report) (answers_in early_report) ≡ true ∷ true ∷ []
unfolding on_audits
replies_are_right_at_their_places = refl

pub replies_are_not_right_at_the_end : map (is_right_at_the_end too_early early_report) (answers_in early_report) ≡ false ∷ false ∷ []
unfolding on_audits
replies_are_not_right_at_the_end = refl

-- entry that is refused, place behind the journal's end, and another refusal
pub early_commands_have_their_lines :
    map (wrong_line too_early)
    (codes "J 1 1\nD open 0\n" ∷ codes "R 1 1 1 ENOENT 33\nD open 0\n" ∷ codes "R 1 1 0 EPERM 34\nD open 0\n" ∷ [])
    ≡ Some 1 ∷ Some 1 ∷ Some 1 ∷ []
unfolding on_audits
early_commands_have_their_lines = refl

-- a mode that was destroyed is no framebuffer
pub destroyed_mode_is_not_freed :
    wrong_line (script_of (codes "m" ∷ []) ((command.Mode 0 named_tiny ∷ command.Destroy 0 ∷ []) ∷ []))
    (codes "J 1 1\nJ 1 2\nR 1 1 0 made 1000\nR 1 2 1 done\nX m 1000\nD open 0\n") ≡ Some 5
unfolding on_audits
destroyed_mode_is_not_freed = refl

-- Two clients: a blob that is another's, and a fence that is signalled before it is made or after it

abbrev owned : Script
owned = script_of (codes "m" ∷ codes "n" ∷ [])
    ((command.Mode 0 named_tiny ∷ command.Signal 1 ∷ []) ∷ (command.Destroy 0 ∷ command.Fence 1 ∷ []) ∷ [])

abbrev reports_of_owned : List (List ℕ)
reports_of_owned =
    -- signal before the fence, behind it, and one that is done too early
    codes "J 1 1\nJ 2 2\nR 1 1 0 made 1000\nR 1 2 1 EINVAL 35\nR 2 1 1 EPERM 34\nR 2 2 1 made 1001\nD drained\n"
    ∷ codes "J 1 1\nJ 2 2\nR 1 1 0 made 1000\nR 1 2 2 done\nR 2 1 1 EPERM 34\nR 2 2 1 made 1001\nD drained\n"
    ∷ codes "J 1 1\nJ 2 2\nR 1 1 0 made 1000\nR 1 2 1 done\nD open 0\n"
    -- entry that this client is refused
    ∷ codes "J 1 1\nJ 2 1\nD open 0\n"
    -- second command first, of a second client
    ∷ codes "J 1 1\nJ 2 2\nR 1 1 0 made 1000\nR 2 2 1 made 1001\nD open 0\n"
    -- J line that is not right, before such an R line
    ∷ codes "J 3 1\nR 1 2 0 done\nD open 0\n"
    -- another id
    ∷ codes "J 1 1\nR 1 1 0 made 1001\nD open 0\n"
    ∷ []

pub each_report_of_owned_has_its_line : map (wrong_line owned) reports_of_owned
    ≡ None ∷ None ∷ Some 4 ∷ Some 2 ∷ Some 4 ∷ Some 1 ∷ Some 2 ∷ []
unfolding on_audits
each_report_of_owned_has_its_line = refl
