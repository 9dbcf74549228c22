-- The tests of R and L lines taken apart: what the lines alone tell, and what the device of one thread tells. And the first
-- wrong line, section by section.
use Rattle.std.specs.Prelude.{◌≡◌, ℕ, ◌+◌, Bool, true, false, not, ◌&&◌, ◌||◌, ◌==◌, nat_lt, nat_le, List, [], length, is_some, Option}
use Rattle.std.specs.Prelude.{Some, None, slice_get, if◌then◌else◌}
use Rattle.std.specs.List.{last_or}
use Rattle.std.specs.Option.{option_map_or}
use Rattle.kms_model.specs.declared.objects.Kind.TheVariants.{Crtc}
use Rattle.kms_model.specs.declared.objects.Topology.{Topology}
use Rattle.kms_model.specs.declared.replies.Answered.{Answered}
use Rattle.kms_model.specs.declared.reports.Report.{Report}
use Rattle.kms_model.specs.declared.scripts.Script.{Script}
use Rattle.kms_model.specs.Device.Objects.{exists, object_id}
use Rattle.kms_model.specs.Device.Serial.{Pictured, command_of, show}
use Rattle.kms_model.specs.Firsts.{number_if, or_else}
use Rattle.kms_model.specs.Headline.{entry_answered}
use Rattle.kms_model.specs.Report.Right.{LatchLine, end_is_right, event_is_right, events_are_whole, freed_is_right, is_not_below}
use Rattle.kms_model.specs.Report.Right.{last_count, latch_is_right, latches_in, lines_of_crtc, number_at, same_digest}
use Rattle.kms_model.specs.Report.RightAnswers.{answer_is_right, answers_are_whole, answers_in, client_is_whole, entries_in, entry_is_right}
use Rattle.kms_model.specs.Report.RightAnswers.{first_off, has_place, is_in_turn, no_client_is_silent, reply_is_right}
use Rattle.kms_model.specs.Report.SeenReport.{digest_shown}

-- the lower of two places, where there are any
abbrev pub earliest : Option ℕ → Option ℕ → Option ℕ
earliest None y = y
earliest (Some a) None = Some a
earliest (Some a) (Some b) = if nat_le a b then Some a else Some b

-- R lines

-- the script has the command that a reply answers
abbrev pub has_command : Script → Answered → Bool
has_command s a = is_some (command_of s (entry_answered a))

-- an R line stands where it may, to a command of the script
abbrev pub stands_in_order : Script → Report → List Answered → Answered → Bool
stands_in_order s r before a = is_in_turn r (last_or None before) a && (has_place r a && has_command s a)

-- a line of a client may stand behind one of a client
abbrev pub may_follow : Report → Option ℕ → ℕ → Bool
may_follow r None client = true
may_follow r (Some other) client = (other == client) || (client_is_whole r other && no_client_is_silent r)

abbrev pub client_before : List Answered → Option ℕ
client_before before = option_map_or (λ b. Some b.client) (last_or None before) None

abbrev pub comes_behind : Report → List Answered → Answered → Bool
comes_behind r before a = may_follow r (client_before before) a.client

-- its reply is the device's, whatever stands before
abbrev pub is_replied : Script → Report → List Answered → Answered → Bool
is_replied s r before a = reply_is_right s r a

-- L lines

-- a count rises, where the line has a digest, or does not fall, where it has none
abbrev pub rises : ℕ → LatchLine → Bool
rises before l = if is_some l.digest then nat_lt before l.count else nat_le before l.count

-- a line stands where it may, by the lines alone
abbrev pub is_placed : Topology → List LatchLine → LatchLine → Bool
is_placed t before l =
    exists t Crtc l.crtc && (is_not_below (λ other. other.crtc) before l && rises (last_count (lines_of_crtc l.crtc before)) l)

-- a line tells of a commit and its picture
abbrev pub tells_picture : LatchLine → Option Pictured → Bool
tells_picture l None = false
tells_picture l (Some p) = (l.commit == p.commit) && same_digest l.digest (digest_shown p.picture p.frame)

-- a line of a CRTC of the device tells of the picture of its number
abbrev pub is_pictured : Script → Report → List LatchLine → LatchLine → Bool
is_pictured s r before l =
    if exists s.topology Crtc l.crtc
    then tells_picture l (slice_get (show s (entries_in r) (object_id Crtc l.crtc)) (length (lines_of_crtc l.crtc before)))
    else true

-- The first wrong line, section by section: `first_wrong` is what the sections come to one behind the other. Each number is
-- that of the first line of its section.

abbrev pub entries_wrong : Script → Report → Option ℕ
entries_wrong s r = number_at 1 (first_off (entry_is_right s) [] (entries_in r))

abbrev pub behind_events : Script → Report → ℕ → Option ℕ
behind_events s r first =
    or_else (number_if first (not (events_are_whole r)))
    (or_else (number_at first (first_off (freed_is_right s r) [] r.freed))
    (number_if (first + length r.freed) (not (end_is_right s r))))

abbrev pub behind_latches : Script → Report → ℕ → Option ℕ
behind_latches s r first =
    or_else (number_at first (first_off (event_is_right s r) [] r.events)) (behind_events s r (first + length r.events))

abbrev pub behind_answers : Script → Report → ℕ → Option ℕ
behind_answers s r first =
    or_else (number_if first (not (answers_are_whole r)))
    (or_else (number_at first (first_off (latch_is_right s r) [] (latches_in r)))
    (behind_latches s r (first + length r.latches)))

-- what is wrong with R lines
abbrev pub answers_wrong : Script → Report → Option ℕ
answers_wrong s r = first_off (answer_is_right s r) [] (answers_in r)

-- J, R and L lines are right
pub record AreRightToLatches (s : Script) (r : Report) : Type 0 where
  pub entries : first_off (entry_is_right s) [] (entries_in r) ≡ None
  pub answers : answers_wrong s r ≡ None
  pub whole : answers_are_whole r ≡ true
  pub latches : first_off (latch_is_right s r) [] (latches_in r) ≡ None

-- J, R, L and E lines are right
pub record AreRight (s : Script) (r : Report) : Type 0 where
  pub before : AreRightToLatches s r
  pub events : first_off (event_is_right s r) [] r.events ≡ None
