-- When the other lines of a report are right; and the first line, of a report or of bytes, that is not the device's. This
-- device's own.
use Rattle.std.specs.Prelude.{ℕ, ◌+◌, Bool, true, false, not, ◌&&◌, ◌==◌, nat_lt, nat_le, List, [], ◌∷◌, ◌++◌, length, map, filter}
use Rattle.std.specs.Prelude.{slice_get, is_some, Option, Some, None, option_map, Result, Ok, Err}
use Rattle.std.specs.List.{enumerate_from, filter_map, find, last_or, list_all, list_any, position, range_with_len}
use Rattle.std.specs.Option.{option_map_or}
use Rattle.std.specs.Str.{bytes_eq}
use Rattle.kms_model.specs.declared.objects.Kind.TheVariants.{Crtc}
use Rattle.kms_model.specs.declared.pictures.Picture.{Picture}
use Rattle.kms_model.specs.declared.pictures.Picture.TheVariants.{Off, On}
use Rattle.kms_model.specs.declared.replies.Answered.{Answered}
use Rattle.kms_model.specs.declared.replies.Event.{Event}
use Rattle.kms_model.specs.declared.replies.Reply.{Reply}
use Rattle.kms_model.specs.declared.replies.Reply.TheVariants as reply
use Rattle.kms_model.specs.declared.reports.End.{End}
use Rattle.kms_model.specs.declared.reports.End.TheVariants.{Drained, Stalled, Open}
use Rattle.kms_model.specs.declared.reports.Report.{Report}
use Rattle.kms_model.specs.declared.runs.Latch.{Latch}
use Rattle.kms_model.specs.declared.scripts.Command.{Command}
use Rattle.kms_model.specs.declared.scripts.Script.{Script}
use Rattle.kms_model.specs.declared.worlds.Thing.{Thing}
use Rattle.kms_model.specs.Firsts.{listed, number_if, or_else}
use Rattle.kms_model.specs.Promises.{event_of_latch}
use Rattle.kms_model.specs.Device.Execution.{is_framebuffer}
use Rattle.kms_model.specs.Device.Objects.{exists, indices_of, object_id}
use Rattle.kms_model.specs.Device.Serial.{Entry, Pictured, serial, show}
use Rattle.kms_model.specs.Device.World.{thing_labelled, thing_with_id}
use Rattle.kms_model.specs.Machine.Commits.{has_number}
use Rattle.kms_model.specs.Machine.Histories.{is_made_by_command}
use Rattle.kms_model.specs.Report.ReportLines.{report_read}
use Rattle.kms_model.specs.Report.RightAnswers.{first_off, entries_in, entry_is_right, commits_of, answers_in, has_answer, same_event}
use Rattle.kms_model.specs.Report.RightAnswers.{answer_is_right, answers_are_whole}
use Rattle.kms_model.specs.Report.SeenReport.{digest_shown}
use Rattle.kms_model.specs.Script.Spelling.{name_word}

-- an item is not below the last of those before it, by a number of each
abbrev pub is_not_below : {A : Type 0} → (A → ℕ) → List A → A → Bool
is_not_below number before x = option_map_or (λ last. nat_le (number last) (number x)) (last_or None before) true

-- Latches: the L lines

-- the index of a CRTC, a commit, the CRTC's count, and the digest of the frame where the CRTC is on
pub record LatchLine : Type 0 where
  pub crtc : ℕ
  pub commit : ℕ
  pub count : ℕ
  pub digest : Option (List ℕ)

abbrev pub latch_from : ℕ × ℕ × ℕ × Option (List ℕ) → LatchLine
latch_from l = record { crtc = l.0; commit = l.1; count = l.2; digest = l.3 }

abbrev pub latches_in : Report → List LatchLine
latches_in r = map latch_from r.latches

-- those of a CRTC
abbrev pub lines_of_crtc : ℕ → List LatchLine → List LatchLine
lines_of_crtc crtc lines = filter (λ l. l.crtc == crtc) lines

abbrev pub same_digest : Option (List ℕ) → Option (List ℕ) → Bool
same_digest None None = true
same_digest (Some d) (Some e) = bytes_eq d e
same_digest _ _ = false

-- the count of the last line, 0 before the first
abbrev pub last_count : List LatchLine → ℕ
last_count lines = option_map_or (λ l. l.count) (last_or None lines) 0

-- A count rises where a picture is latched at a vblank, and does not fall where the CRTC is off.
abbrev pub may_count : Picture → ℕ → ℕ → Bool
may_count Off before count = nat_le before count
may_count (On shown) before count = nat_lt before count

-- a line, behind others of its CRTC, tells what is shown there
abbrev pub tells_of : LatchLine → List LatchLine → Option Pictured → Bool
tells_of l before None = false
tells_of l before (Some p) =
    (l.commit == p.commit) && (same_digest l.digest (digest_shown p.picture p.frame) && may_count p.picture (last_count before) l.count)

-- An L line, by the lines before it: the CRTC is on the device and not below that of the line before; with n lines of this CRTC
-- before, the line tells of the picture number n, from 0, of those that the device of one thread shows there.
unfoldable pub latch_is_right : Script → Report → List LatchLine → LatchLine → Bool
latch_is_right s r before l =
    exists s.topology Crtc l.crtc
    && (is_not_below (λ other. other.crtc) before l
    && tells_of l (lines_of_crtc l.crtc before)
    (slice_get (show s (entries_in r) (object_id Crtc l.crtc)) (length (lines_of_crtc l.crtc before))))

-- Events: the E lines, each a client and an event

-- the event of a reply, if it is one
abbrev pub event_in : Reply → Option Event
event_in (reply.Event e) = Some e
event_in _ = None

-- the events that replies tell a client
abbrev pub events_told : ℕ → List Answered → List Event
events_told client answers = filter_map (λ a. event_in a.reply) (filter (λ a. a.client == client) answers)

abbrev pub same_line : ℕ × Event → ℕ × Event → Bool
same_line e f = (e.0 == f.0) && same_event e.1 f.1

abbrev pub lines_of_client : ℕ → List (ℕ × Event) → List (ℕ × Event)
lines_of_client client lines = filter (λ e. e.0 == client) lines

-- the latch that an L line tells of, without its picture
abbrev pub latch_in : LatchLine → Latch
latch_in l = record { crtc = l.crtc; commit = l.commit; count = l.count; picture = Off }

-- an L line fits an E line: the event is that of the latch for the client, whose commit asks for it
abbrev pub fits_line : Script → Report → ℕ × Event → LatchLine → Bool
fits_line s r e l = option_map_or (same_event e.1) (event_of_latch s.topology (commits_of s (entries_in r)) e.0 (latch_in l)) false

-- Fewer lines before are the same than there are L lines that fit. As all lines that an L line fits are the same, this says
-- that one is left if each line before used the first that fitted and was left (`uses_a_line`).
unfoldable pub has_a_line : Script → Report → List (ℕ × Event) → ℕ × Event → Bool
has_a_line s r before e = nat_lt (length (filter (same_line e) before)) (length (filter (fits_line s r e) (latches_in r)))

-- an E line, by the lines before it: it is the next event that the replies tell its client, and has an L line
unfoldable pub event_is_right : Script → Report → List (ℕ × Event) → ℕ × Event → Bool
event_is_right s r before e =
    is_not_below (λ other. other.0) before e
    && (option_map_or (same_event e.1) (slice_get (events_told e.0 (answers_in r)) (length (lines_of_client e.0 before))) false
    && has_a_line s r before e)

-- no event that a reply tells is left out: so the first line behind the E lines may stand there
unfoldable pub events_are_whole : Report → Bool
events_are_whole r =
    list_all (λ a. length (events_told a.client (answers_in r)) == length (lines_of_client a.client r.events)) (answers_in r)

-- the place of the first L line that fits an E line and is not among those used
abbrev pub first_unused : Script → Report → List ℕ → ℕ × Event → Option ℕ
first_unused s r used e =
    option_map (λ l. l.0) (find (λ l. fits_line s r e l.1 && not (has_number used l.0)) (enumerate_from 0 (latches_in r)))

-- the places of the L lines that are used after some E lines, each of which uses the first that it can
unfoldable pub used_by : Script → Report → List ℕ → List (ℕ × Event) → List ℕ
used_by s r used [] = used
used_by s r used (e ∷ es) = used_by s r (listed (first_unused s r used e) ++ used) es

abbrev pub uses_a_line : Script → Report → List (ℕ × Event) → ℕ × Event → Bool
uses_a_line s r before e = is_some (first_unused s r (used_by s r [] before) e)

-- Framebuffers: the X lines, each a label and an id

abbrev pub is_closed_framebuffer : List (List ℕ) → List ℕ → Option Thing → Bool
is_closed_framebuffer names label None = false
is_closed_framebuffer names label (Some t) = is_framebuffer t.content && (not t.is_open && bytes_eq label (name_word names t.label))

-- an X line, by the lines before it: the thing with the id is a closed framebuffer of that label in the end, and is named once
unfoldable pub freed_is_right : Script → Report → List (List ℕ × ℕ) → List ℕ × ℕ → Bool
freed_is_right s r before x =
    not (list_any (λ other. other.1 == x.1) before)
    && is_closed_framebuffer s.names x.0 (thing_with_id (serial s (entries_in r)).things x.1)

-- The end: the D line

-- the commands of clients, of which the first has a number
abbrev pub commands_from : ℕ → List (List Command) → List Entry
commands_from client [] = []
commands_from client (commands ∷ rest) =
    map (λ n. record { client = client; command = n }) (range_with_len 1 (length commands)) ++ commands_from (client + 1) rest

-- each command has a reply
abbrev pub all_is_answered : Script → Report → Bool
all_is_answered s r = list_all (has_answer r) (commands_from 1 s.clients)

-- on each CRTC all is latched that the device of one thread shows there
abbrev pub all_is_latched : Script → Report → Bool
all_is_latched s r =
    list_all (λ crtc. length (lines_of_crtc crtc (latches_in r)) == length (show s (entries_in r) (object_id Crtc crtc)))
    (indices_of s.topology Crtc)

-- a `fence` command of the journal made a label
abbrev pub label_is_of_fence : Script → Report → List ℕ → Bool
label_is_of_fence s r label =
    option_map_or (λ n. is_made_by_command (thing_labelled (serial s (entries_in r)).things n)) (position (bytes_eq label) s.names) false

abbrev pub is_right_end : Script → Report → End → Bool
is_right_end s r Drained = all_is_answered s r && all_is_latched s r
is_right_end s r (Stalled label) = label_is_of_fence s r label
is_right_end s r (Open count) = true

unfoldable pub end_is_right : Script → Report → Bool
end_is_right s r = is_right_end s r r.end

-- The first line that is not right

-- the number of the line at a place, where the first has a number
abbrev pub number_at : ℕ → Option ℕ → Option ℕ
number_at first place = option_map (λ p. first + p) place

-- The number, from 1, of the first line that is not right; none where each line is. The numbers here are those of the first
-- line behind each letter's lines. Nothing is asked of T lines.
unfoldable pub first_wrong : Script → Report → Option ℕ
first_wrong s r =
    let after_entries = 1 + length r.journal in
    let after_answers = after_entries + length r.replies in
    let after_latches = after_answers + length r.latches in
    let after_events = after_latches + length r.events in
    let after_freed = after_events + length r.freed in
    or_else (number_at 1 (first_off (entry_is_right s) [] (entries_in r)))
    (or_else (number_at after_entries (first_off (answer_is_right s r) [] (answers_in r)))
    (or_else (number_if after_answers (not (answers_are_whole r)))
    (or_else (number_at after_answers (first_off (latch_is_right s r) [] (latches_in r)))
    (or_else (number_at after_latches (first_off (event_is_right s r) [] r.events))
    (or_else (number_if after_events (not (events_are_whole r)))
    (or_else (number_at after_events (first_off (freed_is_right s r) [] r.freed))
    (number_if after_freed (not (end_is_right s r)))))))))

abbrev pub wrong_in : Script → Result Report ℕ → Option ℕ
wrong_in s (Err number) = Some number
wrong_in s (Ok r) = first_wrong s r

-- The number, from 1, of the first line of a report's bytes that is not the device's: the first line that no report has there,
-- and then no other rule is tried, or else the first that is not right. None where each line is right.
abbrev pub wrong_line : Script → List ℕ → Option ℕ
wrong_line s bytes = wrong_in s (report_read bytes)
