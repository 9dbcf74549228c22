-- Reports without pixmaps, both ways: the report that bytes spell, or the first line that may not stand, and the text of a
-- report. Each value has one spelling, but a busy reply on an object beyond index 99, which none is. This device's own.
use Rattle.std.specs.Prelude.{ℕ, ◌+◌, Bool, ◌==◌, nat_le, List, [], ◌∷◌, ◌++◌, length, map, Option, Some, None, option_map, Result, Ok, Err}
use Rattle.std.specs.Prelude.{if◌then◌else◌, codes}
use Rattle.std.specs.Fmt.{decimal}
use Rattle.std.specs.List.{filter_map, flat_map}
use Rattle.std.specs.Str.{bytes_eq}
use Rattle.hex.specs.Hex.{encode_lower}
use Rattle.kms_model.specs.declared.replies.Event.{Event}
use Rattle.kms_model.specs.declared.replies.Reply.{Reply}
use Rattle.kms_model.specs.declared.replies.Step.{Step}
use Rattle.kms_model.specs.declared.reports.End.{End}
use Rattle.kms_model.specs.declared.reports.End.TheVariants.{Drained, Stalled, Open}
use Rattle.kms_model.specs.declared.reports.Report.{Report}
use Rattle.kms_model.specs.declared.reports.ReportLine.{ReportLine}
use Rattle.kms_model.specs.declared.reports.ReportLine.TheVariants as says
use Rattle.kms_model.specs.Report.History.{answer_line, entry_line, event_line, step_line}
use Rattle.kms_model.specs.Report.ReplyFields.{word32_at, word64_at, lone_number, event_fields, reply_read}
use Rattle.kms_model.specs.Report.TextLines.{line}
use Rattle.kms_model.specs.Script.CommandLines.{label_alone}
use Rattle.kms_model.specs.Script.Grammar.{hex_bytes}
use Rattle.kms_model.specs.Script.InputLines.{Row, rows_of}
use Rattle.kms_model.specs.Script.Schedules.{step_read}
use Rattle.kms_model.specs.Script.Words.{◌>>=◌, until, from, field_at, label_at, end_at}

-- Lines: of each the fields behind its letter

-- `CLIENT COMMAND`
unfoldable pub entry_read : List ℕ → Option ReportLine
entry_read bytes = do
  client ← word32_at bytes
  command ← lone_number client.1
  Some (says.Entry client.0 command)

-- `CLIENT COMMAND PLACE REPLY`
unfoldable pub answer_read : List ℕ → Option ReportLine
answer_read bytes = do
  client ← word32_at bytes
  command ← word32_at client.1
  place ← word32_at command.1
  answer ← reply_read place.1
  Some (says.Answer client.0 command.0 place.0 answer)

-- `off`, or 32 bytes as 64 lower-case hexadecimal digits
unfoldable pub digest_in : List ℕ → Option (Option (List ℕ))
digest_in word =
    if bytes_eq word (codes "off") then Some None
    else (if length word == 64 then option_map (λ bytes. Some bytes) (hex_bytes word) else None)

-- `CRTC COMMIT COUNT DIGEST`
unfoldable pub latch_read : List ℕ → Option ReportLine
latch_read bytes = do
  crtc ← word32_at bytes
  commit ← word32_at crtc.1
  count ← word64_at commit.1
  word ← field_at count.1
  _ ← end_at word.1
  digest ← digest_in word.0
  Some (says.Latch crtc.0 commit.0 count.0 digest)

-- `CLIENT` and an event
unfoldable pub client_event_read : List ℕ → Option ReportLine
client_event_read bytes = do
  client ← word32_at bytes
  event ← event_fields client.1
  Some (says.Event client.0 event)

-- `LABEL ID`
unfoldable pub freed_read : List ℕ → Option ReportLine
freed_read bytes = do
  label ← label_at bytes
  id ← lone_number label.1
  Some (says.Freed label.0 id)

-- how many steps there were, at the end of a line
unfoldable pub open_read : List ℕ → Option End
open_read bytes = do
  count ← word64_at bytes
  _ ← end_at count.1
  Some (Open count.0)

-- `drained`, `stalled LABEL` or `open N`
unfoldable pub end_read : List ℕ → Option End
end_read bytes = do
  word ← field_at bytes
  if bytes_eq word.0 (codes "drained") then option_map (λ _. Drained) (end_at word.1)
      else (if bytes_eq word.0 (codes "stalled") then option_map (λ label. Stalled label) (label_alone word.1)
      else (if bytes_eq word.0 (codes "open") then open_read word.1 else None))

-- what a line says, without its line feed: its letter tells which line it is
unfoldable pub report_line_read : List ℕ → Option ReportLine
report_line_read text =
    let letter = until 32 text in let fields = from 32 text in
    if bytes_eq letter (codes "J") then entry_read fields
    else (if bytes_eq letter (codes "R") then answer_read fields
    else (if bytes_eq letter (codes "L") then latch_read fields
    else (if bytes_eq letter (codes "E") then client_event_read fields
    else (if bytes_eq letter (codes "X") then freed_read fields
    else (if bytes_eq letter (codes "D") then option_map (λ end. says.Ended end) (end_read fields)
    else option_map (λ step. says.Stepped step) (step_read text))))))

-- Lines of a report: in the order of the letters J, R, L, E, X, D and T, with one D line

-- the place of a line's letter in this order
abbrev pub letter_place : ReportLine → ℕ
letter_place (says.Entry client command) = 0
letter_place (says.Answer client command place answer) = 1
letter_place (says.Latch crtc commit count digest) = 2
letter_place (says.Event client event) = 3
letter_place (says.Freed label id) = 4
letter_place (says.Ended end) = 5
letter_place (says.Stepped step) = 6

-- the least letter behind a line: no second D line follows
abbrev pub least_behind : ReportLine → ℕ
least_behind (says.Ended end) = 6
least_behind l = letter_place l

-- a line may stand where that letter is the least: a T line behind the D line alone
abbrev pub may_stand : ℕ → ReportLine → Bool
may_stand least (says.Stepped step) = least == 6
may_stand least l = nat_le least (letter_place l)

abbrev pub if_it_may_stand : ℕ → Option ReportLine → Option ReportLine
if_it_may_stand least None = None
if_it_may_stand least (Some l) = if may_stand least l then Some l else None

-- what a row says, where it may stand (no line that is read has a byte outside of 0x20 to 0x7e)
unfoldable pub report_row_read : ℕ → Row → Option ReportLine
report_row_read least row = if row.is_ended then if_it_may_stand least (report_line_read row.text) else None

abbrev pub or_line : ℕ → Option ReportLine → (ReportLine → Result (List ReportLine) ℕ) → Result (List ReportLine) ℕ
or_line number None f = Err number
or_line number (Some l) f = f l

abbrev pub with_line : ReportLine → Result (List ReportLine) ℕ → Result (List ReportLine) ℕ
with_line l (Err number) = Err number
with_line l (Ok ls) = Ok (l ∷ ls)

-- What rows say, where a letter is the least and the first row has a number; or the number of the first row that may not
-- stand. Where the rows end without a D line, that is the number after the last.
unfoldable pub report_lines_read : ℕ → ℕ → List Row → Result (List ReportLine) ℕ
report_lines_read least number [] = if least == 6 then Ok [] else Err number
report_lines_read least number (row ∷ rows) =
    or_line number (report_row_read least row) (λ l. with_line l (report_lines_read (least_behind l) (number + 1) rows))

-- Lines as one value, and back

abbrev pub entry_said : ReportLine → Option (ℕ × ℕ)
entry_said (says.Entry client command) = Some (client, command)
entry_said _ = None

abbrev pub answer_said : ReportLine → Option (ℕ × ℕ × ℕ × Reply)
answer_said (says.Answer client command place answer) = Some (client, command, place, answer)
answer_said _ = None

abbrev pub latch_said : ReportLine → Option (ℕ × ℕ × ℕ × Option (List ℕ))
latch_said (says.Latch crtc commit count digest) = Some (crtc, commit, count, digest)
latch_said _ = None

abbrev pub event_said : ReportLine → Option (ℕ × Event)
event_said (says.Event client event) = Some (client, event)
event_said _ = None

abbrev pub freed_said : ReportLine → Option (List ℕ × ℕ)
freed_said (says.Freed label id) = Some (label, id)
freed_said _ = None

abbrev pub step_said : ReportLine → Option Step
step_said (says.Stepped step) = Some step
step_said _ = None

-- the end of lines that have one D line
abbrev pub end_said : List ReportLine → End
end_said [] = Drained
end_said (says.Ended end ∷ ls) = end
end_said (l ∷ ls) = end_said ls

-- the report of its lines
abbrev pub grouped : List ReportLine → Report
grouped ls = record {
  journal = filter_map entry_said ls;
  replies = filter_map answer_said ls;
  latches = filter_map latch_said ls;
  events = filter_map event_said ls;
  freed = filter_map freed_said ls;
  end = end_said ls;
  steps = filter_map step_said ls;
}

-- the lines of a report, in order
abbrev pub lines_of : Report → List ReportLine
lines_of r =
    map (λ e. says.Entry e.0 e.1) r.journal
    ++ (map (λ a. says.Answer a.0 a.1 a.2 a.3) r.replies
    ++ (map (λ l. says.Latch l.0 l.1 l.2 l.3) r.latches
    ++ (map (λ e. says.Event e.0 e.1) r.events
    ++ (map (λ x. says.Freed x.0 x.1) r.freed
    ++ (says.Ended r.end ∷ map (λ step. says.Stepped step) r.steps)))))

abbrev pub grouped_where_read : Result (List ReportLine) ℕ → Result Report ℕ
grouped_where_read (Err number) = Err number
grouped_where_read (Ok ls) = Ok (grouped ls)

-- the report that bytes spell, or the number, from 1, of the first line that may not stand
unfoldable pub report_read : List ℕ → Result Report ℕ
report_read bytes = grouped_where_read (report_lines_read 0 1 (rows_of bytes))

-- The text of a report

abbrev pub digest_word : Option (List ℕ) → List ℕ
digest_word None = codes "off"
digest_word (Some digest) = encode_lower digest

abbrev pub ending_words : End → List (List ℕ)
ending_words Drained = codes "drained" ∷ []
ending_words (Stalled label) = codes "stalled" ∷ label ∷ []
ending_words (Open count) = codes "open" ∷ decimal count ∷ []

-- a line with its line feed
abbrev pub line_text : ReportLine → List ℕ
line_text (says.Entry client command) = entry_line (record { client = client; command = command })
line_text (says.Answer client command place answer) =
    answer_line (record { client = client; command = command; place = place; reply = answer })
line_text (says.Latch crtc commit count digest) = line (codes "L" ∷ decimal crtc ∷ decimal commit ∷ decimal count ∷ digest_word digest ∷ [])
line_text (says.Event client event) = event_line client event
line_text (says.Freed label id) = line (codes "X" ∷ label ∷ decimal id ∷ [])
line_text (says.Ended end) = line (codes "D" ∷ ending_words end)
line_text (says.Stepped step) = step_line step

-- the text of a report
abbrev pub report_text : Report → List ℕ
report_text r = flat_map line_text (lines_of r)
