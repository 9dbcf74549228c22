-- Parts of the lines of a report, as the reader takes them.
use Rattle.std.specs.Prelude.{◌≡◌, ℕ, List, Option, Some, None, option_map, codes, if◌then◌else◌}
use Rattle.std.specs.Str.{bytes_eq}
use Rattle.kms_model.specs.declared.replies.Reply.{Reply}
use Rattle.kms_model.specs.declared.reports.End.{End}
use Rattle.kms_model.specs.declared.reports.End.TheVariants.{Drained, Stalled}
use Rattle.kms_model.specs.declared.reports.ReportLine.{ReportLine}
use Rattle.kms_model.specs.declared.reports.ReportLine.TheVariants as says
use Rattle.kms_model.specs.Report.ReplyFields.{busy_read, lone_number, refusal_read, space_read, word32_at, word64_at}
use Rattle.kms_model.specs.Report.ReportLines.{end_read, freed_read, open_read}
use Rattle.kms_model.specs.Report.Rules.{ENOMEM, EBUSY}
use Rattle.kms_model.specs.Script.CommandLines.{label_alone}
use Rattle.kms_model.specs.Script.Grammar.{hex_bytes}
use Rattle.kms_model.specs.Script.Schedules.{step_read}
use Rattle.kms_model.specs.Script.Words.{◌>>=◌, end_at, field_at, label_at}

-- the reply that begins with the name of an error number, by the fields behind it
abbrev pub refused_reply : List ℕ → List ℕ → Option Reply
refused_reply word fields =
    if bytes_eq word ENOMEM then space_read fields
    else (if bytes_eq word EBUSY then busy_read fields
    else refusal_read word fields)

-- the bytes of a word of hexadecimal digits
abbrev pub IsDigest : List ℕ → Option (List ℕ) → Type 0
IsDigest word digest = digest ≡ hex_bytes word

-- `CRTC COMMIT COUNT`, and the word at the end of the line
unfoldable pub latch_words : List ℕ → Option (ℕ × ℕ × ℕ × List ℕ)
latch_words bytes = do
  crtc ← word32_at bytes
  commit ← word32_at crtc.1
  count ← word64_at commit.1
  word ← field_at count.1
  _ ← end_at word.1
  Some (crtc.0, commit.0, count.0, word.0)

-- the label and the number at the end of a line
unfoldable pub freed_words : List ℕ → Option (List ℕ × ℕ)
freed_words bytes = do
  label ← label_at bytes
  id ← lone_number label.1
  Some (label.0, id)

-- the ends of histories, by the fields behind their words
abbrev pub drained_read : List ℕ → Option End
drained_read bytes = option_map (λ _. Drained) (end_at bytes)

abbrev pub stalled_read : List ℕ → Option End
stalled_read bytes = option_map (λ label. Stalled label) (label_alone bytes)

-- how a history ended, by a word and the fields behind it
abbrev pub end_of_word : List ℕ → List ℕ → Option End
end_of_word word rest =
    if bytes_eq word (codes "drained") then drained_read rest
    else (if bytes_eq word (codes "stalled") then stalled_read rest
    else (if bytes_eq word (codes "open") then open_read rest else None))

-- what the last three letters say
abbrev pub ended_read : List ℕ → Option ReportLine
ended_read fields = option_map (λ end. says.Ended end) (end_read fields)

abbrev pub stepped_read : List ℕ → Option ReportLine
stepped_read text = option_map (λ step. says.Stepped step) (step_read text)

-- what a line says that is none of the first four letters
abbrev pub later_line_read : List ℕ → List ℕ → List ℕ → Option ReportLine
later_line_read letter fields text =
    if bytes_eq letter (codes "X") then freed_read fields
    else (if bytes_eq letter (codes "D") then ended_read fields
    else stepped_read text)
