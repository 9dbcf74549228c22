-- The parts of a report, by what the machine tells.
use Rattle.std.specs.Prelude.{ℕ, ◌==◌, ◌≤◌, Bool, List, [], ◌∷◌, ◌++◌, codes, filter, slice_index_or}
use Rattle.std.specs.List.{flat_map}
use Rattle.std.specs.Fmt.{decimal}
use Rattle.std.specs.Option.{ForSome}
use Rattle.kms_model.specs.declared.objects.Mode.{Mode}
use Rattle.kms_model.specs.declared.replies.Answered.{Answered}
use Rattle.kms_model.specs.declared.replies.Step.{Step}
use Rattle.kms_model.specs.declared.runs.Latch.{Latch}
use Rattle.kms_model.specs.Frames.Ppm.{ppm}
use Rattle.kms_model.specs.declared.scripts.Script.{Script}
use Rattle.kms_model.specs.Machine.Histories.{client_numbers}
use Rattle.kms_model.specs.Machine.State.{Machine}
use Rattle.kms_model.specs.Report.History.{digest_of}
use Rattle.kms_model.specs.Report.History as history
use Rattle.kms_model.specs.Report.TextLines.{line}
use Rattle.kms_script.specs.Scheduled.{index_in_step}
use Rattle.kms_model.specs.Report.Right.{events_told}
use Rattle.kms_report.specs.declared.answers.Section.{Section}
use Rattle.kms_report.specs.declared.answers.Section.TheVariants.{Events, Replies}
use Rattle.kms_report.specs.declared.histories.Options.{Options}

-- what is asked for besides the lines, in the words of the definition of a report
abbrev pub history_options : Options → history.Options
history_options o = record { trace = o.trace; ppm = o.ppm }

-- `J CLIENT COMMAND`, of an entry's client and command
abbrev pub entry_text : ℕ × ℕ → List ℕ
entry_text e = line (codes "J" ∷ decimal e.0 ∷ decimal e.1 ∷ [])

-- the lines of the replies to a client
abbrev pub replies_text : List Answered → ℕ → List ℕ
replies_text answers client = flat_map history.answer_line (filter (λ a. a.client == client) answers)

-- The lines of the replies to all clients, in order of client: the second part of a report.
abbrev pub all_replies : Script → Machine → List ℕ
all_replies s m = flat_map (λ client. flat_map history.answer_line (history.answers_to m client)) (client_numbers s)

-- the front of the line of a latch
abbrev pub latch_front : Latch → List ℕ
latch_front l = codes "L " ++ (decimal l.crtc ++ 32 ∷ (decimal l.commit ++ 32 ∷ (decimal l.count ++ 32 ∷ [])))

-- the end of the line of a latch that is on: its digest, and the frame as a pixmap where it is wanted
abbrev pub lit_line : Bool → Mode → List ℕ → List ℕ
lit_line pixmap m frame = (digest_of frame ++ 10 ∷ []) ++ history.if_wanted pixmap (ppm frame m.hdisplay m.vdisplay)

-- the lines of a CRTC's latches
abbrev pub latches_text : Machine → Bool → List Latch → ℕ → List ℕ
latches_text m pixmap latches crtc = flat_map (history.latch_line m pixmap) (filter (λ l. l.crtc == crtc) latches)

-- the lines of the events that a client's replies tell
abbrev pub events_text : List Answered → ℕ → List ℕ
events_text answers client = flat_map (history.event_line client) (events_told client answers)

-- a section for a client
abbrev pub section_text : Section → List Answered → ℕ → List ℕ
section_text Replies answers client = replies_text answers client
section_text Events answers client = events_text answers client

-- `X LABEL ID`, of a framebuffer's label and id
abbrev pub freed_text : List (List ℕ) → ℕ × ℕ → List ℕ
freed_text names fb = line (codes "X" ∷ slice_index_or names fb.0 [] ∷ decimal fb.1 ∷ [])

-- the index of the object that a step names, where it names one, is at most 255
abbrev pub HasSmallIndex : Step → Type 0
HasSmallIndex step = ForSome (index_in_step step) (λ index. index ≤ 255)
