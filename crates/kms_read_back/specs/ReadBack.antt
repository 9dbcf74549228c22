-- Reports and their texts: each report whose values a line can spell has one text.
use Rattle.std.specs.Prelude.{◌≡◌, ◌<◌, ℕ, ◌^◌, Bool, true, false, List, length, Option, Some, None, Ok, All, ⊤}
use Rattle.kms_model.specs.declared.replies.Event.{Event}
use Rattle.kms_model.specs.declared.replies.Reply.{Reply}
use Rattle.kms_model.specs.declared.replies.Reply.TheVariants as reply
use Rattle.kms_model.specs.declared.reports.End.{End}
use Rattle.kms_model.specs.declared.reports.End.TheVariants.{Drained, Stalled, Open}
use Rattle.kms_model.specs.declared.reports.Report.{Report}
use Rattle.kms_model.specs.Promises.{FreesEachOnce, InEachHistory}
use Rattle.kms_model.specs.Report.History.{text}
use Rattle.kms_model.specs.Report.ReportLines.{report_read, report_text}
use Rattle.kms_model.specs.Report.Right.{wrong_line}
use Rattle.kms_told.specs.Told.{seen_with}
use Rattle.kms_model.specs.Script.Schedules.{IsFitNumber, IsFitStep}
use Rattle.kms_model.specs.Script.Words.{between, is_label}

-- a number below 2^64
abbrev pub IsLong : ℕ → Type 0
IsLong n = n < 2 ^ 64

-- the id of an object of an index below 100, of any kind
abbrev pub IsNear : ℕ → Type 0
IsNear id = between 100 499 id ≡ true

pub record IsFitEvent (e : Event) : Type 0 where
  pub user_data : IsLong e.user_data
  pub sequence : IsFitNumber e.sequence
  pub crtc : IsFitNumber e.crtc

-- a reply that a line can spell
abbrev pub IsFitReply : Reply → Type 0
IsFitReply (reply.Made id) = IsFitNumber id
IsFitReply reply.Done = ⊤
IsFitReply (reply.Commit k) = IsFitNumber k
IsFitReply reply.Tested = ⊤
IsFitReply (reply.Refused n) = between 1 24 n.0 ≡ true
IsFitReply (reply.Space used) = IsFitNumber used
IsFitReply (reply.Busy object k) = IsNear object.0 × IsFitNumber k
IsFitReply (reply.Denied n) = between 31 35 n ≡ true
IsFitReply (reply.Event e) = IsFitEvent e
IsFitReply reply.NoEvent = ⊤

-- 32 bytes, or none
abbrev pub IsFitDigest : Option (List ℕ) → Type 0
IsFitDigest None = ⊤
IsFitDigest (Some digest) = (length digest ≡ 32) × All (λ b. b < 256) digest

abbrev pub IsFitLabel : List ℕ → Type 0
IsFitLabel label = is_label label ≡ true

abbrev pub IsFitEnd : End → Type 0
IsFitEnd Drained = ⊤
IsFitEnd (Stalled label) = IsFitLabel label
IsFitEnd (Open count) = IsLong count

-- what a line tells besides its letter
abbrev pub IsFitEntry : ℕ × ℕ → Type 0
IsFitEntry e = IsFitNumber e.0 × IsFitNumber e.1

abbrev pub IsFitAnswer : ℕ × ℕ × ℕ × Reply → Type 0
IsFitAnswer a = IsFitNumber a.0 × IsFitNumber a.1 × IsFitNumber a.2 × IsFitReply a.3

abbrev pub IsFitLatch : ℕ × ℕ × ℕ × Option (List ℕ) → Type 0
IsFitLatch l = IsFitNumber l.0 × IsFitNumber l.1 × IsLong l.2 × IsFitDigest l.3

abbrev pub IsFitTold : ℕ × Event → Type 0
IsFitTold e = IsFitNumber e.0 × IsFitEvent e.1

abbrev pub IsFitFreed : List ℕ × ℕ → Type 0
IsFitFreed x = IsFitLabel x.0 × IsFitNumber x.1

-- a report whose values lines can spell
pub record IsFitReport (r : Report) : Type 0 where
  pub journal : All IsFitEntry r.journal
  pub replies : All IsFitAnswer r.replies
  pub latches : All IsFitLatch r.latches
  pub events : All IsFitTold r.events
  pub freed : All IsFitFreed r.freed
  pub end : IsFitEnd r.end
  pub steps : All IsFitStep r.steps

abbrev pub ReportsAreReadBack : Type 0
ReportsAreReadBack = (r : Report) → IsFitReport r → report_read (report_text r) ≡ Ok r

-- The text of a history's report without pixmaps is read as that report, as a value, where its steps can be counted.
abbrev pub HistoriesAreReadBack : Type 0
HistoriesAreReadBack = InEachHistory (λ s h. (trace : Bool) → IsLong (length h)
    → report_read (text s h (record { trace = trace; ppm = false })) ≡ Ok (seen_with s h trace))

-- So no line of it is wrong, where what it frees is as the law of `kms_core` says of each.
abbrev pub HistoriesAreRight : Type 0
HistoriesAreRight = InEachHistory (λ s h. FreesEachOnce s h → (trace : Bool) → IsLong (length h)
    → wrong_line s (text s h (record { trace = trace; ppm = false })) ≡ None)
