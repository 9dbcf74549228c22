-- What a report whose lines are all right tells of the device of one thread, whoever wrote it. Said plainly: the times of X
-- lines, exact counts and T lines are not compared, and Busy and Space only as far as the definition of a right reply says.
use Rattle.std.specs.Prelude.{◌≡◌, ℕ, ◌<◌, true, List, map, take, Option, Some, None, slice_get}
use Rattle.std.specs.List.{All}
use Rattle.kms_model.specs.declared.objects.Kind.TheVariants.{Crtc}
use Rattle.kms_model.specs.declared.reports.End.TheVariants.{Drained}
use Rattle.kms_model.specs.declared.reports.Report.{Report}
use Rattle.kms_model.specs.declared.scripts.Script.{Script}
use Rattle.kms_model.specs.Device.Objects.{object_id}
use Rattle.kms_model.specs.Device.Serial.{Entry, Pictured, command_of, serial, show}
use Rattle.kms_model.specs.Headline.{IsPrefixOf, StandsAtPlace}
use Rattle.kms_model.specs.Report.Right.{LatchLine, first_wrong, latches_in, lines_of_crtc}
use Rattle.kms_model.specs.Report.RightAnswers.{answers_in, entries_in, is_entered_in}
use Rattle.kms_model.specs.Report.SeenReport.{digest_shown}
use Rattle.kms_model.specs.Script.WellFormed.{IsWellFormed}

-- a commit, and the digest of what it makes a CRTC show; none where the CRTC is off
pub record Told : Type 0 where
  pub commit : ℕ
  pub digest : Option (List ℕ)

abbrev pub told_by : LatchLine → Told
told_by l = record { commit = l.commit; digest = l.digest }

abbrev pub told_of : Pictured → Told
told_of p = record { commit = p.commit; digest = digest_shown p.picture p.frame }

-- what L lines tell of a CRTC, and what the device of one thread shows there
abbrev pub told_in : Report → ℕ → List Told
told_in r crtc = map told_by (lines_of_crtc crtc (latches_in r))

abbrev pub shown_in_journal : Script → Report → ℕ → List Told
shown_in_journal s r crtc = map told_of (show s (entries_in r) (object_id Crtc crtc))

-- an entry is a command that is accepted after those before it
abbrev pub IsEnteredAt : Script → Report → ℕ → Entry → Type 0
IsEnteredAt s r place e = is_entered_in s.topology (serial s (take place (entries_in r))) e.client (command_of s e) ≡ true

pub record Implied (s : Script) (r : Report) : Type 0 where
  pub entries : (place : ℕ) (e : Entry) → slice_get (entries_in r) place ≡ Some e → IsEnteredAt s r place e
  pub in_order : (crtc : ℕ) → crtc < s.topology.crtcs → IsPrefixOf (told_in r crtc) (shown_in_journal s r crtc)
  pub all_of_them : r.end ≡ Drained → (crtc : ℕ) → crtc < s.topology.crtcs → told_in r crtc ≡ shown_in_journal s r crtc
  pub verdicts : All (StandsAtPlace s (entries_in r)) (answers_in r)

abbrev pub YesImplies : Type 0
YesImplies = (s : Script) (r : Report) → IsWellFormed s → first_wrong s r ≡ None → Implied s r
